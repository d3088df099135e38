-- The recipe of a trace: what a specification does, as the words of a seed have it.
--
-- Each draw takes a word. Where a transition may fire, the word mostly has one of them fire; else a
-- second word has an interaction arrive or time pass.
use Rattle.std.specs.Prelude.{◌≡◌, ℕ, ◌+◌, ◌<◌, ◌≤◌, ◌/◌, ◌%◌, ◌⊎◌, List, [], ◌∷◌, ◌++◌}
use Rattle.std.specs.Prelude.{Some, length, slice_get, reverse}
use Rattle.rand_core.specs.Stream.{Stream}
use Rattle.est_syntax.specs.declared.ports.Port.{Port}
use Rattle.est_syntax.specs.declared.ports.Signal.{Signal}
use Rattle.est_syntax.specs.declared.specification.Spec.{Spec}
use Rattle.est_meaning.specs.rule_declares.PortList.{ports_of}
use Rattle.est_meaning.specs.mean_blocks.declared.fault.BlockFault.{BlockFault}
use Rattle.est_meaning.specs.mean_blocks.GlobalSituation.{Situation}
use Rattle.est_meaning.specs.mean_blocks.Outcome.{Done, Fault, Limit}
use Rattle.est_meaning.specs.mean_blocks.TextByPlace.{text_of}
use Rattle.est_meaning.specs.declared.event.Event.{Event}
use Rattle.est_meaning.specs.declared.event.Event.TheVariants as event
use Rattle.est_meaning.specs.declared.event.Interaction.{Interaction}
use Rattle.est_meaning.specs.declared.firing.Firing.{Firing}
use Rattle.est_meaning.specs.FiringSteps.{IsStep, outcome, start_of}
use Rattle.est_meaning.specs.OutsideEvents.{after_event}
use Rattle.est_meaning.specs.RecordedTraces.{Recorded, known_trace}
use Rattle.est_meaning.specs.TransitionSelection.{IsSettled}
use Rattle.est_meaning.specs.PossibleFirings.{AreOptions}
use Rattle.est_meaning.specs.declared.run.Move.{Move}
use Rattle.est_meaning.specs.declared.run.Move.TheVariants.{Take, Fire}
use Rattle.est_meaning.specs.Task.{setup_from}
use Rattle.est_meaning.specs.Run.{Setup, Explains, silent_after}
use Rattle.run_make.specs.declared.arrivals.Arrival.{Arrival}
use Rattle.run_make.specs.declared.made.Made.{Made}
use Rattle.run_make.specs.declared.made.Made.TheVariants as made
use Rattle.run_make.specs.Arrivals.{arrivals_of}
use Rattle.run_make.specs.DrawnValues.{DrawsValues}
use Rattle.run_make.specs.Words.{IsDrawn, words_of}

-- what is run, its limit of statements, and how many draws in a row may fire without an event
pub record Task : Type 0 where
  pub spec : Spec
  pub limit : ℕ
  pub silent : ℕ

-- the task of a specification
abbrev pub task_of : ℕ → ℕ → Spec → Task
task_of limit silent spec = record { spec = spec; limit = limit; silent = silent }

-- how far a trace is made: the words that are left, the moves from the last one back, where they
-- lead, the events so far, and how many firings since the last event were silent or faulted
pub record Standing : Type 0 where
  pub words : Stream
  pub run : List Move
  pub situation : Situation
  pub events : List Event
  pub idle : ℕ

-- before the first draw
abbrev pub first_standing : ℕ → Situation → List Event → Standing
first_standing seed s outs =
    record { words = words_of seed; run = []; situation = s; events = outs; idle = 0 }

-- FIRINGS

-- the word asks for a firing, and the last firings were not idle too often
pub record AsksToFire (t : Task) (p : Standing) (w : ℕ) : Type 0 where
  pub word : w % 4 < 3
  pub few : p.idle < t.silent

-- the word chooses this firing of the possible ones
pub record Chooses (t : Task) (p : Standing) (w : ℕ) (f : Firing) : Type 0 where
  pub asks : AsksToFire t p w
  pub firings : List Firing
  pub options : AreOptions t.limit (text_of t.spec) p.situation firings
  pub chosen : slice_get firings (w / 4 % length firings) ≡ Some f

-- nothing fires: the word does not ask for it, or nothing can fire
pub data HoldsBack (t : Task) (p : Standing) (w : ℕ) : Type 0 where
  unasked : (AsksToFire t p w → ⊥) → HoldsBack t p w
  impossible : IsSettled t.limit (text_of t.spec) p.situation
      → AreOptions t.limit (text_of t.spec) p.situation [] → HoldsBack t p w

-- the standing after a step
abbrev pub after_step : Standing → Stream → Firing → Situation → List Event → Standing
after_step p left f s outs = record {
  words = left;
  run = Fire f ∷ p.run;
  situation = s;
  events = p.events ++ outs;
  idle = silent_after p.idle outs;
}

-- the standing after a firing that faults, which is no move
abbrev pub after_fault : Standing → Stream → Standing
after_fault p left = record p { words = left; idle = p.idle + 1 }

-- WHAT THE OUTSIDE DOES

-- the word and those after it draw an interaction at one of these ports: the first one a port and a
-- signal that it receives, the others its values
pub record DrawsInteraction (ports : List Port) (w : ℕ) (words : Stream) (i : Interaction)
    (left : Stream) : Type 0 where
  pub even : w % 2 ≡ 0
  pub arrival : Arrival
  pub chosen : slice_get (arrivals_of ports) (w / 2 % length (arrivals_of ports)) ≡ Some arrival
  pub port : Port
  pub port_is : slice_get ports arrival.port ≡ Some port
  pub signal : Signal
  pub signal_is : slice_get port.signals arrival.signal ≡ Some signal
  pub values : DrawsValues signal.kinds words i.values left
  pub port_number : i.port ≡ arrival.port
  pub signal_number : i.signal ≡ arrival.signal

-- the word has so many units of time pass: it does not ask for an arrival, or nothing can arrive
pub record DrawsTime (ports : List Port) (w units : ℕ) : Type 0 where
  pub none : (w % 2 ≡ 1) ⊎ (arrivals_of ports ≡ [])
  pub units_are : units ≡ w / 2 % 10 + 1

-- the words draw an event from outside
pub data DrawsOutside (ports : List Port) (words : Stream) : Event → Stream → Type 0 where
  arrives : {left : Stream} (w : ℕ) (next : Stream) (i : Interaction) → IsDrawn words w next
      → DrawsInteraction ports w next i left → DrawsOutside ports words (event.Arrives i) left
  passes : {left : Stream} (w units : ℕ) → IsDrawn words w left → DrawsTime ports w units
      → DrawsOutside ports words (event.Passes units) left

-- the standing after an event from outside
abbrev pub after_outside : Task → Standing → Stream → Event → Standing
after_outside t p left e = record {
  words = left;
  run = Take ∷ p.run;
  situation = after_event (text_of t.spec) p.situation e;
  events = p.events ++ e ∷ [];
  idle = 0;
}

-- DRAWS

-- one draw leads from a standing to another
pub data Draws (t : Task) (p : Standing) : Standing → Type 0 where
  fires : (w : ℕ) (left : Stream) (f : Firing) (s : Situation) (outs : List Event)
      → IsDrawn p.words w left → Chooses t p w f
      → IsStep t.limit (text_of t.spec) p.situation f s outs
      → Draws t p (after_step p left f s outs)
  faults : (w : ℕ) (left : Stream) (f : Firing) (fault : BlockFault)
      → IsDrawn p.words w left → Chooses t p w f
      → outcome t.limit (text_of t.spec) p.situation f ≡ Fault fault
      → Draws t p (after_fault p left)
  happens : (w : ℕ) (next left : Stream) (e : Event) → IsDrawn p.words w next → HoldsBack t p w
      → DrawsOutside (ports_of t.spec) next e left → Draws t p (after_outside t p left e)

-- the next draw passes a limit: a guard does, or the block of the firing that is chosen
pub data PassesLimit (t : Task) (p : Standing) : Type 0 where
  guards : (w : ℕ) (left : Stream) → IsDrawn p.words w left → AsksToFire t p w
      → (IsSettled t.limit (text_of t.spec) p.situation → ⊥) → PassesLimit t p
  block : (w : ℕ) (left : Stream) (f : Firing) → IsDrawn p.words w left → Chooses t p w f
      → outcome t.limit (text_of t.spec) p.situation f ≡ Limit → PassesLimit t p

-- draws lead from a standing to another, each made while there were too few events
pub data Leads (t : Task) (count : ℕ) (p : Standing) : Standing → Type 0 where
  here : Leads t count p p
  further : {q r : Standing} → Leads t count p q → length q.events < count → Draws t q r
      → Leads t count p r

-- draws lead there from the start
pub record Makes (t : Task) (seed count : ℕ) (p : Standing) : Type 0 where
  pub start : Situation
  pub outs : List Event
  pub ready : start_of t.limit (text_of t.spec) ≡ Done outs start
  pub leads : Leads t count (first_standing seed start outs) p

-- WHAT IS MADE

-- the draws end with this trace and this run, as there are as many events as were asked for
pub record IsMadeTrace (t : Task) (seed count : ℕ) (trace : Recorded) (run : List Move)
    : Type 0 where
  pub last : Standing
  pub makes : Makes t seed count last
  pub enough : count ≤ length last.events
  pub trace_is : trace ≡ known_trace last.events
  pub run_is : reverse run ≡ last.run

-- the draws end after this run, as the next one passes a limit
pub record EndsByLimit (t : Task) (seed count : ℕ) (run : List Move) : Type 0 where
  pub last : Standing
  pub makes : Makes t seed count last
  pub short : length last.events < count
  pub passes : PassesLimit t last
  pub run_is : reverse run ≡ last.run

-- what is made of a specification
abbrev pub IsMade : Task → ℕ → ℕ → Made → Type 0
IsMade t seed count (made.Trace trace run) = IsMadeTrace t seed count trace run
IsMade t seed count (made.NoStart fault) = start_of t.limit (text_of t.spec) ≡ Fault fault
IsMade t seed count made.StartLimit = start_of t.limit (text_of t.spec) ≡ Limit
IsMade t seed count (made.Limit run) = EndsByLimit t seed count run

-- LAWS

-- the runs of a task along a trace
abbrev pub setup_along : Task → Recorded → Situation → List Event → Setup
setup_along t trace start outs = setup_from t.limit t.silent t.spec trace start outs

-- from the start of the specification the run is bounded, and it explains the trace
pub record IsExplained (t : Task) (trace : Recorded) (run : List Move) : Type 0 where
  pub start : Situation
  pub outs : List Event
  pub ready : start_of t.limit (text_of t.spec) ≡ Done outs start
  pub explains : Explains (setup_along t trace start outs) (reverse run)

-- where a trace is made, it is
abbrev pub IsMadeExplained : Task → Made → Type 0
IsMadeExplained t (made.Trace trace run) = IsExplained t trace run
IsMadeExplained t (made.NoStart fault) = Unit {0}
IsMadeExplained t made.StartLimit = Unit {0}
IsMadeExplained t (made.Limit run) = Unit {0}

-- a trace that is made is explained by the run that is made with it
abbrev pub MadeTracesAreExplained : Type 0
MadeTracesAreExplained = (t : Task) (seed count : ℕ) (trace : Recorded) (run : List Move)
    → IsMadeTrace t seed count trace run → IsExplained t trace run

-- of one seed and one number of events one thing is made
abbrev pub OneIsMade : Type 0
OneIsMade = (t : Task) (seed count : ℕ) (a b : Made) → IsMade t seed count a
    → IsMade t seed count b → a ≡ b
