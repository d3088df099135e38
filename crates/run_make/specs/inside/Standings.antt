-- How far a trace is made, and what comes of a draw.
use Rattle.std.specs.Prelude.{◌≡◌, ℕ, ◌+◌, ◌<◌, ◌≤◌, ◌⊎◌, List, [], ◌∷◌, ◌++◌, length, reverse}
use Rattle.est_syntax.specs.declared.ports.Port.{Port}
use Rattle.est_syntax.specs.declared.specification.Spec.{Spec}
use Rattle.est_meaning.specs.declared.event.Event.{Event}
use Rattle.est_meaning.specs.declared.event.Event.TheVariants as event
use Rattle.est_meaning.specs.declared.event.Interaction.{Interaction}
use Rattle.est_meaning.specs.declared.firing.Firing.{Firing}
use Rattle.est_meaning.specs.OutsideEvents.{after_event}
use Rattle.est_meaning.specs.RecordedTraces.{known_trace}
use Rattle.est_meaning.specs.mean_blocks.GlobalSituation.{Situation}
use Rattle.est_meaning.specs.mean_blocks.TextByPlace.{text_of}
use Rattle.est_meaning.specs.declared.run.Move.TheVariants.{Take, Fire}
use Rattle.est_meaning.specs.Run.{silent_after}
use Rattle.run_make.specs.declared.made.Made.{Made}
use Rattle.run_make.specs.declared.made.Made.TheVariants as made
use Rattle.run_make.specs.declared.making.Making.{Making}
use Rattle.run_make.specs.declared.making.Tried.{Tried}
use Rattle.run_make.specs.declared.making.Tried.TheVariants as tried
use Rattle.run_make.specs.declared.making.Turn.{Turn}
use Rattle.run_make.specs.declared.making.Turn.TheVariants as turn
use Rattle.run_make.specs.Recipe.{Task, Standing, Draws, DrawsOutside, HoldsBack, PassesLimit}
use Rattle.run_make.specs.Recipe.{DrawsInteraction, Leads, after_outside}
use Rattle.run_make.specs.Words.{IsDrawn, stream_at}

-- the standing of a making, with the situation in which the system is
abbrev pub standing_of : Making → Situation → Standing
standing_of m s = record {
  words = stream_at m.rng;
  run = reverse m.run;
  situation = s;
  events = m.events;
  idle = m.idle;
}

-- a firing with these events has been put down
pub record HasLanded (old new : Making) (f : Firing) (outs : List Event) : Type 0 where
  pub rng : new.rng ≡ old.rng
  pub run : new.run ≡ old.run ++ Fire f ∷ []
  pub events : new.events ≡ old.events ++ outs
  pub idle : new.idle ≡ silent_after old.idle outs

-- an event from outside has been put down
pub record HasTaken (old new : Making) (e : Event) : Type 0 where
  pub rng : new.rng ≡ old.rng
  pub run : new.run ≡ old.run ++ Take ∷ []
  pub events : new.events ≡ old.events ++ e ∷ []
  pub idle : new.idle ≡ 0

-- only words were drawn
pub record IsUntouched (old new : Making) : Type 0 where
  pub run : new.run ≡ old.run
  pub events : new.events ≡ old.events
  pub idle : new.idle ≡ old.idle

-- a word was drawn by which nothing fires
pub record HasHeld (t : Task) (old : Making) (s : Situation) (new : Making) (now : Situation)
    : Type 0 where
  pub word : ℕ
  pub drawn : IsDrawn (stream_at old.rng) word (stream_at new.rng)
  pub holds : HoldsBack t (standing_of old s) word
  pub untouched : IsUntouched old new
  pub situation : now ≡ s

-- what came of a word: a draw was made, or nothing fires, or a limit was passed
abbrev pub TriedAs : Task → Making → Situation → Tried → Making → Situation → Type 0
TriedAs t old s tried.Made new now = Draws t (standing_of old s) (standing_of new now)
TriedAs t old s tried.Held new now = HasHeld t old s new now
TriedAs t old s tried.Limit new now = PassesLimit t (standing_of old s) × IsUntouched old new

-- an interaction was drawn and has arrived
pub record HasArrived (spec : Spec) (ports : List Port) (w : ℕ) (old : Making) (s : Situation)
    (new : Making) (now : Situation) : Type 0 where
  pub interaction : Interaction
  pub draws : DrawsInteraction ports w (stream_at old.rng) interaction (stream_at new.rng)
  pub run : new.run ≡ old.run ++ Take ∷ []
  pub events : new.events ≡ old.events ++ event.Arrives interaction ∷ []
  pub idle : new.idle ≡ 0
  pub situation : now ≡ after_event (text_of spec) s (event.Arrives interaction)

-- an event from outside was drawn
pub record HasHappened (t : Task) (ports : List Port) (old : Making) (s : Situation) (new : Making)
    (now : Situation) : Type 0 where
  pub event : Event
  pub draws : DrawsOutside ports (stream_at old.rng) event (stream_at new.rng)
  pub leads : standing_of new now
      ≡ after_outside t (standing_of old s) (stream_at new.rng) event

-- what came of a draw
abbrev pub TurnedAs : Task → Making → Situation → Turn → Making → Situation → Type 0
TurnedAs t old s turn.Made new now = Draws t (standing_of old s) (standing_of new now)
TurnedAs t old s turn.Limit new now = PassesLimit t (standing_of old s) × IsUntouched old new

-- the draws lead where there are enough events
pub record HasEnough (t : Task) (count : ℕ) (old : Making) (s : Situation) (new : Making)
    (now : Situation) : Type 0 where
  pub leads : Leads t count (standing_of old s) (standing_of new now)
  pub enough : count ≤ length new.events

-- the draws lead where a limit is passed
pub record HasPassed (t : Task) (count : ℕ) (old : Making) (s : Situation) (new : Making)
    : Type 0 where
  pub last : Standing
  pub leads : Leads t count (standing_of old s) last
  pub short : length last.events < count
  pub passes : PassesLimit t last
  pub run_is : reverse new.run ≡ last.run

-- how the draws ended
abbrev pub EndedAs : Task → ℕ → Making → Situation → Turn → Making → Situation → Type 0
EndedAs t count old s turn.Made new now = HasEnough t count old s new now
EndedAs t count old s turn.Limit new now = HasPassed t count old s new

-- what is made, where the draws ended so
abbrev pub MadeOf : Turn → Making → Made → Type 0
MadeOf turn.Made m x = x ≡ made.Trace (known_trace m.events) m.run
MadeOf turn.Limit m x = x ≡ made.Limit m.run

-- a draw brings an event, or one more firing without
abbrev pub HasGone : ℕ → Making → Making → Type 0
HasGone silent old new =
    ((length old.events < length new.events) × (new.idle ≤ silent))
    ⊎ ((length new.events ≡ length old.events) × (new.idle ≡ old.idle + 1)
    × (new.idle ≤ silent))

-- what a word may do to what is put down: it is a draw, or only a word
abbrev pub GoesOn : ℕ → Making → Tried → Making → Type 0
GoesOn silent old tried.Made new = HasGone silent old new
GoesOn silent old tried.Held new = IsUntouched old new
GoesOn silent old tried.Limit new = IsUntouched old new

-- one event more, and no idle firing since
abbrev pub HasOneMore : Making → Making → Type 0
HasOneMore old new = (length new.events ≡ length old.events + 1) × (new.idle ≡ 0)
