-- What holds of choices, steps and starts.
use Rattle.std.specs.Prelude.{◌≡◌, ℕ, ◌+◌, ◌⊎◌, ℤ, int_lt, true, false, List, ◌∷◌, Option, Some}
use Rattle.std.specs.Prelude.{None, is_some, All}
use Rattle.est_syntax.specs.declared.name.Used.{Used}
use Rattle.est_syntax.specs.declared.ports.Port.{Port}
use Rattle.mean_blocks.specs.declared.situation.InteractionPoint.{InteractionPoint}
use Rattle.mean_blocks.specs.declared.situation.Item.{Item}
use Rattle.mean_blocks.specs.declared.situation.Row.{Row}
use Rattle.mean_blocks.specs.Outcome.{Done}
use Rattle.mean_blocks.specs.TextByPlace.{Text}
use Rattle.mean_blocks.specs.GlobalSituation.{Situation, Clocked, row_of, lives}
use Rattle.mean_blocks.specs.NamesInRuns.{declared_at, interaction_of}
use Rattle.mean_blocks.specs.QueueEffects.{queue_of}
use Rattle.mean_blocks.specs.KeepingLaws.{GoesOver, AreNumbered, AreMutual}
use Rattle.est_meaning.specs.declared.event.Event.{Event}
use Rattle.est_meaning.specs.declared.event.Event.TheVariants as event
use Rattle.est_meaning.specs.declared.event.Interaction.{Interaction}
use Rattle.est_meaning.specs.declared.firing.Firing.{Firing}
use Rattle.est_meaning.specs.ClauseContexts.{FullTransition, transitions_of, Awaited, any_of}
use Rattle.est_meaning.specs.ClauseContexts.{when_of, to_of, delay_of}
use Rattle.est_meaning.specs.TransitionChoices.{Choice, choice_by, choice_of, numbered}
use Rattle.est_meaning.specs.GuardParts.{is_from, awaited_point}
use Rattle.est_meaning.specs.TransitionSelection.{passes_limit, IsSettled, is_enabled_choice}
use Rattle.est_meaning.specs.TransitionSelection.{is_offered_choice, is_due_choice}
use Rattle.est_meaning.specs.TransitionSelection.{is_offered, is_due, outranks, priority_at}
use Rattle.est_meaning.specs.TransitionSelection.{IsPossible}
use Rattle.est_meaning.specs.DelayStamps.{is_timed, is_fired}
use Rattle.est_meaning.specs.OutsideEvents.{port_point, arrival, departure, after_event, units_of}
use Rattle.est_meaning.specs.FiringSteps.{without_awaited, IsStep, outcome, start_of}

-- CHOICES

-- where a transition has no `any` variables, its one choice is 1
abbrev pub OneChoiceWithoutAny : Type 0
OneChoiceWithoutAny = (t : Text) (r : Row) (n number : ℕ) (x : FullTransition) (c : Choice)
    → any_of x ≡ None → choice_by t r n number x ≡ Some c → number ≡ 1

-- what is due is offered, and what is offered is enabled; without a delay the three are one
pub record DueIsOfferedIsEnabled : Type 0 where
  pub due : (limit : ℕ) (t : Text) (s : Situation) (c : Choice)
      → is_due_choice limit t s c ≡ true → is_offered_choice limit t s c ≡ true
  pub offered : (limit : ℕ) (t : Text) (s : Situation) (c : Choice)
      → is_offered_choice limit t s c ≡ true → is_enabled_choice limit t s c ≡ true
  pub without_delay : (limit : ℕ) (t : Text) (s : Situation) (c : Choice)
      → delay_of c.transition ≡ None → is_enabled_choice limit t s c ≡ true
      → is_due_choice limit t s c ≡ true

-- of a choice that is enabled no part of the guard passes its limit
abbrev pub EnabledPassesNoLimit : Type 0
EnabledPassesNoLimit = (limit : ℕ) (t : Text) (s : Situation) (c : Choice)
    → is_enabled_choice limit t s c ≡ true → passes_limit limit t s c ≡ false

-- The item that a choice awaits is the first one of the queue of an interaction point, through
-- which it came, and is the interaction that is named there; the choice takes it.
pub record TakesFirst (limit : ℕ) (t : Text) (s : Situation) (c : Choice) (w : Awaited)
    : Type 0 where
  pub point : InteractionPoint
  pub item : Item
  pub awaited : awaited_point limit t s c w ≡ Some point
  pub first : s.queues (queue_of t point)
      ≡ item ∷ (without_awaited limit t s c).queues (queue_of t point)
  pub through : item.at ≡ point
  pub interaction : interaction_of t.outline point.declared w.signal ≡ Some item.signal

-- where a choice is enabled, its `from` holds, and so does its `when`, if it has one
pub record EnabledHasItsClauses : Type 0 where
  pub state : (limit : ℕ) (t : Text) (s : Situation) (c : Choice)
      → is_enabled_choice limit t s c ≡ true → is_from t c ≡ true
  pub takes : (limit : ℕ) (t : Text) (s : Situation) (c : Choice) (w : Awaited)
      → is_enabled_choice limit t s c ≡ true → when_of c.transition ≡ Some w
      → TakesFirst limit t s c w

-- SELECTION

-- no priority goes before itself, and what goes before another one goes before all those before
-- which that goes
pub record PrioritiesAreStrict : Type 0 where
  pub none : (a : Option ℤ) → outranks a a ≡ false
  pub through : (a b c : Option ℤ) → outranks a b ≡ true → outranks b c ≡ true
      → outranks a c ≡ true

-- only in a settled situation is a firing possible
abbrev pub PossibleMeansSettled : Type 0
PossibleMeansSettled = (limit : ℕ) (t : Text) (s : Situation) (f : Firing)
    → IsPossible limit t s f → IsSettled limit t s

-- Only what is due stops a firing. Where nothing is due, each that is offered is possible in a
-- settled situation; where the parent of its instance has one that is due, none is; and where its
-- instance has one with a smaller number, those with a greater number or none are not.
pub record OnlyDueStops : Type 0 where
  pub nothing_due : (limit : ℕ) (t : Text) (s : Situation) (f : Firing) → IsSettled limit t s
      → is_offered limit t s f ≡ true → ((g : Firing) → is_due limit t s g ≡ false)
      → IsPossible limit t s f
  pub parent : (limit : ℕ) (t : Text) (s : Situation) (f g : Firing) (r : Row)
      → IsPossible limit t s f → row_of s f.instance ≡ Some r → g.instance ≡ r.parent
      → is_due limit t s g ≡ true → ⊥
  pub priority : (limit : ℕ) (t : Text) (s : Situation) (f g : Firing) (a b : ℤ)
      → IsPossible limit t s f → g.instance ≡ f.instance → is_due limit t s g ≡ true
      → priority_at t s g ≡ Some a → priority_at t s f ≡ Some b → int_lt a b ≡ true → ⊥
  pub none : (limit : ℕ) (t : Text) (s : Situation) (f g : Firing) (a : ℤ)
      → IsPossible limit t s f → g.instance ≡ f.instance → is_due limit t s g ≡ true
      → priority_at t s g ≡ Some a → priority_at t s f ≡ None → ⊥

-- STEPS

-- one firing leads from a situation to one situation at most, with one list of events
abbrev pub StepsAreUnique : Type 0
StepsAreUnique = (limit : ℕ) (t : Text) (s : Situation) (f : Firing) (next other : Situation)
    (outs others : List Event) → IsStep limit t s f next outs
    → IsStep limit t s f other others → (next ≡ other) × (outs ≡ others)

-- In a firing no time passes, no number of an instance is used again, the instances stay in
-- ascending number, and connections that lead both ways stay so.
pub record FiringsAreOrderly : Type 0 where
  pub goes_over : (limit : ℕ) (t : Text) (s next : Situation) (f : Firing) (outs : List Event)
      → outcome limit t s f ≡ Done outs next → GoesOver s next
  pub connections : (limit : ℕ) (t : Text) (s next : Situation) (f : Firing) (outs : List Event)
      → outcome limit t s f ≡ Done outs next → AreMutual s.peer → AreMutual next.peer

-- after a firing the instance is in the state that its transition names, if it names one
abbrev pub NextStateIsSet : Type 0
NextStateIsSet = (limit : ℕ) (t : Text) (s next : Situation) (f : Firing) (outs : List Event)
    (c : Choice) (u : Used) (p : ℕ) (r : Row) → outcome limit t s f ≡ Done outs next
    → choice_of t s f ≡ Some c → to_of c.transition ≡ Some u → declared_at t.outline u ≡ Some p
    → row_of next c.row.number ≡ Some r → r.state ≡ Some p

-- an event in which an interaction leaves
abbrev pub IsDeparture : Event → Type 0
IsDeparture (event.Arrives i) = ⊥
IsDeparture (event.Leaves i) = Unit {0}
IsDeparture (event.Passes units) = ⊥

-- all events of a start and of a firing are departures
pub record OnlyDeparturesCome : Type 0 where
  pub start : (limit : ℕ) (t : Text) (s : Situation) (outs : List Event)
      → start_of limit t ≡ Done outs s → All IsDeparture outs
  pub firing : (limit : ℕ) (t : Text) (s next : Situation) (f : Firing) (outs : List Event)
      → outcome limit t s f ≡ Done outs next → All IsDeparture outs

-- a system begins at the clock 0, with its instances in ascending number, and connections that lead
-- both ways
pub record BeginsInOrder (s : Situation) : Type 0 where
  pub clock : s.clock ≡ 0
  pub numbers : AreNumbered s
  pub connections : AreMutual s.peer

abbrev pub StartsBeginInOrder : Type 0
StartsBeginInOrder = (limit : ℕ) (t : Text) (s : Situation) (outs : List Event)
    → start_of limit t ≡ Done outs s → BeginsInOrder s

-- an event leaves all of a situation but its queues and its clock
pub record LeavesInstances (s u : Situation) : Type 0 where
  pub rows : u.rows ≡ s.rows
  pub peer : u.peer ≡ s.peer
  pub down : u.down ≡ s.down
  pub stamps : u.stamps ≡ s.stamps
  pub next : u.next ≡ s.next

-- An event adds its units to the clock; the rest of a situation but its queues stays. So the
-- instances stay in ascending number, and connections that lead both ways stay so.
pub record EventsAreOutside : Type 0 where
  pub leaves : (t : Text) (s : Situation) (e : Event) → LeavesInstances s (after_event t s e)
  pub clock : (t : Text) (s : Situation) (e : Event)
      → (after_event t s e).clock ≡ s.clock + units_of e
  pub numbers : (t : Text) (s : Situation) (e : Event) → AreNumbered s
      → AreNumbered (after_event t s e)
  pub connections : (t : Text) (s : Situation) (e : Event) → AreMutual s.peer
      → AreMutual (after_event t s e).peer

-- What passes its limit before an event does so after it: an arrival goes after what waits already,
-- and a guard sees the first item of a queue alone.
abbrev pub EventsSettleNothing : Type 0
EventsSettleNothing = (limit : ℕ) (t : Text) (s : Situation) (e : Event)
    → IsSettled limit t (after_event t s e) → IsSettled limit t s

-- a port is an element of an interaction point of instance 1, by its subscripts
abbrev pub PortsAreOfTheRoot : Type 0
PortsAreOfTheRoot = (t : Text) (port : Port) (p : InteractionPoint) → port_point t port ≡ Some p
    → (p.instance ≡ 1) × (p.index ≡ port.index)

-- what leaves by these numbers of a port and a signal is what would arrive by them
abbrev pub PortsGoBothWays : Type 0
PortsGoBothWays = (t : Text) (i : Item) (x : Interaction)
    → departure t i ≡ Some (event.Leaves x) → arrival t x ≡ Some i

-- STAMPS

-- No transition with a delay awaits an interaction, as a rule of clauses has it (ISO 9074, 7:
-- delay-clause).
abbrev pub DelaysAwaitNothing : Text → Type 0
DelaysAwaitNothing t = (body number : ℕ) (x : FullTransition)
    → numbered (transitions_of t body) number ≡ Some x → is_some (delay_of x) ≡ true
    → when_of x ≡ None

-- a stamp stands exactly where a transition with a delay is enabled
abbrev pub HasStamps : ℕ → Text → Situation → Type 0
HasStamps limit t s = (k : Clocked) → is_some (s.stamps k) ≡ is_timed limit t s k

-- so it is after a start and after a firing, and stays so after an event
pub record StampsStandWhereEnabled : Type 0 where
  pub start : (limit : ℕ) (t : Text) (s : Situation) (outs : List Event)
      → start_of limit t ≡ Done outs s → HasStamps limit t s
  pub firing : (limit : ℕ) (t : Text) (s next : Situation) (f : Firing) (outs : List Event)
      → outcome limit t s f ≡ Done outs next → HasStamps limit t next
  pub event : (limit : ℕ) (t : Text) (s : Situation) (e : Event) → DelaysAwaitNothing t
      → HasStamps limit t s → HasStamps limit t (after_event t s e)

-- A stamp after a firing is the clock, or it stood before, and then its transition is not the one
-- that fired. After a start each is 0.
pub record StampsAreOfTheirTime : Type 0 where
  pub start : (limit : ℕ) (t : Text) (s : Situation) (outs : List Event) (k : Clocked) (n : ℕ)
      → start_of limit t ≡ Done outs s → s.stamps k ≡ Some n → n ≡ 0
  pub firing : (limit : ℕ) (t : Text) (s next : Situation) (f : Firing) (outs : List Event)
      (k : Clocked) (n : ℕ) → outcome limit t s f ≡ Done outs next → next.stamps k ≡ Some n
      → (n ≡ s.clock) ⊎ ((s.stamps k ≡ Some n) × (is_fired (Some f) k ≡ false))

-- A transition that was enabled and is so after a firing keeps its stamp, where it is not the one
-- that fired.
abbrev pub StampsOfOthersStay : Type 0
StampsOfOthersStay = (limit : ℕ) (t : Text) (s next : Situation) (f : Firing) (outs : List Event)
    (k : Clocked) (n : ℕ) → AreNumbered s → lives s k.instance ≡ true → s.stamps k ≡ Some n
    → is_fired (Some f) k ≡ false → is_timed limit t next k ≡ true
    → outcome limit t s f ≡ Done outs next → next.stamps k ≡ Some n
