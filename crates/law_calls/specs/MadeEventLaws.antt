-- The events of the traces that a specification makes of itself.
use Rattle.std.specs.Prelude.{ℕ, ◌≤◌, List, length}
use Rattle.std.specs.List.{AllByRecursion, AllZip}
use Rattle.est_syntax.specs.Kinds.{maxint}
use Rattle.est_syntax.specs.declared.specification.Spec.{Spec}
use Rattle.est_meaning.specs.declared.event.Event.{Event}
use Rattle.est_meaning.specs.declared.event.Event.TheVariants as event
use Rattle.est_meaning.specs.AllowedEvents.{IsReceivable, IsAllowed, IsAllowedTrace, most_events}
use Rattle.est_meaning.specs.RecordedTraces.{known_trace}
use Rattle.est_meaning.specs.declared.run.Move.{Move}
use Rattle.law_values.specs.SentInteractions.{IsSentAt}
use Rattle.law_values.specs.DepartureLaws.{IsSound, MayBeGiven}
use Rattle.run_make.specs.Recipe.{Task, IsMadeTrace}

-- what arrives may arrive, what leaves was sent there, and no more than maxint units pass at once
abbrev pub IsFair : Spec → Event → Type 0
IsFair spec (event.Arrives i) = IsReceivable spec i
IsFair spec (event.Leaves i) = IsSentAt spec i
IsFair spec (event.Passes units) = units ≤ maxint

-- each event of a made trace is so
abbrev pub MadeTracesAreFair : Type 0
MadeTracesAreFair = (t : Task) (seed count : ℕ) (trace : List Event) (run : List Move)
    → IsSound t.spec → IsMadeTrace t seed count (known_trace trace) run
    → AllByRecursion (IsFair t.spec) trace

-- the values of what leaves may be given to the parameters of its signal
abbrev pub GivesWhatMayBe : Spec → Event → Type 0
GivesWhatMayBe spec (event.Arrives i) = Unit {0}
GivesWhatMayBe spec (event.Leaves i) =
    (sent : IsSentAt spec i) → AllZip MayBeGiven sent.signal.kinds i.values
GivesWhatMayBe spec (event.Passes units) = Unit {0}

-- where they may, each event may stand in a trace
abbrev pub MadeEventsAreAllowed : Type 0
MadeEventsAreAllowed = (t : Task) (seed count : ℕ) (trace : List Event) (run : List Move)
    → IsSound t.spec → IsMadeTrace t seed count (known_trace trace) run
    → AllByRecursion (GivesWhatMayBe t.spec) trace → AllByRecursion (IsAllowed t.spec) trace

-- and so the trace is allowed, where it is not too long
abbrev pub MadeTracesAreAllowed : Type 0
MadeTracesAreAllowed = (t : Task) (seed count : ℕ) (trace : List Event) (run : List Move)
    → IsSound t.spec → IsMadeTrace t seed count (known_trace trace) run
    → AllByRecursion (GivesWhatMayBe t.spec) trace → length trace ≤ most_events
    → IsAllowedTrace t.spec (known_trace trace)
