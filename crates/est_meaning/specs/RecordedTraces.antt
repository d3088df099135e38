-- What a trace records.
use Rattle.std.specs.Prelude.{Bool, false, List, map}
use Rattle.est_seen.specs.SeenValues.{SomeHasAny}
use Rattle.est_meaning.specs.declared.event.Event.{Event}
use Rattle.est_meaning.specs.declared.trace.Expected.{Expected}
use Rattle.est_meaning.specs.declared.trace.Expected.TheVariants.{Known, Partly}

-- the events that were recorded, and whether the system was then left to itself and did no more
pub record Recorded : Type 0 where
  pub events : List Expected
  pub quiet : Bool

-- an event is known, or not every value of it was seen
abbrev pub HasUnseen : Expected → Type 0
HasUnseen (Known e) = Unit {0}
HasUnseen (Partly port signal seen) = SomeHasAny seen

-- a trace of events that are all known, which does not end quiet
abbrev pub known_trace : List Event → Recorded
known_trace es = record { events = map Known es; quiet = false }
