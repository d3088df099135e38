-- What a trace says of the events of a run. Which events a run may take, and what it follows,
-- explains and yields, is told by these alone.
use Rattle.std.specs.List.{AllZip}
use Rattle.std.specs.Prelude.{◌≡◌, ℕ, List, ◌++◌}
use Rattle.est_seen.specs.SeenValues.{MatchEach}
use Rattle.est_seen.specs.declared.seen.Seen.{Seen}
use Rattle.est_meaning.specs.declared.event.Event.{Event}
use Rattle.est_meaning.specs.declared.event.Event.TheVariants as event
use Rattle.est_meaning.specs.declared.event.Interaction.{Interaction}
use Rattle.est_meaning.specs.declared.trace.Expected.{Expected}
use Rattle.est_meaning.specs.declared.trace.Expected.TheVariants.{Known, Partly}

-- a departure of this port and signal whose values match what is seen, one for one
pub record IsDepartureSeen (port signal : ℕ) (seen : List Seen) (i : Interaction) : Type 0 where
  pub port_is : i.port ≡ port
  pub signal_is : i.signal ≡ signal
  pub match : MatchEach seen i.values

-- an event is one that is partly seen: a departure, and no other event
abbrev pub IsSeenPartly : ℕ → ℕ → List Seen → Event → Type 0
IsSeenPartly port signal seen (event.Arrives i) = ⊥
IsSeenPartly port signal seen (event.Leaves i) = IsDepartureSeen port signal seen i
IsSeenPartly port signal seen (event.Passes units) = ⊥

-- an event is as expected: the one that is known, or one that is partly seen
abbrev pub Agrees : Expected → Event → Type 0
Agrees (Known x) e = e ≡ x
Agrees (Partly port signal seen) e = IsSeenPartly port signal seen e

-- events are those that are expected, one by one and as many
abbrev pub AgreeAll : List Expected → List Event → Type 0
AgreeAll expected es = AllZip Agrees expected es

-- events are the first of those that are expected
pub record AgreeFirst (expected : List Expected) (es : List Event) : Type 0 where
  pub front : List Expected
  pub rest : List Expected
  pub split : expected ≡ front ++ rest
  pub agree : AgreeAll front es
