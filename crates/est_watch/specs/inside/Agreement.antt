-- How far events are those that were given.
use Rattle.std.specs.Prelude.{ℕ, List, map}
use Rattle.est_meaning.specs.declared.event.Event.{Event}
use Rattle.est_meaning.specs.declared.trace.Expected.TheVariants.{Known}
use Rattle.est_search.specs.inside.Agreement.{AgreeFor}

-- the first k of these events are those given from a place on, and the next one, if there is one
-- there and here, is not
abbrev pub AreGivenFor : List Event → ℕ → List Event → ℕ → Type 0
AreGivenFor given from events k = AgreeFor (map Known given) from events k
