-- What was seen of values whole.
use Rattle.std.specs.Prelude.{List, Option, Some, None}
use Rattle.est_values.specs.declared.value.Value.{Value}
use Rattle.est_seen.specs.SeenValues.{MatchEach, HasAny, SomeHasAny, IsSeenWhole}
use Rattle.est_seen.specs.declared.seen.Seen.{Seen}

-- this is the value that was seen whole, or something of it was not seen
abbrev pub IsWhole : Seen → Option Value → Type 0
IsWhole x (Some v) = IsSeenWhole x v
IsWhole x None = HasAny x

-- these are the values that were seen whole, or something of them was not seen
abbrev pub AreWhole : List Seen → Option (List Value) → Type 0
AreWhole xs (Some vs) = MatchEach xs vs × (SomeHasAny xs → ⊥)
AreWhole xs None = SomeHasAny xs
