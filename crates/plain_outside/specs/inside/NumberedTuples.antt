-- The tuples of ordinals by their numbers, from the last ordinal on.
use Rattle.std.specs.Prelude.{◌≡◌, ℕ, ◌+◌, ◌*◌, ℤ, List, length, drop, reverse, Some, slice_get}
use Rattle.est_syntax.specs.declared.kind.Kind.{Kind}
use Rattle.est_meaning.specs.rule_declares.OrdinalValues.{tuples_of}

-- What is known of the tuple of a number where its ordinals from a place on are there, the last one
-- first: they are the tuple of some number of those kinds, and the rest counts the ones before.
pub record IsTupleFrom (ks : List Kind) (number i rest : ℕ) (ordinals : List ℤ) : Type 0 where
  pub own : ℕ
  pub stands : slice_get (tuples_of (drop i ks)) own ≡ Some (reverse ordinals)
  pub number_is : number ≡ rest * length (tuples_of (drop i ks)) + own
