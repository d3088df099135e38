-- What was seen of values: which values match it, and where it says less than a value.
use Rattle.std.specs.Prelude.{◌≡◌, ℤ, List, [], ◌∷◌}
use Rattle.est_syntax.specs.declared.kind.Kind.{Kind}
use Rattle.est_values.specs.declared.value.Value.{Value, out-Value}
use Rattle.est_values.specs.declared.value.Value.TheOpen as value
use Rattle.est_seen.specs.declared.seen.Seen.{Seen, out-Seen}
use Rattle.est_seen.specs.declared.seen.Seen.TheOpen as seen
use Rattle.est_values.specs.FittingValues.{Fits}

mutual
  -- A value matches what is seen. Any matches every value; an undefined scalar, an ordinal and a
  -- set match the equal value; a group matches a group of as many values that match one for one.
  pub data Matches : Seen → Value → Type 0 where
    any : {x : Seen} {v : Value} → out-Seen x ≡ seen.Any → Matches x v
    undefined : {x : Seen} {v : Value} → out-Seen x ≡ seen.Undefined
        → out-Value v ≡ value.Undefined → Matches x v
    ordinal : {x : Seen} {v : Value} (z : ℤ) → out-Seen x ≡ seen.Ordinal z
        → out-Value v ≡ value.Ordinal z → Matches x v
    set : {x : Seen} {v : Value} (zs : List ℤ) → out-Seen x ≡ seen.Set zs
        → out-Value v ≡ value.Set zs → Matches x v
    group : {x : Seen} {v : Value} (xs : List Seen) (vs : List Value)
        → out-Seen x ≡ seen.Group xs → out-Value v ≡ value.Group vs → MatchEach xs vs
        → Matches x v

  -- Values match what is seen of as many, one for one: `AllZip Matches`.
  pub data MatchEach : List Seen → List Value → Type 0 where
    nothing_seen : MatchEach [] []
    one_more : {x : Seen} {xs : List Seen} {v : Value} {vs : List Value} → Matches x v
        → MatchEach xs vs → MatchEach (x ∷ xs) (v ∷ vs)

mutual
  -- Somewhere in it a value was not seen.
  pub data HasAny : Seen → Type 0 where
    here : {x : Seen} → out-Seen x ≡ seen.Any → HasAny x
    within : {x : Seen} (xs : List Seen) → out-Seen x ≡ seen.Group xs → SomeHasAny xs → HasAny x

  -- Somewhere in one of these: `Any HasAny`.
  pub data SomeHasAny : List Seen → Type 0 where
    first : {x : Seen} {xs : List Seen} → HasAny x → SomeHasAny (x ∷ xs)
    later : {x : Seen} {xs : List Seen} → SomeHasAny xs → SomeHasAny (x ∷ xs)

-- a value is known where all of it is seen and it matches; so it is the only one that does
-- (`known_matches_one`)
abbrev pub IsSeenWhole : Seen → Value → Type 0
IsSeenWhole x v = Matches x v × (HasAny x → ⊥)

-- what is seen of a whole value matches no other
abbrev pub KnownMatchesOne : Type 0
KnownMatchesOne = (x : Seen) (v w : Value) → (HasAny x → ⊥) → Matches x v → Matches x w → v ≡ w

-- some value of the kind matches what is seen
abbrev pub MayFit : Kind → Seen → Type 0
MayFit k x = (v : Value) × Fits k v × Matches x v
