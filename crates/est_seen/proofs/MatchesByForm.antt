-- A value matches what is seen where its form does.
use Rattle.std.specs.Prelude.{⊤}
use Rattle.std.proofs.Common.{◌≡◌, refl, sym, ap, ◌∙◌, subst, ◌↔◌, Bool, IsTrue}
use Rattle.est_values.specs.declared.value.Value.{Value, out-Value}
use Rattle.est_values.specs.declared.value.Value.TheOpen as value
use Rattle.est_values.specs.PartsOfValues.{ValueLayer}
use Rattle.est_seen.specs.declared.seen.Seen.{Seen, out-Seen}
use Rattle.est_seen.specs.declared.seen.Seen.TheOpen as seen
use Rattle.est_seen.specs.SeenValues.{Matches, MatchEach, any, undefined, ordinal, set, group}

-- FORMS

-- a layer: the form of what is seen, with what it is made of
abbrev pub SeenLayer : Type 0
SeenLayer = seen.Seen-F Seen

-- the form of a value matches that of what is seen
abbrev pub MatchesLayer : SeenLayer → ValueLayer → Type 0
MatchesLayer seen.Any u = ⊤
MatchesLayer seen.Undefined value.Undefined = ⊤
MatchesLayer (seen.Ordinal z) (value.Ordinal y) = z ≡ y
MatchesLayer (seen.Set zs) (value.Set ys) = zs ≡ ys
MatchesLayer (seen.Group xs) (value.Group vs) = MatchEach xs vs
MatchesLayer _ _ = ⊥

layers : (x : Seen) (v : Value) (l : SeenLayer) (u : ValueLayer) → out-Seen x ≡ l
    → out-Value v ≡ u → MatchesLayer l u → MatchesLayer (out-Seen x) (out-Value v)
layers x v l u e f h = subst (λ (k : SeenLayer). MatchesLayer k (out-Value v)) (sym e)
    (subst (MatchesLayer l) (sym f) h)

-- what matches does so by its form
pub matches_layer : (x : Seen) (v : Value) → Matches x v → MatchesLayer (out-Seen x) (out-Value v)
matches_layer x v (any e) = subst (λ (k : SeenLayer). MatchesLayer k (out-Value v)) (sym e) tt
matches_layer x v (undefined e f) = layers x v seen.Undefined value.Undefined e f tt
matches_layer x v (ordinal z e f) = layers x v (seen.Ordinal z) (value.Ordinal z) e f refl
matches_layer x v (set zs e f) = layers x v (seen.Set zs) (value.Set zs) e f refl
matches_layer x v (group xs vs e f each) =
    layers x v (seen.Group xs) (value.Group vs) e f each

-- and what does so by its form matches
by_layer : (x : Seen) (v : Value) (l : SeenLayer) (u : ValueLayer) → out-Seen x ≡ l
    → out-Value v ≡ u → MatchesLayer l u → Matches x v
by_layer x v seen.Any u e f h = any e
by_layer x v seen.Undefined value.Undefined e f h = undefined e f
by_layer x v (seen.Ordinal z) (value.Ordinal y) e f h =
    ordinal z e (f ∙ ap value.Ordinal (sym h))
by_layer x v (seen.Set zs) (value.Set ys) e f h = set zs e (f ∙ ap value.Set (sym h))
by_layer x v (seen.Group xs) (value.Group vs) e f h = group xs vs e f h
by_layer x v _ _ e f h = absurd h

-- so the answer for forms is that for what has them
pub form_answer : (x : Seen) (v : Value) (l : SeenLayer) (u : ValueLayer) (r : Bool)
    → out-Seen x ≡ l → out-Value v ≡ u → (IsTrue r ↔ MatchesLayer l u) → IsTrue r ↔ Matches x v
form_answer x v l u r e f answer = (
  λ t. by_layer x v l u e f (answer.0 t),
  λ m. answer.1 (subst (λ (k : SeenLayer). MatchesLayer k u) e
      (subst (MatchesLayer (out-Seen x)) f (matches_layer x v m))),
)
