-- What is seen of a whole value matches no other.
use Rattle.std.proofs.Common.{◌≡◌, refl, sym, ap, ap₂, ◌∙◌, subst, ℤ, List, ◌∷◌}
use Rattle.est_values.specs.declared.value.Value.{Value, out-Value, roll-Value, roll-out-Value}
use Rattle.est_values.specs.declared.value.Value.TheOpen as value
use Rattle.est_values.specs.PartsOfValues.{ValueLayer}
use Rattle.est_seen.specs.declared.seen.Seen.{Seen, out-Seen}
use Rattle.est_seen.specs.declared.seen.Seen.TheOpen as seen
use Rattle.est_seen.specs.SeenValues.{Matches, MatchEach, HasAny, SomeHasAny}
use Rattle.est_seen.specs.SeenValues.{any, undefined, ordinal, set, group, nothing_seen, one_more}
use Rattle.est_seen.specs.SeenValues.{here, within, first, later}
use Rattle.est_seen.proofs.MatchesByForm.{SeenLayer, MatchesLayer, matches_layer}

-- FORMS

-- values of one form are one
same_form : (v w : Value) (u : ValueLayer) → out-Value v ≡ u → out-Value w ≡ u → v ≡ w
same_form v w u f g = sym (roll-out-Value v) ∙ (ap roll-Value (f ∙ sym g) ∙ roll-out-Value w)

-- what matches a form
seen_so : (x : Seen) (w : Value) (l : SeenLayer) → out-Seen x ≡ l → Matches x w
    → MatchesLayer l (out-Value w)
seen_so x w l e m = subst (λ (k : SeenLayer). MatchesLayer k (out-Value w)) e (matches_layer x w m)

undefined_only : (u : ValueLayer) → MatchesLayer seen.Undefined u → u ≡ value.Undefined
undefined_only value.Undefined h = refl
undefined_only _ h = absurd h

ordinal_only : (z : ℤ) (u : ValueLayer) → MatchesLayer (seen.Ordinal z) u → u ≡ value.Ordinal z
ordinal_only z (value.Ordinal y) h = ap value.Ordinal (sym h)
ordinal_only z _ h = absurd h

set_only : (zs : List ℤ) (u : ValueLayer) → MatchesLayer (seen.Set zs) u → u ≡ value.Set zs
set_only zs (value.Set ys) h = ap value.Set (sym h)
set_only zs _ h = absurd h

group_only : (xs : List Seen) (u : ValueLayer) → MatchesLayer (seen.Group xs) u
    → (ws : List Value) × (u ≡ value.Group ws) × MatchEach xs ws
group_only xs (value.Group ws) h = (ws, refl, h)
group_only xs _ h = absurd h

-- VALUES

mutual
  pub one_match : (x : Seen) (v w : Value) → (HasAny x → ⊥) → Matches x v → Matches x w → v ≡ w
  one_match x v w whole (any e) m = absurd (whole (here e))
  one_match x v w whole (undefined e f) m =
      same_form v w value.Undefined f
      (undefined_only (out-Value w) (seen_so x w seen.Undefined e m))
  one_match x v w whole (ordinal z e f) m =
      same_form v w (value.Ordinal z) f
      (ordinal_only z (out-Value w) (seen_so x w (seen.Ordinal z) e m))
  one_match x v w whole (set zs e f) m =
      same_form v w (value.Set zs) f (set_only zs (out-Value w) (seen_so x w (seen.Set zs) e m))
  one_match x v w whole (group xs vs e f each) m =
      let g = group_only xs (out-Value w) (seen_so x w (seen.Group xs) e m) in
      let same : vs ≡ g.0 = one_each xs vs g.0 (λ h. whole (within xs e h)) each g.2 in
      same_form v w (value.Group vs) f (g.1 ∙ ap value.Group (sym same))

  one_each : (xs : List Seen) (vs ws : List Value) → (SomeHasAny xs → ⊥) → MatchEach xs vs
      → MatchEach xs ws → vs ≡ ws
  one_each _ _ _ whole nothing_seen nothing_seen = refl
  one_each _ _ _ whole (one_more {x = x} {xs} {v} {vs} m rest)
      (one_more {v = w} {vs = ws} n others) =
      ap₂ (λ y ys. y ∷ ys) (one_match x v w (λ h. whole (first h)) m n)
      (one_each xs vs ws (λ h. whole (later h)) rest others)
