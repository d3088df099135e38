-- Names with their values, as far as there are both.
use Rattle.std.proofs.Common.{◌≡◌, refl, sym, ap, ◌∙◌, ℕ, zero, suc, ℤ, List, [], ◌∷◌, ◌++◌, map}
use Rattle.std.proofs.Common.{drop, slice_get, None}
use Rattle.std.proofs.lemmas.List.{append-nil}
use Rattle.est_values.specs.declared.value.Value.TheVariants as value
use Rattle.est_meaning.specs.mean_blocks.GlobalSituation.{Frame}
use Rattle.est_meaning.specs.TransitionChoices.{bound_all}

nothing_bound : (ps : List ℕ) → bound_all ps [] ≡ []
nothing_bound [] = refl
nothing_bound (p ∷ ps) = refl

none_left : (zs : List ℤ) (i : ℕ) → None ≡ slice_get zs i → drop i zs ≡ []
none_left [] zero h = refl
none_left [] (suc i) h = refl
none_left (z ∷ zs) zero h = absurd (cc)
none_left (z ∷ zs) (suc i) h = none_left zs i h

pub bound_end : (frame whole : Frame) (ps : List ℕ) (zs : List ℤ) (i : ℕ)
    → None ≡ slice_get zs i
    → frame ++ bound_all ps (map (λ (z : ℤ). value.Ordinal z) (drop i zs)) ≡ whole
    → frame ≡ whole
bound_end frame whole ps zs i none h =
    sym (append-nil frame) ∙ ap (λ l. frame ++ l) (sym (nothing_bound ps))
    ∙ ap (λ l. frame ++ bound_all ps (map (λ (z : ℤ). value.Ordinal z) l))
    (sym (none_left zs i none)) ∙ h
