-- Ordinals that ascend, one after the other.
use Rattle.std.proofs.Common.{◌≡◌, ℕ, suc, ◌+◌, ◌<◌, ℤ, pos, ◌+ℤ◌, ◌≤ℤ◌, List, ◌∷◌, length, drop}
use Rattle.std.proofs.Common.{sym, ap, ◌∙◌, subst, arith, get_or, drop-cons}
use Rattle.est_values.specs.FittingValues.{AscendFrom}

-- the ordinal at a place, and those after it
there : (zs : List ℤ) (i : ℕ) → i < length zs
    → drop i zs ≡ get_or zs i (pos 0) ∷ drop (i + 1) zs
there zs i h =
    let n : suc i ≡ i + 1 = omega arith in
    drop-cons zs i (pos 0) h ∙ ap (λ n. get_or zs i (pos 0) ∷ drop n zs) n

-- those from a place on ascend where one there is within the bounds and the later ones ascend
pub ascend_on : (low high next : ℤ) (zs : List ℤ) (i : ℕ) (A : Type 0) → i < length zs
    → low ≤ℤ get_or zs i (pos 0) → get_or zs i (pos 0) ≤ℤ high
    → next ≡ get_or zs i (pos 0) +ℤ pos 1
    → (AscendFrom low high (drop i zs) → A) × (A → AscendFrom low high (drop i zs))
    → (AscendFrom next high (drop (i + 1) zs) → A)
    × (A → AscendFrom next high (drop (i + 1) zs))
ascend_on low high next zs i A h above below is both =
    let d = there zs i h in
    let back = λ (a : AscendFrom next high (drop (i + 1) zs)).
    subst (AscendFrom low high) (sym d)
    (above, below, subst (λ (n : ℤ). AscendFrom n high (drop (i + 1) zs)) is a) in
    let on = λ (a : AscendFrom low high (drop i zs)).
    subst (λ (n : ℤ). AscendFrom n high (drop (i + 1) zs)) (sym is)
    (subst (AscendFrom low high) d a).2 in
    (λ a. both.0 (back a), λ x. on (both.1 x))
