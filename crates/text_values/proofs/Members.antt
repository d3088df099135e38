-- Members of sets.
use Rattle.std.proofs.Common.{◌≡◌, ◌-◌, ◌<◌, ℤ, pos, ◌+ℤ◌, ◌≤ℤ◌, ◌<ℤ◌, Bool}
use Rattle.std.proofs.Common.{true, false, List, [], ◌∷◌, ◌++◌, length, get_or, refl, sym, ap, ◌∙◌}
use Rattle.std.proofs.Common.{subst, arith, inl, inr, ◌⊎◌, ◌↔◌, int_lt, if◌then◌else◌}
use Rattle.std.specs.Ordering.{int_eq}
use Rattle.std.proofs.lemmas.Int.{ints}
use Rattle.std.proofs.lemmas.Bool.Decides.{Decides-int_eq}
use Rattle.est_syntax.specs.Least.{IsIn}
use Rattle.est_values.specs.FittingValues.{AscendFrom}
use Rattle.text_values.specs.inside.Gathering.{with_member}

-- one that is not below another and differs is above it
above_it : (z x : ℤ) (b : Bool) → int_lt x z ≡ b → (z ≡ x → ⊥) → x ≤ℤ z → x <ℤ z
above_it z x true e n m = omega (arith, ints)
above_it z x false e n m = absurd (n (omega (arith, ints)))

-- where one is put before another, at it, or after it
three_ways : (P : List ℤ → Type 0) (z x : ℤ) (xs : List ℤ) → (z ≡ x → P (x ∷ xs))
    → (z <ℤ x → P (z ∷ x ∷ xs)) → (x <ℤ z → P (x ∷ with_member z xs))
    → P (with_member z (x ∷ xs))
three_ways P z x xs at before later = by (int_eq z x) (int_lt z x) refl refl
  where
    by : (b c : Bool) → int_eq z x ≡ b → int_lt z x ≡ c
        → P (if b then x ∷ xs else (if c then z ∷ x ∷ xs else x ∷ with_member z xs))
    by true c e f = at ((Decides-int_eq z x).0 e)
    by false true e f = before (omega (arith, ints))
    by false false e f = later (above_it z x (int_lt x z) refl
        (λ q. (let t : int_eq z x ≡ true = (Decides-int_eq z x).1 q in cc)) (omega (arith, ints)))

-- the members still ascend
pub with_ascends : (low high z : ℤ) (xs : List ℤ) → AscendFrom low high xs → low ≤ℤ z → z ≤ℤ high
    → AscendFrom low high (with_member z xs)
with_ascends low high z [] h l m = (l, m, tt)
with_ascends low high z (x ∷ xs) h l m = three_ways (AscendFrom low high) z x xs (λ e. h)
    (λ e. (l, m, (omega (arith, ints, e), h.1, h.2)))
    (λ e. (h.0, h.1, with_ascends (x +ℤ pos 1) high z xs h.2 (omega (arith, ints, e)) m))

-- the members are those before and the new one
pub in_with : (z w : ℤ) (xs : List ℤ) → IsIn w (with_member z xs) ↔ ((z ≡ w) ⊎ IsIn w xs)
in_with z w [] = (λ h. h, λ h. h)
in_with z w (x ∷ xs) =
    let r = in_with z w xs in
    three_ways (λ ys. IsIn w ys ↔ ((z ≡ w) ⊎ IsIn w (x ∷ xs))) z x xs
    (λ e. (λ h. inr h, λ h. elim h [ inl q ↦ inl (sym e ∙ q) | inr q ↦ q ]))
    (λ e. (λ h. h, λ h. h))
    (λ e. (
      λ h. elim h [
        | inl q ↦ inr (inl q)
        | inr q ↦ elim (r.0 q) [ inl p ↦ inl p | inr p ↦ inr (inr p) ]
      ],
      λ h. elim h [
        | inl q ↦ inr (r.1 (inl q))
        | inr q ↦ elim q [ inl p ↦ inl p | inr p ↦ inr (r.1 (inr p)) ]
      ],
    ))

-- the last of some
abbrev last_of : ℤ → List ℤ → ℤ
last_of x [] = x
last_of x (y ∷ ys) = last_of y ys

last_is : (x d : ℤ) (xs : List ℤ) → get_or (x ∷ xs) (length xs) d ≡ last_of x xs
last_is x d [] = refl
last_is x d (y ∷ ys) = last_is y d ys

-- one that is above the last one is put last
above : (high z x low : ℤ) (xs : List ℤ) → AscendFrom low high xs → x <ℤ low → last_of x xs <ℤ z
    → (x <ℤ z) × (with_member z xs ≡ xs ++ z ∷ [])
above high z x low [] h l m = (m, refl)
above high z x low (y ∷ ys) h l m =
    let r = above high z y (y +ℤ pos 1) ys h.2 (omega (arith, ints)) m in (
      omega (arith, ints, l, h.0, r.0),
      three_ways (λ ws. ws ≡ (y ∷ ys) ++ z ∷ []) z y ys (λ e. absurd (omega (arith, ints, e, r.0)))
          (λ e. absurd (omega (arith, ints, e, r.0))) (λ e. ap (λ ws. y ∷ ws) r.1),
    )

pub put_last : (low high z d : ℤ) (xs : List ℤ) → AscendFrom low high xs → 0 < length xs
    → get_or xs (length xs - 1) d <ℤ z → with_member z xs ≡ xs ++ z ∷ []
put_last low high z d [] h l m = absurd (omega (arith, l))
put_last low high z d (x ∷ xs) h l m =
    let n : length (x ∷ xs) - 1 ≡ length xs = omega arith in
    let e = ap (λ i. get_or (x ∷ xs) i d) n ∙ last_is x d xs in
    let r = above high z x (x +ℤ pos 1) xs h.2 (omega (arith, ints))
    (subst (λ y. y <ℤ z) e m) in
    three_ways (λ ws. ws ≡ (x ∷ xs) ++ z ∷ []) z x xs (λ q. absurd (omega (arith, ints, q, r.0)))
    (λ q. absurd (omega (arith, ints, q, r.0))) (λ q. ap (λ ws. x ∷ ws) r.1)
