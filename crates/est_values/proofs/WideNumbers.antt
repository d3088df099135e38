-- Numbers of 32 bits in sums, products and quotients of 64.
use Rattle.std.proofs.Common.{◌≡◌, refl, sym, ap, ◌∙◌, arith, ℕ, zero, suc, ◌/◌, ◌≤◌, ◌^◌}
use Rattle.std.proofs.Common.{ℤ, pos, negsuc, neg_ℤ, ◌*ℤ◌, Bool, true, false, w32, w64, int_eq}
use Rattle.std.proofs.lemmas.Int.{fits_signed_mul, to_z-of_z}
use Rattle.std.proofs.Math.Nat.{div-le_self}
use Rattle.std.proofs.Math.Facts.{sfits_widen}
use Rattle.std.proofs.lemmas.Bool.Decides.{Decides-int_eq}
use Rattle.std.specs.Prelude.{int_div, Result, Err, if◌then◌else◌}
use Rattle.std.specs.Int.Signed.{nat_abs-le}
use mir.Val.{SFits, to_z, of_z}
use lib.Signed.{mag}
use Rattle.est_values.specs.declared.arithmetic.NumberFault.{NumberFault}
use Rattle.est_values.specs.declared.arithmetic.NumberFault.TheVariants.{Divide}
use Rattle.est_values.specs.Integers.{in_range, divided}

-- a number as it is cast to 64 bits
abbrev pub wide : ℤ → ℤ
wide x = to_z w64 (of_z w64 (to_z w32 (of_z w32 x)))

-- it is the same number
same_wide : (x : ℤ) → SFits w32 x → wide x ≡ x
same_wide x f =
    ap (λ y. to_z w64 (of_z w64 y)) (to_z-of_z w32 x f)
    ∙ to_z-of_z w64 x (sfits_widen {w = w32} {w' = w64} {z = x} tt f)

-- a product of two is their product
pub wide_product : (a b : ℤ) → SFits w32 a → SFits w32 b
    → to_z w64 (of_z w64 (wide a *ℤ wide b)) ≡ a *ℤ b
wide_product a b f g =
    (λ i. to_z w64 (of_z w64 (same_wide a f i *ℤ same_wide b g i)))
    ∙ to_z-of_z w64 (a *ℤ b) (fits_signed_mul w64 a b (2 ^ 31) (2 ^ 31) (nat_abs-le a f.sfits)
    (nat_abs-le b g.sfits) (omega arith))

-- how large a number with the other sign is
mag_negative : (n : ℕ) → mag (neg_ℤ (pos n)) ≤ n
mag_negative zero = omega arith
mag_negative (suc n) = omega arith

-- a quotient is no larger than what is divided
quotient_fits : (a b : ℤ) → SFits w32 a → SFits w64 (int_div a b)
quotient_fits (pos a) (pos b) f = record { sfits = omega (arith, div-le_self a b, f.sfits) }
quotient_fits (pos a) (negsuc b) f = record {
  sfits = omega (arith, mag_negative (a / suc b), div-le_self a (suc b), f.sfits);
}
quotient_fits (negsuc a) (pos b) f = record {
  sfits = omega (arith, mag_negative (suc a / b), div-le_self (suc a) b, f.sfits);
}
quotient_fits (negsuc a) (negsuc b) f = record {
  sfits = omega (arith, div-le_self (suc a) (suc b), f.sfits);
}

-- a quotient of two is their quotient
pub wide_quotient : (a b : ℤ) → SFits w32 a → SFits w32 b
    → to_z w64 (of_z w64 (int_div (wide a) (wide b))) ≡ int_div a b
wide_quotient a b f g =
    (λ i. to_z w64 (of_z w64 (int_div (same_wide a f i) (same_wide b g i))))
    ∙ to_z-of_z w64 (int_div a b) (quotient_fits a b f)

-- what is not true is false
not_true : (t : Bool) → (t ≡ true → ⊥) → t ≡ false
not_true true h = absurd (h refl)
not_true false h = refl

-- a number whose bits are not 0 is not 0
not_zero : (b : ℤ) → (of_z w32 b ≡ 0 → ⊥) → int_eq b (pos 0) ≡ false
not_zero b h =
    not_true (int_eq b (pos 0)) (λ e. h (ap (of_z w32) ((Decides-int_eq b (pos 0)).0 e)))

-- what is divided by such a number has a quotient
pub has_quotient : (a b : ℤ) (r : Result ℤ NumberFault) → (of_z w32 b ≡ 0 → ⊥)
    → r ≡ in_range (int_div a b) → r ≡ divided a b
has_quotient a b r h e =
    e ∙ sym (ap (λ t. if t then Err Divide else in_range (int_div a b)) (not_zero b h))
