-- A part is taken out, changed and put back.
use Rattle.std.specs.Prelude.{◌≡◌, ℕ, zero, suc, List, [], ◌∷◌, Some, slice_get, slice_set, refl}
use Rattle.std.proofs.Common.{sym, ◌∙◌, ap}
use Rattle.est_values.specs.declared.value.Value.{Value}
use Rattle.est_values.specs.declared.value.Value.TheVariants as value
use Rattle.est_values.specs.PartsOfValues.{onward, put_back, with_part, with_part_in}

-- of two items that are put at one place the later stays
pub set_twice : {T : Type 0} (xs : List T) (k : ℕ) (x y : T)
    → slice_set (slice_set xs k x) k y ≡ slice_set xs k y
set_twice [] k x y = refl
set_twice (z ∷ xs) zero x y = refl
set_twice (z ∷ xs) (suc k) x y = ap (λ l. z ∷ l) (set_twice xs k x y)

-- a part that was taken out, changed and put back is changed
pub part_written : (new : Value) (k : ℕ) (ks : List ℕ) (parts without back : List Value)
    (old hole part : Value) → slice_get parts k ≡ Some old → Some part ≡ with_part new ks old
    → without ≡ slice_set parts k hole → back ≡ slice_set without k part
    → Some (value.Group back) ≡ with_part_in new k ks parts
part_written new k ks parts without back old hole part at is out in' =
    ap (λ l. Some (value.Group l))
    (in' ∙ ap (λ l. slice_set l k part) out ∙ set_twice parts k hole part)
    ∙ ap (put_back k parts) (is ∙ sym (ap (λ o. onward o (with_part new ks)) at))
