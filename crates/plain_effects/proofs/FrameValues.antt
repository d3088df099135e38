-- The values in a frame, one further.
use Rattle.std.proofs.Common.{◌≡◌, refl, sym, ap, ◌∙◌, ℕ, ◌+◌, List, [], ◌∷◌, ◌++◌, drop, Some}
use Rattle.std.proofs.Common.{slice_get}
use Rattle.std.specs.Prelude.{map}
use Rattle.plain_operands.proofs.of_plain_systems.FirstFound.{drop_here}

nil_right : {A : Type 0} (xs : List A) → xs ++ [] ≡ xs
nil_right [] = refl
nil_right (x ∷ xs) = ap (λ l. x ∷ l) (nil_right xs)

joined : {A : Type 0} (xs : List A) (y : A) (zs : List A) → (xs ++ y ∷ []) ++ zs ≡ xs ++ y ∷ zs
joined [] y zs = refl
joined (x ∷ xs) y zs = ap (λ l. x ∷ l) (joined xs y zs)

pub values_step : {A B : Type 0} (f : A → B) (bs : List A) (i : ℕ) (x : A) (xs all : List B)
    → slice_get bs i ≡ Some x → xs ++ map f (drop i bs) ≡ all
    → (xs ++ f x ∷ []) ++ map f (drop (i + 1) bs) ≡ all
values_step f bs i x xs all h k = joined xs (f x) (map f (drop (i + 1) bs))
    ∙ ap (λ l. xs ++ map f l) (sym (drop_here bs i x h)) ∙ k

pub values_end : {A B : Type 0} (f : A → B) (bs : List A) (i : ℕ) (xs all : List B)
    → drop i bs ≡ [] → xs ++ map f (drop i bs) ≡ all → xs ≡ all
values_end f bs i xs all h k =
    sym (nil_right xs) ∙ ap (λ l. xs ++ map f l) (sym h) ∙ k
