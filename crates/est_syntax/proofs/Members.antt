-- What is in a list that is put together.
use Rattle.std.proofs.Common.{◌≡◌, ◌⊎◌, inl, inr, ℕ, zero, suc}
use Rattle.std.proofs.Common.{List, [], ◌∷◌, ◌++◌, Some, slice_get}
use Rattle.est_syntax.specs.Least.{IsIn}

-- what is in one of two lists is in both together
pub in_first : {X : Type 0} (p : X) (xs ys : List X) → IsIn p xs → IsIn p (xs ++ ys)
in_first p [] ys i = absurd i
in_first p (x ∷ xs) ys (inl e) = inl e
in_first p (x ∷ xs) ys (inr i) = inr (in_first p xs ys i)

pub in_second : {X : Type 0} (p : X) (xs ys : List X) → IsIn p ys → IsIn p (xs ++ ys)
in_second p [] ys i = i
in_second p (x ∷ xs) ys i = inr (in_second p xs ys i)

pub in_either : {X : Type 0} (p : X) (xs ys : List X) → IsIn p xs ⊎ IsIn p ys → IsIn p (xs ++ ys)
in_either p xs ys (inl i) = in_first p xs ys i
in_either p xs ys (inr i) = in_second p xs ys i

-- and what is in both together is in one of them
pub shifted : {X : Type 0} (p x : X) (xs ys : List X) → IsIn p xs ⊎ IsIn p ys
    → IsIn p (x ∷ xs) ⊎ IsIn p ys
shifted p x xs ys (inl i) = inl (inr i)
shifted p x xs ys (inr i) = inr i

pub into_either : {X : Type 0} (p : X) (xs ys : List X) → IsIn p (xs ++ ys) → IsIn p xs ⊎ IsIn p ys
into_either p [] ys i = inr i
into_either p (x ∷ xs) ys (inl e) = inl (inl e)
into_either p (x ∷ xs) ys (inr i) = shifted p x xs ys (into_either p xs ys i)

-- what stands at a place of a list is in it
pub in_at : {X : Type 0} (xs : List X) (i : ℕ) (x : X) → slice_get xs i ≡ Some x → IsIn x xs
in_at [] i x e = cc
in_at (y ∷ ys) zero x e = inl cc
in_at (y ∷ ys) (suc i) x e = inr (in_at ys i x e)
