-- Lists that are made of the items of another have different names where those do.
use Rattle.std.proofs.Common.{◌≡◌, List, [], ◌∷◌, ◌++◌, map, sym, ap, ◌∙◌, subst}
use Rattle.std.specs.Prelude.{flat_map}
use Rattle.rule_declares.proofs.Names.{IsNew, AreOnce, new_both}

-- items that are mapped one by one
module _ {B L A N : Type 0} (other : B → L) (name : A → N) (g : B → A)
    (tells : (x y : B) → name (g x) ≡ name (g y) → other x ≡ other y) where
  new_map : (x : B) (ys : List B) → IsNew other (other x) ys → IsNew name (name (g x)) (map g ys)
  new_map x [] h = tt
  new_map x (y ∷ ys) h = (λ e. h.0 (tells x y e), new_map x ys h.1)

  pub once_map : (xs : List B) → AreOnce other xs → AreOnce name (map g xs)
  once_map [] h = tt
  once_map (x ∷ xs) h = (new_map x xs h.0, once_map xs h.1)

module _ {A N M : Type 0} (name : A → N) (part : N → M) where
  -- the names of these have this part
  abbrev pub AreOf : M → List A → Type 0
  AreOf m [] = Unit {0}
  AreOf m (x ∷ xs) = (part (name x) ≡ m) × AreOf m xs

  pub of_map : {B : Type 0} (m : M) (g : B → A) → ((y : B) → part (name (g y)) ≡ m) → (ys : List B)
      → AreOf m (map g ys)
  of_map m g h [] = tt
  of_map m g h (y ∷ ys) = (h y, of_map m g h ys)

  new_of : (n : N) (m : M) (xs : List A) → AreOf m xs → (part n ≡ m → ⊥) → IsNew name n xs
  new_of n m [] h d = tt
  new_of n m (x ∷ xs) h d = (λ e. d (ap part e ∙ h.0), new_of n m xs h.1 d)

  once_both : (m : M) (xs ys : List A) → AreOf m xs → AreOnce name xs → AreOnce name ys
      → ((n : N) → part n ≡ m → IsNew name n ys) → AreOnce name (xs ++ ys)
  once_both m [] ys of h k d = k
  once_both m (x ∷ xs) ys of h k d =
      (new_both name (name x) xs ys h.0 (d (name x) of.0), once_both m xs ys of.1 h.1 k d)

  -- items of which several are made, whose names have theirs as a part
  module _ {X : Type 0} (own : X → M) (f : X → List A) (of : (x : X) → AreOf (own x) (f x))
      (each : (x : X) → AreOnce name (f x)) where
    new_flat : (n : N) (xs : List X) → IsNew own (part n) xs → IsNew name n (flat_map f xs)
    new_flat n [] h = tt
    new_flat n (x ∷ xs) h =
        new_both name n (f x) (flat_map f xs) (new_of n (own x) (f x) (of x) h.0)
        (new_flat n xs h.1)

    pub once_flat : (xs : List X) → AreOnce own xs → AreOnce name (flat_map f xs)
    once_flat [] h = tt
    once_flat (x ∷ xs) h =
        once_both (own x) (f x) (flat_map f xs) (of x) (each x) (once_flat xs h.1)
        (λ n e. new_flat n xs (subst (λ m. IsNew own m xs) (sym e) h.0))
