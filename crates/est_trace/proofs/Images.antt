-- Items of lists and of their images.
use Rattle.std.proofs.Common.{◌≡◌, ℕ, List, map, refl, sym, ap, ◌∙◌, Option, Some, None, slice_get}
use Rattle.std.specs.Option.{option_map}
use Rattle.std.proofs.lemmas.Option.{slice_get-map}

pub some_same : {A : Type 0} {x y : A} → Some x ≡ Some y → x ≡ y
some_same p = cc

-- where a list is the image of another, so are its items
module _ {A B : Type 0} (f : A → B) (xs : List A) where
  pub mapped_at : (i : ℕ) (b : B) → slice_get (map f xs) i ≡ Some b
      → (x : A) × (slice_get xs i ≡ Some x) × (f x ≡ b)
  mapped_at i b e = from (slice_get xs i) refl
    where
      from : (o : Option A) → slice_get xs i ≡ o → (x : A) × (slice_get xs i ≡ Some x) × (f x ≡ b)
      from None h = let q : None ≡ Some b = sym (ap (option_map f) h) ∙ (sym (slice_get-map f xs i)
          ∙ e) in absurd cc
      from (Some x) h = let q : Some (f x) ≡ Some b = sym (ap (option_map f) h)
          ∙ (sym (slice_get-map f xs i) ∙ e) in (x, h, some_same q)

  pub image_at : (i : ℕ) (x : A) → slice_get xs i ≡ Some x → slice_get (map f xs) i ≡ Some (f x)
  image_at i x e = slice_get-map f xs i ∙ ap (option_map f) e

-- items at one place of two lists with one image
pub same_image : {A B C : Type 0} (f : A → C) (g : B → C) (xs : List A) (ys : List B) (i : ℕ)
    (x : A) (y : B) → map f xs ≡ map g ys → slice_get xs i ≡ Some x → slice_get ys i ≡ Some y
    → f x ≡ g y
same_image f g xs ys i x y e p q = some_same (sym (image_at f xs i x p) ∙ (ap (λ v. slice_get v i) e
    ∙ image_at g ys i y q))
