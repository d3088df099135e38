-- What is found under names where one more goes last.
use Rattle.std.proofs.Common.{◌≡◌, ℕ, Bool, true, false, if◌then◌else◌, List, [], ◌∷◌, ◌++◌, sym}
use Rattle.std.proofs.Common.{◌∙◌, Some, None, inl, inr, refl}
use Rattle.std.specs.Prelude.{◌⊎◌}
use Rattle.std.specs.Map.{lookup}
use Rattle.std.proofs.lemmas.Option.{same_Some}
use Rattle.std.proofs.lemmas.Slice.Eq.{bytes_eq-Decides}
use Rattle.est_syntax.specs.Names.{is_name}

-- what is found stood there before, or is the last
pub found_in : {X : Type 0} (name last : List ℕ) (x found : X) (xs : List (List ℕ × X))
    → lookup (is_name name) (xs ++ (last, x) ∷ []) ≡ Some found
    → (lookup (is_name name) xs ≡ Some found) ⊎ ((name ≡ last) × (x ≡ found))
found_in {X} name last x found [] e = by (is_name name last) refl e
  where
    by : (b : Bool) → is_name name last ≡ b → (if b then Some x else None) ≡ Some found
        → (lookup (is_name name) [] ≡ Some found) ⊎ ((name ≡ last) × (x ≡ found))
    by true t q = inr ((bytes_eq-Decides name last).0 t, same_Some x found q)
    by false t q = cc
found_in {X} name last x found (y ∷ ys) e =
    by (is_name name y.0) e (found_in name last x found ys)
  where
    by : (b : Bool)
        → (if b then Some y.1 else lookup (is_name name) (ys ++ (last, x) ∷ [])) ≡ Some found
        → (lookup (is_name name) (ys ++ (last, x) ∷ []) ≡ Some found
        → (lookup (is_name name) ys ≡ Some found) ⊎ ((name ≡ last) × (x ≡ found)))
        → ((if b then Some y.1 else lookup (is_name name) ys) ≡ Some found)
        ⊎ ((name ≡ last) × (x ≡ found))
    by true q rest = inl q
    by false q rest = rest q

-- what is not found stood there neither before nor last
pub not_found_in : {X : Type 0} (name last : List ℕ) (x : X) (xs : List (List ℕ × X))
    → lookup (is_name name) (xs ++ (last, x) ∷ []) ≡ None
    → (lookup (is_name name) xs ≡ None) × (name ≡ last → ⊥)
not_found_in {X} name last x [] e = by (is_name name last) refl e
  where
    by : (b : Bool) → is_name name last ≡ b → (if b then Some x else None) ≡ None
        → (lookup {X = X} (is_name name) [] ≡ None) × (name ≡ last → ⊥)
    by true t q = cc
    by false t q = (
      refl,
      λ s. (let u : is_name name last ≡ true = (bytes_eq-Decides name last).1 s in
          let v : false ≡ true = sym t ∙ u in absurd cc),
    )
not_found_in {X} name last x (y ∷ ys) e =
    by (is_name name y.0) e (not_found_in name last x ys)
  where
    by : (b : Bool) → (if b then Some y.1 else lookup (is_name name) (ys ++ (last, x) ∷ [])) ≡ None
        → (lookup (is_name name) (ys ++ (last, x) ∷ []) ≡ None
        → (lookup (is_name name) ys ≡ None) × (name ≡ last → ⊥))
        → ((if b then Some y.1 else lookup (is_name name) ys) ≡ None) × (name ≡ last → ⊥)
    by true q rest = cc
    by false q rest = rest q
