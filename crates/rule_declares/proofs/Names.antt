-- Lists whose items have different names.
use Rattle.std.proofs.Common.{◌≡◌, ℕ, zero, suc, List, [], ◌∷◌, ◌++◌}
use Rattle.std.proofs.Common.{refl, sym, ap, ◌∙◌, Some, slice_get, arith}
use Rattle.std.proofs.lemmas.Option.{same_Some}
use Rattle.rule_declares.specs.Differing.{HaveDifferentNames}

module _ {A N : Type 0} (name : A → N) where
  -- none of these has this name
  abbrev pub IsNew : N → List A → Type 0
  IsNew n [] = Unit {0}
  IsNew n (x ∷ xs) = (n ≡ name x → ⊥) × IsNew n xs

  -- none has the name of one before it
  abbrev pub AreOnce : List A → Type 0
  AreOnce [] = Unit {0}
  AreOnce (x ∷ xs) = IsNew (name x) xs × AreOnce xs

  -- one of a new name goes last
  new_push : (n : N) (xs : List A) (y : A) → IsNew n xs → (n ≡ name y → ⊥) → IsNew n (xs ++ y ∷ [])
  new_push n [] y h k = (k, tt)
  new_push n (x ∷ xs) y h k = (h.0, new_push n xs y h.1 k)

  pub once_push : (xs : List A) (y : A) → AreOnce xs → IsNew (name y) xs → AreOnce (xs ++ y ∷ [])
  once_push [] y h k = (tt, tt)
  once_push (x ∷ xs) y h k = (new_push (name x) xs y h.0 (λ e. k.0 (sym e)), once_push xs y h.1 k.1)

  -- those after others
  pub new_both : (n : N) (xs ys : List A) → IsNew n xs → IsNew n ys → IsNew n (xs ++ ys)
  new_both n [] ys h k = k
  new_both n (x ∷ xs) ys h k = (h.0, new_both n xs ys h.1 k)

  -- such items have different names
  new_at : (n : N) (xs : List A) (i : ℕ) (x : A) → IsNew n xs → slice_get xs i ≡ Some x
      → n ≡ name x → ⊥
  new_at n [] i x h e q = cc
  new_at n (y ∷ ys) zero x h e q = h.0 (q ∙ ap name (sym (same_Some y x e)))
  new_at n (y ∷ ys) (suc i) x h e q = new_at n ys i x h.1 e q

  pub once_differ : (xs : List A) → AreOnce xs → HaveDifferentNames name xs
  once_differ [] h i j x y e f q = cc
  once_differ (z ∷ zs) h zero zero x y e f q = refl
  once_differ (z ∷ zs) h zero (suc j) x y e f q =
      absurd (new_at (name z) zs j y h.0 f (ap name (same_Some z x e) ∙ q))
  once_differ (z ∷ zs) h (suc i) zero x y e f q =
      absurd (new_at (name z) zs i x h.0 e (ap name (same_Some z y f) ∙ sym q))
  once_differ (z ∷ zs) h (suc i) (suc j) x y e f q = ap suc (once_differ zs h.1 i j x y e f q)

  new_by : (n : N) (xs : List A) → ((i : ℕ) (x : A) → slice_get xs i ≡ Some x → n ≡ name x → ⊥)
      → IsNew n xs
  new_by n [] h = tt
  new_by n (x ∷ xs) h = (h 0 x refl, new_by n xs (λ i. h (suc i)))

  -- and the other way round
  pub differ_once : (xs : List A) → HaveDifferentNames name xs → AreOnce xs
  differ_once [] h = tt
  differ_once (x ∷ xs) h = (
    new_by (name x) xs (λ j y e q. (let same = h 0 (suc j) x y refl e q in omega (arith, same))),
    differ_once xs (λ i j y z e f q. (let same = h (suc i) (suc j) y z e f q in
        omega (arith, same))),
  )
