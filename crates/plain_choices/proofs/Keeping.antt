-- Which firings are kept, one after another.
use Rattle.std.proofs.Common.{◌≡◌, ◌<◌, ◌+◌, ◌⊎◌, refl, sym, ap, subst, inl, inr, ℕ, List, []}
use Rattle.std.proofs.Common.{◌∷◌, ◌++◌, length, drop, get_or, append_assoc}
use Rattle.est_syntax.specs.Least.{IsIn}
use Rattle.est_meaning.specs.mean_blocks.GlobalSituation.{Situation}
use Rattle.est_meaning.specs.declared.firing.Firing.{Firing}
use Rattle.est_meaning.specs.FiringOrder.{IsAscending}
use Rattle.plain_choices.specs.inside.SystemOffers.{IsKept, IsPreceded}
use Rattle.plain_choices.proofs.Members.{from_number, in_number, in_snoc, in_front, in_last}
use Rattle.plain_choices.proofs.Members.{at_number}
use Rattle.plain_choices.proofs.Surveys.{not_both}
use Rattle.std.proofs.Common.{Bool, true, false}
use Rattle.plain_choices.proofs.Members.{ascending_without}

-- what is kept, but for those that are left
pub record IsKeptBut (s : Situation) (dues : List ℕ) (found left kept : List Firing)
    : Type 0 where
  pub ascending : IsAscending (kept ++ left)
  pub sound : (f : Firing) → IsIn f kept
      → IsIn f found × (IsPreceded s dues f.instance → ⊥)
  pub complete : (f : Firing) → IsIn f found → (IsPreceded s dues f.instance → ⊥)
      → IsIn f kept ⊎ IsIn f left

module _ (s : Situation) (dues : List ℕ) (found : List Firing) where
  pub kept_none : (kept : List Firing) → kept ≡ [] → IsAscending found
      → IsKeptBut s dues found found kept
  kept_none kept e h = record {
    ascending = subst (λ ks. IsAscending (ks ++ found)) (sym e) h;
    sound = λ f a. absurd (subst (IsIn f) e a);
    complete = λ f a n. inr a;
  }

  keeps : (g : Firing) (left kept : List Firing) → IsKeptBut s dues found (g ∷ left) kept
      → IsIn g found → (IsPreceded s dues g.instance → ⊥)
      → IsKeptBut s dues found left (kept ++ g ∷ [])
  keeps g left kept v a n = record {
    ascending = subst IsAscending (sym (append_assoc kept (g ∷ []) left)) v.ascending;
    sound = λ f b. elim (in_snoc f g kept b) [
      | inl c ↦ v.sound f c
      | inr e ↦ subst (λ (x : Firing). IsIn x found × (IsPreceded s dues x.instance → ⊥)) e (a, n)
    ];
    complete = λ f b m. elim (v.complete f b m) [
      | inl c ↦ inl (in_front f kept (g ∷ []) c)
      | inr c ↦ elim c [
        | inl e ↦ inl (subst (λ x. IsIn x (kept ++ g ∷ [])) e (in_last g kept))
        | inr d ↦ inr d
      ]
    ];
  }

  leaves : (g : Firing) (left kept : List Firing) → IsKeptBut s dues found (g ∷ left) kept
      → IsPreceded s dues g.instance → IsKeptBut s dues found left kept
  leaves g left kept v p = record {
    ascending = ascending_without g kept left v.ascending;
    sound = v.sound;
    complete = λ f b m. elim (v.complete f b m) [
      | inl c ↦ inl c
      | inr c ↦ elim c [
        | inl e ↦ absurd (m (subst (λ (x : Firing). IsPreceded s dues x.instance) e p))
        | inr d ↦ inr d
      ]
    ];
  }

  module _ (i : ℕ) (g : Firing) (lt : i < length found) (e : g ≡ get_or found i g)
      (kept : List Firing) (v : IsKeptBut s dues found (drop i found) kept) where
    pub kept_keeps : (more : List Firing) → more ≡ kept ++ g ∷ []
        → (IsPreceded s dues g.instance → ⊥)
        → IsKeptBut s dues found (drop (i + 1) found) more
    kept_keeps more q n = subst (IsKeptBut s dues found (drop (i + 1) found)) (sym q)
        (keeps g (drop (i + 1) found) kept
        (subst (λ left. IsKeptBut s dues found left kept) (from_number found i g lt e) v)
        (in_number found i g lt e) n)

    pub kept_leaves : IsPreceded s dues g.instance
        → IsKeptBut s dues found (drop (i + 1) found) kept
    kept_leaves p = leaves g (drop (i + 1) found) kept
        (subst (λ left. IsKeptBut s dues found left kept) (from_number found i g lt e) v) p

  pub kept_turn : (i : ℕ) (d : Firing) → i < length found → (kept more : List Firing)
      → IsKeptBut s dues found (drop i found) kept → (b : Bool)
      → (b ≡ true → IsPreceded s dues (get_or found i d).instance)
      × (IsPreceded s dues (get_or found i d).instance → b ≡ true)
      → ((b ≡ false) × (more ≡ kept ++ get_or found i d ∷ [])) ⊎ ((b ≡ true) × (more ≡ kept))
      → IsKeptBut s dues found (drop (i + 1) found) more
  kept_turn i d lt kept more v b w o = elim o [
    | inl (e, q) ↦ kept_keeps i (get_or found i d) lt (at_number found i d lt) kept v more q
        (λ p. not_both b (w.1 p) e)
    | inr (e, q) ↦ subst (IsKeptBut s dues found (drop (i + 1) found)) (sym q)
        (kept_leaves i (get_or found i d) lt (at_number found i d lt) kept v (w.0 e))
  ]

  -- the same of a list that is the one found
  abbrev TurnIs : List Firing → Type 0
  TurnIs xs = (i : ℕ) (d : Firing) → i < length xs → (kept more : List Firing)
      → IsKeptBut s dues found (drop i xs) kept → (b : Bool)
      → (b ≡ true → IsPreceded s dues (get_or xs i d).instance)
      × (IsPreceded s dues (get_or xs i d).instance → b ≡ true)
      → ((b ≡ false) × (more ≡ kept ++ get_or xs i d ∷ [])) ⊎ ((b ≡ true) × (more ≡ kept))
      → IsKeptBut s dues found (drop (i + 1) xs) more

  pub turn_in : (xs : List Firing) → xs ≡ found → TurnIs xs
  turn_in xs e = subst TurnIs (sym e) kept_turn

  pub kept_ends : (left kept : List Firing) → left ≡ [] → IsKeptBut s dues found left kept
      → IsKept s dues found kept
  kept_ends left kept e v = record {
    ascending = subst IsAscending (append-nil kept)
        (subst (λ gs. IsAscending (kept ++ gs)) e v.ascending);
    sound = v.sound;
    complete = λ f a n. elim (v.complete f a n) [
      | inl c ↦ c
      | inr c ↦ absurd (subst (IsIn f) e c)
    ];
  }
    where
      append-nil : (xs : List Firing) → xs ++ [] ≡ xs
      append-nil [] = refl
      append-nil (x ∷ xs) = ap (λ ys. x ∷ ys) (append-nil xs)
