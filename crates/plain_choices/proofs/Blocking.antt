-- Which instances descend from some of others, row after row.
use Rattle.std.proofs.Common.{◌≡◌, ◌<◌, ◌≤◌, ◌+◌, ◌⊎◌, refl, sym, ap, subst, ◌∙◌, inl, inr, ℕ}
use Rattle.std.proofs.Common.{zero, suc, Bool, true, false, List, [], ◌∷◌, ◌++◌, Some, None, arith}
use Rattle.std.proofs.Common.{length, drop, get_or}
use Rattle.std.specs.Prelude.{find, slice_get}
use Rattle.std.proofs.lemmas.Bool.{cases_lt}
use Rattle.est_syntax.specs.Least.{IsIn}
use Rattle.est_meaning.specs.mean_blocks.declared.situation.Row.{Row}
use Rattle.est_meaning.specs.mean_blocks.GlobalSituation.{Situation, row_of, is_numbered}
use Rattle.est_meaning.specs.mean_blocks.KeepingLaws.{AreNumbered}
use Rattle.est_meaning.specs.TransitionSelection.{IsAncestor, parent, beyond}
use Rattle.plain_choices.specs.inside.SystemOffers.{AreSorted, IsPreceded}
use Rattle.plain_choices.specs.inside.SystemOffers.{AreBlockedBelow, AreBlocked}
use Rattle.plain_choices.proofs.Findings.{sorted_none, sorted_snoc}
use Rattle.plain_choices.proofs.Members.{in_snoc, in_front, in_last}
use Rattle.plain_choices.proofs.Rows.{AreFrom, from_first, least_here, none_between, row_here}
use Rattle.plain_choices.proofs.Rows.{from_next}
use Rattle.plain_choices.proofs.Surveys.{not_both}

-- ONE INSTANCE

-- an instance that does not live descends from none
pub rootless : (s : Situation) (dues : List ℕ) (n : ℕ) → row_of s n ≡ None → IsPreceded s dues n
    → ⊥
rootless s dues n e (a, b, parent _ r q h) = (let x : None ≡ Some r = sym e ∙ q in cc)
rootless s dues n e (a, b, beyond _ r q h) = (let x : None ≡ Some r = sym e ∙ q in cc)

module _ (s : Situation) (dues : List ℕ) (r : Row) (here : row_of s r.number ≡ Some r) where
  -- the parent is one of these
  pub by_parent : IsIn r.parent dues → IsPreceded s dues r.number
  by_parent a = (r.parent, a, parent r.number r here refl)

  -- the parent descends from one of these
  pub by_ancestor : IsPreceded s dues r.parent → IsPreceded s dues r.number
  by_ancestor (a, b, h) = (a, b, beyond r.number r here h)

  same : (x : Row) → row_of s r.number ≡ Some x → x ≡ r
  same x q = let k : Some x ≡ Some r = sym q ∙ here in cc

  -- and there is no other way
  pub either_way : IsPreceded s dues r.number → IsIn r.parent dues ⊎ IsPreceded s dues r.parent
  either_way (a, b, parent _ x q h) =
      inl (subst (λ m. IsIn m dues) (sym h ∙ ap (λ (y : Row). y.parent) (same x q)) b)
  either_way (a, b, beyond _ x q h) =
      inr (a, b, subst (λ (y : Row). IsAncestor s a y.parent) (same x q) h)

  -- where the parent is none of these
  pub only_ancestor : (IsIn r.parent dues → ⊥) → IsPreceded s dues r.number
      → IsPreceded s dues r.parent
  only_ancestor n p = elim (either_way p) [ inl a ↦ absurd (n a) | inr q ↦ q ]

-- ROW AFTER ROW

position_of : {A : Type 0} (xs : List A) (i : ℕ) (x : A) → i < length xs → x ≡ get_or xs i x
    → slice_get xs i ≡ Some x
position_of [] i x lt e = absurd (omega (arith, lt))
position_of (y ∷ xs) zero x lt e = ap Some (sym e)
position_of (y ∷ xs) (suc i) x lt e = position_of xs i x (omega (arith, lt)) e

-- the row at a position, as it was read
pub row_read : (rows xs ys : List Row) (at : ℕ) (r x : Row) → xs ≡ ys → ys ≡ rows
    → at < length xs → x ≡ get_or xs at x → r ≡ x → slice_get rows at ≡ Some r
row_read rows xs ys at r x e d lt h q = subst (λ rs. slice_get rs at ≡ Some r) (e ∙ d)
    (position_of xs at x lt h ∙ ap Some (sym q))

blocked_none : (s : Situation) (dues ns : List ℕ) → ns ≡ [] → AreBlockedBelow s dues 0 ns
blocked_none s dues ns e = record {
  sorted = subst AreSorted (sym e) sorted_none;
  within = λ n a. absurd (subst (IsIn n) e a);
  sound = λ n a. absurd (subst (IsIn n) e a);
  complete = λ n h p. absurd (omega (arith, h));
}

blocked_skips : (s : Situation) (dues : List ℕ) (n m : ℕ) (ns : List ℕ) → n ≤ m
    → ((k : ℕ) → n ≤ k → k < m → row_of s k ≡ None) → AreBlockedBelow s dues n ns
    → AreBlockedBelow s dues m ns
blocked_skips s dues n m ns le none v = record {
  sorted = v.sorted;
  within = λ k a. (let l : k < n = v.within k a in omega arith);
  sound = v.sound;
  complete = λ k h p. elim (cases_lt k n) [
    | inl a ↦ v.complete k a p
    | inr a ↦ absurd (rootless s dues k (none k a h) p)
  ];
}

blocked_takes : (s : Situation) (dues : List ℕ) (n : ℕ) (ns : List ℕ)
    → AreBlockedBelow s dues n ns → IsPreceded s dues n
    → AreBlockedBelow s dues (n + 1) (ns ++ n ∷ [])
blocked_takes s dues n ns v p = record {
  sorted = sorted_snoc n ns v.sorted v.within;
  within = λ k a. elim (in_snoc k n ns a) [
    | inl b ↦ (let l : k < n = v.within k b in omega arith)
    | inr e ↦ (let q : n ≡ k = e in omega arith)
  ];
  sound = λ k a. elim (in_snoc k n ns a) [
    | inl b ↦ v.sound k b
    | inr e ↦ subst (IsPreceded s dues) e p
  ];
  complete = λ k h q. elim (cases_lt k n) [
    | inl a ↦ in_front k ns (n ∷ []) (v.complete k a q)
    | inr a ↦ (let e : n ≡ k = omega arith in
        subst (λ m. IsIn m (ns ++ n ∷ [])) e (in_last n ns))
  ];
}

blocked_leaves : (s : Situation) (dues : List ℕ) (n : ℕ) (ns : List ℕ)
    → AreBlockedBelow s dues n ns → (IsPreceded s dues n → ⊥)
    → AreBlockedBelow s dues (n + 1) ns
blocked_leaves s dues n ns v apart = record {
  sorted = v.sorted;
  within = λ k a. (let l : k < n = v.within k a in omega arith);
  sound = v.sound;
  complete = λ k h q. elim (cases_lt k n) [
    | inl a ↦ v.complete k a q
    | inr a ↦ (let e : k ≡ n = omega arith in absurd (apart (subst (IsPreceded s dues) e q)))
  ];
}

-- the instances that are found of those whose rows stand before a position
pub record AreBlockedAt (s : Situation) (dues : List ℕ) (at : ℕ) (ns : List ℕ) : Type 0 where
  pub number : ℕ
  pub rows : AreFrom s at number
  pub blocked : AreBlockedBelow s dues number ns

pub blocked_first : (s : Situation) (dues ns : List ℕ) → AreNumbered s → ns ≡ []
    → AreBlockedAt s dues 0 ns
blocked_first s dues ns h e = record {
  number = 0;
  rows = from_first s h;
  blocked = blocked_none s dues ns e;
}

module _ (s : Situation) (dues : List ℕ) (at : ℕ) (ns : List ℕ)
    (v : AreBlockedAt s dues at ns) where
  module _ (r : Row) (here : slice_get s.rows at ≡ Some r) where
    pub row_at : row_of s r.number ≡ Some r
    row_at = row_here s at v.number v.rows r here

    pub blocked_at : AreBlockedBelow s dues r.number ns
    blocked_at = blocked_skips s dues v.number r.number ns
        (least_here s at v.number v.rows r here)
        (none_between s at v.number v.rows r here) v.blocked

    -- after a row, whose instance was added or not
    pub blocked_next : (b : Bool) (ms : List ℕ)
        → (b ≡ true → IsPreceded s dues r.number) × (IsPreceded s dues r.number → b ≡ true)
        → ((b ≡ true) × (ms ≡ ns ++ r.number ∷ [])) ⊎ ((b ≡ false) × (ms ≡ ns))
        → AreBlockedAt s dues (at + 1) ms
    blocked_next b ms w o = record {
      number = r.number + 1;
      rows = from_next s at v.number v.rows r here;
      blocked = elim o [
        | inl (e, q) ↦ subst (AreBlockedBelow s dues (r.number + 1)) (sym q)
            (blocked_takes s dues r.number ns blocked_at (w.0 e))
        | inr (e, q) ↦ subst (AreBlockedBelow s dues (r.number + 1)) (sym q)
            (blocked_leaves s dues r.number ns blocked_at (λ p. not_both b (w.1 p) e))
      ];
    }

  -- after the last row
  pub blocked_end : drop at s.rows ≡ [] → AreBlocked s dues ns
  blocked_end e = (
    v.blocked.sorted,
    λ n. (
      v.blocked.sound n,
      λ p. elim (cases_lt n v.number) [
        | inl a ↦ v.blocked.complete n a p
        | inr a ↦ absurd (rootless s dues n
            (v.rows.found n a ∙ ap (find (is_numbered n)) e) p)
      ],
    ),
  )

-- whether an instance is among those that are found
pub blocked_answer : (s : Situation) (dues ds ns ms : List ℕ) → ds ≡ dues → ms ≡ ns
    → AreBlocked s ds ns → (n : ℕ) (b : Bool)
    → (b ≡ true → IsIn n ms) × (IsIn n ms → b ≡ true)
    → (b ≡ true → IsPreceded s dues n) × (IsPreceded s dues n → b ≡ true)
blocked_answer s dues ds ns ms d e v n b w = (
  λ h. subst (λ xs. IsPreceded s xs n) d ((v.1 n).0 (subst (IsIn n) e (w.0 h))),
  λ p. w.1 (subst (IsIn n) (sym e) ((v.1 n).1 (subst (λ xs. IsPreceded s xs n) (sym d) p))),
)
