-- The best run on a path, as the path changes.
use Rattle.std.proofs.Common.{◌≡◌, ℕ, suc, ◌+◌, ◌<◌, ◌≤◌, ◌⊎◌, List, [], ◌∷◌, ◌++◌, length}
use Rattle.std.proofs.Common.{sym, ap, subst, ◌∙◌, inl, inr, append_assoc, arith}
use Rattle.std.proofs.lemmas.Bool.{cases_lt}
use Rattle.std.proofs.lemmas.List.{length-append}
use Rattle.est_meaning.specs.Order.{StartsWith}
use Rattle.est_meaning.proofs.OrderLaws.{starts_self, starts_trans}
use Rattle.run_paths.specs.declared.path.Best.{Best}
use Rattle.run_paths.specs.Paths.{IsKept, HasReached, HasKept}

pub at_most : (m n : ℕ) → (m ≤ n) ⊎ (n < m)
at_most m n = elim (cases_lt n m) [ inl a ↦ inr a | inr a ↦ inl a ]

-- where more moves stand on the path
pub kept_more : {M : Type 0} (moves more : List M) (best : Best M) (run : List M)
    → StartsWith more moves → IsKept moves best run → IsKept more best run
kept_more moves more best run s k = record {
  start = k.start;
  starts = starts_trans more moves k.start s k.starts;
  common = k.common;
  run_is = k.run_is;
}

-- a run that yields more is the best
pub kept_reached : {M : Type 0} (h more : List M) (last : M) (old new : Best M) (made k : ℕ)
    → StartsWith more h → made ≡ length h → HasReached old new made last k → old.yields < k
    → IsKept more new (last ∷ h)
kept_reached h more last old new made k s made_is reached lt =
    let raised = reached.more lt in
    record {
      start = h;
      starts = s;
      common = sym made_is ∙ sym raised.1;
      run_is = ap (λ w. w ++ h) (sym raised.2);
    }

pub starts_length : {M : Type 0} (moves start : List M) → StartsWith moves start
    → length start ≤ length moves
starts_length moves start s =
    let e : length moves ≡ length s.0 + length start = ap length s.1 ∙ length-append s.0 start in
    omega arith

-- a list starts with a shorter one, or is that list
pub starts_shorter : {M : Type 0} (made : M) (h start later : List M) → made ∷ h ≡ later ++ start
    → length start ≤ length h → StartsWith h start
starts_shorter made h start [] e le = absurd (let n : suc (length h) ≡ length start = ap length e in
    omega arith)
starts_shorter made h start (x ∷ later) e le = (let b : h ≡ later ++ start = cc in (later, b))

pub starts_whole : {M : Type 0} (made : M) (h start later : List M) → made ∷ h ≡ later ++ start
    → length h < length start → start ≡ made ∷ h
starts_whole made h start [] e lt = sym e
starts_whole made h start (x ∷ later) e lt =
    let b : h ≡ later ++ start = cc in
    let n : length h ≡ length later + length start = ap length b ∙ length-append later start in
    absurd (omega arith)

-- where the last move is undone
pub kept_undone : {M : Type 0} (made : M) (h : List M) (old new : Best M) (run : List M) (left : ℕ)
    → left ≡ length h → HasKept old new left made → IsKept (made ∷ h) old run
    → IsKept h new run
kept_undone {M} made h old new run left left_is has k =
    elim (at_most old.common left) [
      | inl le ↦
          (let common = k.common in
          let same = has.apart le in
          let after : IsKept h old run = record {
            start = k.start;
            starts = starts_shorter made h k.start k.starts.0 k.starts.1 (omega arith);
            common = k.common;
            run_is = k.run_is;
          } in
          subst (λ (b : Best M). IsKept h b run) (sym same) after)
      | inr lt ↦
          (let common = k.common in
          let s = has.shared lt in
          let whole : k.start ≡ made ∷ h = starts_whole made h k.start k.starts.0 k.starts.1
          (omega arith) in
          record {
            start = h;
            starts = starts_self h;
            common = sym left_is ∙ sym s.1;
            run_is = k.run_is ∙ ap (λ w. old.tail.items ++ w) whole
                ∙ sym (append_assoc old.tail.items (made ∷ []) h)
                ∙ ap (λ w. w ++ h) (sym s.2);
          })
    ]
