-- Blocks of instances leave one root.
use Rattle.std.proofs.Common.{◌≡◌, refl, sym, ap, subst, ◌∙◌, arith, ℕ, zero, suc, ◌+◌, ◌<◌}
use Rattle.std.proofs.Common.{◌≤◌, nat_lt, Bool, ◌||◌, List, [], ◌∷◌, ◌++◌, Some}
use Rattle.std.proofs.Common.{Result, Ok, Err, is_some, inl, inr}
use Rattle.std.specs.Prelude.{◌⊎◌}
use Rattle.std.specs.List.{filter, AllByRecursion}
use Rattle.mean_blocks.specs.declared.fault.BlockFault.{BlockFault}
use Rattle.mean_blocks.specs.declared.situation.Element.{Element}
use Rattle.mean_blocks.specs.declared.situation.Row.{Row}
use Rattle.mean_blocks.specs.Outcome.{on_ok}
use Rattle.mean_blocks.specs.TextByPlace.{Text}
use Rattle.mean_blocks.specs.GlobalSituation.{Frame, Situation, is_numbered, with_row, is_point}
use Rattle.mean_blocks.specs.FunctionCalls.{frame_of}
use Rattle.mean_blocks.specs.WorkingState.{State}
use Rattle.mean_blocks.specs.InstancePoints.{external_of, children_of}
use Rattle.mean_blocks.specs.Attachments.{up, bottom}
use Rattle.mean_blocks.specs.QueueEffects.{moved}
use Rattle.mean_blocks.specs.OutputEffects.{Sent}
use Rattle.mean_blocks.specs.LinkEffects.{with_point, is_taken, each}
use Rattle.mean_blocks.specs.InstanceEffects.{most_instances, variables_of, with_next, holds}
use Rattle.mean_blocks.specs.InstanceEffects.{in_state, untied, new_row}
use Rattle.law_runs.specs.AncestorLaws.{IsRowOf, AreInAge}
use Rattle.law_runs.specs.OrderLaws.{IsLiving, ParentsLive}
use Rattle.law_runs.proofs.GivenThings.{OnGood}
use Rattle.law_runs.proofs.SameRows.{HasSameRows, crossed_rows, parted_rows, end_rows, each_rows}
use Rattle.law_runs.proofs.RowLaws.{From, IsMild, from_changed, from_joined}
use Rattle.law_runs.proofs.RowLaws.{from_filtered, HasNumber, row_living, living_row, IsUpTo}
use Rattle.law_runs.proofs.RowLaws.{here, child, of_rows}
use Rattle.law_runs.proofs.ParentsOlder.{good_if}
use Rattle.law_runs.proofs.OrderlyBlocks.{own_row, state_mild, holds_mild}
use Rattle.law_runs.proofs.BlocksOfInstances.{Upkeep}
use Rattle.law_runs.proofs.Executions.{with_situation, held_child}

-- no instance but the first one is without a parent
abbrev pub HasOneRoot : List Row → Type 0
HasOneRoot rs = (r : Row) → IsRowOf rs r → r.parent ≡ 0 → r.number ≡ 1

-- an instance executes where there is one root
abbrev pub UnderRoot : ℕ → State → Type 0
UnderRoot n s = (1 ≤ n) × (1 ≤ s.situation.next) × HasOneRoot s.situation.rows

abbrev pub Whatever : Situation → Situation → Type 0
Whatever s u = Unit {0}

pub root_from : (rs us : List Row) → From rs us → HasOneRoot rs → HasOneRoot us
root_from rs us f h r c z = let a = f r c in sym a.number ∙ h a.row a.found (a.parent ∙ z)

same_root : (n : ℕ) (s : State) (u : Situation) → HasSameRows s.situation u → UnderRoot n s
    → UnderRoot n (with_situation s u) × Whatever s.situation u
same_root n s u e h =
    ((h.0, subst (λ m. 1 ≤ m) (sym e.next) h.1, subst HasOneRoot (sym e.rows) h.2), tt)

row_root : (n i : ℕ) (s : State) (change : Row → Row) → IsMild change → UnderRoot n s
    → UnderRoot n (with_situation s (with_row i change s.situation))
    × Whatever s.situation (with_row i change s.situation)
row_root n i s change mild h = (
  (
    h.0,
    h.1,
    root_from s.situation.rows _
        (from_changed (is_numbered i) change mild s.situation.rows) h.2,
  ),
  tt,
)

filtered_root : (test : Row → Bool) (rs : List Row) → HasOneRoot rs → HasOneRoot (filter test rs)
filtered_root test rs h =
    root_from rs (filter test rs) (λ r c. own_row rs r (from_filtered test rs r c).0) h

joined_root : (rs : List Row) (new : Row) → 1 ≤ new.parent → HasOneRoot rs
    → HasOneRoot (rs ++ new ∷ [])
joined_root rs new l h r c z = one (from_joined rs new r c)
  where
    one : IsRowOf rs r ⊎ (new ≡ r) → r.number ≡ 1
    one (inl g) = h r g z
    one (inr i) = let e = ap (λ (y : Row). y.parent) i in absurd (omega (arith, e, l, z))

begun_root : (t : Text) (n body : ℕ) (e : Element) (f : Frame) (s : State) → UnderRoot n s
    → let u = with_row n (holds e s.situation.next) (with_next t.outline n body f s.situation) in
    UnderRoot n (with_situation s u) × UnderRoot s.situation.next (with_situation s u)
    × Whatever s.situation u
begun_root t n body e f s h =
    let new = new_row t.outline s.situation.next n body f in
    let more = s.situation.rows ++ new ∷ [] in
    let root : HasOneRoot (with_row n (holds e s.situation.next)
    (with_next t.outline n body f s.situation)).rows =
    root_from more _ (from_changed (is_numbered n) (holds e s.situation.next)
    (holds_mild e s.situation.next) more) (joined_root s.situation.rows new h.0 h.2) in
    let next : 1 ≤ s.situation.next + 1 = omega arith in
    ((h.0, next, root), (h.1, next, root), tt)

born_root : (t : Text) (n body : ℕ) (e : Element) (s : State) (r : Result Frame BlockFault)
    → UnderRoot n s → OnGood (λ u. UnderRoot n (with_situation s u)
    × UnderRoot s.situation.next (with_situation s u) × Whatever s.situation u)
    (on_ok r (λ f. Ok (with_row n (holds e s.situation.next)
    (with_next t.outline n body f s.situation))))
born_root t n body e s (Ok f) h = begun_root t n body e f s h
born_root t n body e s (Err f) h = tt

pub any_good : {A : Type 0} (r : Result A BlockFault) → OnGood (λ x. Unit {0}) r
any_good (Ok x) = tt
any_good (Err f) = tt

pub any_all : {A : Type 0} (xs : List A) → AllByRecursion (λ x. Unit {0}) xs
any_all [] = tt
any_all (x ∷ xs) = (tt, any_all xs)

-- all that is done leaves one root
pub root_kept : (t : Text) → Upkeep t UnderRoot Whatever (λ n s i. Unit {0}) (λ n i. Unit {0})
root_kept t = record {
  same = λ s. tt;
  after = λ r s u h g. tt;
  counts = λ n s l h. h;
  opens = λ n s f e h. h;
  names = λ n s p i c e h. h;
  closes = λ n s h. h;
  alters = λ n s k d v h. h;
  reaches = λ n s p e h. any_good (held_child n s p e);
  children = λ n s header h. any_all (children_of t.outline s.situation n header);
  writes = λ n i f s h. row_root n i s (λ r. record r { variables = f }) (λ r. (refl, refl)) h;
  states = λ n i p s h. row_root n i s (in_state p) (state_mild p) h;
  sends = λ n i s e h. let x : Sent = record { situation = s.situation; outs = s.outs } in
      same_root n s _ (crossed_rows t i (up t s.situation i.at)
      (s.situation.peer (up t s.situation i.at)) x) h;
  connects = λ n p q s a b h. good_if _ (is_point p q) _ _ (λ e. tt)
      (λ e. good_if _ (is_taken t s.situation p || is_taken t s.situation q) _ _ (λ f. tt)
      (λ f. same_root n s (record s.situation {
        peer =
            with_point p (Some q) (with_point q (Some p) s.situation.peer);
      })
      (record { rows = refl; next = refl }) h));
  attaches = λ n e c s a b h. good_if _ (is_some (s.situation.down e) || is_taken t s.situation c)
      _ _ (λ f. tt) (λ f. same_root n s
      (record (moved t e (bottom s.situation c) s.situation)
      { down = with_point e (Some c) s.situation.down }) (record { rows = refl; next = refl }) h);
  disconnects = λ n p s h. same_root n s _ (parted_rows p (s.situation.peer p) s.situation) h;
  detaches = λ n p s h. same_root n s _ (end_rows t n p s.situation) h;
  releases = λ n i s d h.
      let u = each (untied t) (external_of t.outline s.situation i) s.situation in
      let g = same_root n s u (each_rows t (external_of t.outline s.situation i) s.situation) h in
      ((g.0.0, g.0.1, filtered_root _ u.rows g.0.2), tt);
  begins = λ n e body xs s h. good_if _ (nat_lt most_instances s.situation.next) _ _ (λ f. tt)
      (λ f. born_root t n body e s (frame_of t.outline (variables_of t.outline body) xs) h);
  returns = λ n e body xs s u v h b g i. (h.0, i.1, i.2);
}

-- THE ROOT IS ABOVE ALL

module _ (rs : List Row) (age : AreInAge rs) (parents : ParentsLive rs) (alone : HasOneRoot rs)
  where
    above_by : (k n : ℕ) → n < k → IsLiving rs n → IsUpTo rs 1 n
    above_by zero n l h = absurd (omega (arith, l))
    above_by (suc k) n l h = one (parents a.row a.found) (above_by k a.row.parent)
      where
        a : HasNumber rs n
        a = living_row rs n h

        one : (a.row.parent ≡ 0) ⊎ IsLiving rs a.row.parent
            → (a.row.parent < k → IsLiving rs a.row.parent → IsUpTo rs 1 a.row.parent)
            → IsUpTo rs 1 n
        one (inl z) f = here n (sym (alone a.row a.found z) ∙ a.number)
        one (inr g) f = let b = (of_rows rs a.row age a.found).0 in let e = a.number in
            child n a.row a.found a.number (f (omega (arith, b, e, l)) g)

    pub root_above : (n : ℕ) → IsLiving rs n → IsUpTo rs 1 n
    root_above n h = above_by (n + 1) n (omega arith) h

    above_lives : (n : ℕ) → IsLiving rs n → IsUpTo rs 1 n → IsLiving rs 1
    above_lives n h (here m e) = subst (IsLiving rs) (sym e) h
    above_lives n h (child m r c e k) = one (parents r c) (λ g. above_lives r.parent g k)
      where
        one : (r.parent ≡ 0) ⊎ IsLiving rs r.parent → (IsLiving rs r.parent → IsLiving rs 1)
            → IsLiving rs 1
        one (inl z) f = subst (IsLiving rs) (alone r c z) (row_living rs r c)
        one (inr g) f = f g

    -- so it lives where any instance does
    pub root_lives : (n : ℕ) → IsLiving rs n → IsLiving rs 1
    root_lives n h = above_lives n h (root_above n h)
