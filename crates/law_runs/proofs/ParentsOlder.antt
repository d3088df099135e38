-- Blocks keep parents older than their children.
use Rattle.std.proofs.Common.{◌≡◌, refl, sym, subst, arith, ℕ, ◌<◌, ◌≤◌}
use Rattle.std.proofs.Common.{nat_lt, Bool, true, false, ◌||◌, List, [], ◌∷◌, ◌++◌, Option, Some}
use Rattle.std.proofs.Common.{None, Result, Ok, Err, is_some}
use Rattle.std.specs.Prelude.{if◌then◌else◌, map}
use Rattle.std.specs.List.{filter, flat_map, AllByRecursion}
use Rattle.std.proofs.lemmas.Bool.{eqb-true}
use Rattle.std.proofs.lemmas.Option.{same_Some}
use Rattle.rule_scope.specs.declared.declaration.Sort.TheVariants as sort
use Rattle.rule_scope.specs.Outline.{Outline}
use Rattle.mean_blocks.specs.declared.fault.BlockFault.{BlockFault}
use Rattle.mean_blocks.specs.declared.situation.Element.{Element}
use Rattle.mean_blocks.specs.declared.situation.Holding.{Holding}
use Rattle.mean_blocks.specs.declared.situation.Row.{Row}
use Rattle.mean_blocks.specs.Outcome.{Outcome, Done, Fault, Limit, on_ok}
use Rattle.mean_blocks.specs.TextByPlace.{Text}
use Rattle.mean_blocks.specs.GlobalSituation.{Frame, Situation, first_changed, is_numbered}
use Rattle.mean_blocks.specs.GlobalSituation.{with_row, is_point, is_holding}
use Rattle.mean_blocks.specs.NamesInRuns.{places_of}
use Rattle.mean_blocks.specs.WorkingState.{State}
use Rattle.mean_blocks.specs.FunctionCalls.{frame_of}
use Rattle.mean_blocks.specs.InstancePoints.{external_of, indices_of, children_of}
use Rattle.mean_blocks.specs.Attachments.{up, bottom}
use Rattle.mean_blocks.specs.OutputEffects.{Sent}
use Rattle.mean_blocks.specs.LinkEffects.{is_taken}
use Rattle.mean_blocks.specs.LinkEffects.{each, with_point}
use Rattle.mean_blocks.specs.QueueEffects.{moved}
use Rattle.mean_blocks.specs.InstanceEffects.{most_instances, variables_of, with_next, holds}
use Rattle.mean_blocks.specs.InstanceEffects.{in_state, untied}
use Rattle.mean_blocks.specs.InstanceEffects.{empty_elements, empty_element}
use Rattle.mean_blocks.specs.StatementEffects.{statements_in}
use Rattle.mean_blocks.specs.BlockLevels.{site}
use Rattle.mean_blocks.specs.KeepingLaws.{Kept, Between, IsUnchanged}
use Rattle.mean_blocks.proofs.KeptByBlocks.{statements_silent}
use Rattle.law_runs.specs.UpkeepLaws.{OnDone}
use Rattle.law_runs.specs.AncestorLaws.{IsYounger, IsBetween, AreInAge, KeepsAge}
use Rattle.law_runs.specs.AncestorLaws.{ParentsStayOlder}
use Rattle.law_runs.proofs.GivenThings.{OnGood}
use Rattle.law_runs.proofs.SameRows.{HasSameRows, crossed_rows, parted_rows, end_rows}
use Rattle.law_runs.proofs.SameRows.{each_rows}
use Rattle.law_runs.proofs.BlocksOfInstances.{Upkeep, instance_keeps}
use Rattle.law_runs.proofs.Executions.{with_situation, held_child}

-- ROWS

-- one thing of a list is changed
pub changed_all : {A : Type 0} (Q : A → Type 0) (test : A → Bool) (change : A → A)
    → ((x : A) → test x ≡ true → Q x → Q (change x)) → (xs : List A) → AllByRecursion Q xs
    → AllByRecursion Q (first_changed test change xs)
changed_all Q test change h [] g = tt
changed_all Q test change h (x ∷ xs) g =
    one (test x) refl (changed_all Q test change h xs g.1)
  where
    one : (b : Bool) → test x ≡ b → AllByRecursion Q (first_changed test change xs)
        → AllByRecursion Q (if b then change x ∷ xs else x ∷ first_changed test change xs)
    one true e k = (h x e g.0, g.1)
    one false e k = (g.0, k)

-- some of a list are left
pub kept_all : {A : Type 0} (Q : A → Type 0) (test : A → Bool) (xs : List A) → AllByRecursion Q xs
    → AllByRecursion Q (filter test xs)
kept_all Q test [] g = tt
kept_all Q test (x ∷ xs) g = one (test x) (kept_all Q test xs g.1)
  where
    one : (b : Bool) → AllByRecursion Q (filter test xs)
        → AllByRecursion Q (if b then x ∷ filter test xs else filter test xs)
    one true k = (g.0, k)
    one false k = k

-- lists one after the other
pub joined_all : {A : Type 0} (Q : A → Type 0) (xs ys : List A) → AllByRecursion Q xs
    → AllByRecursion Q ys → AllByRecursion Q (xs ++ ys)
joined_all Q [] ys h g = g
joined_all Q (x ∷ xs) ys h g = (h.0, joined_all Q xs ys h.1 g)

-- the elements of module variables hold nothing at first
none_some : (m : ℕ) → None ≡ Some m → ⊥
none_some m h = cc

empty_one : (n p : ℕ) (zss : List (List _)) → AllByRecursion (IsYounger n)
    (map (empty_element p) zss)
empty_one n p [] = tt
empty_one n p (zs ∷ zss) = ((λ m e. absurd (none_some m e)), empty_one n p zss)

empty_all : (o : Outline) (n : ℕ) (ps : List ℕ)
    → AllByRecursion (IsYounger n) (flat_map (empty_elements o) ps)
empty_all o n [] = tt
empty_all o n (p ∷ ps) = joined_all (IsYounger n) (empty_elements o p)
    (flat_map (empty_elements o) ps) (empty_one n p (indices_of o p)) (empty_all o n ps)

-- an element of an instance is given a younger one
held_between : (e : Element) (n : ℕ) (r : Row) → r.number < n → IsBetween r
    → IsBetween (holds e n r)
held_between e n r h g = (
  g.0,
  changed_all (IsYounger r.number) (is_holding e)
      (λ (x : Holding). record x { number = Some n })
      (λ x t i m k. subst (λ a. r.number < a) (same_Some n m k) h) r.children g.1,
)

-- the state and the variables of a row do not matter
state_between : (p : Option ℕ) (r : Row) → IsBetween r → IsBetween (in_state p r)
state_between None r h = h
state_between (Some x) r h = h

-- SITUATIONS

-- an instance was begun, and the instances are in their age
abbrev pub InAge : ℕ → State → Type 0
InAge n s = (n < s.situation.next) × AreInAge s.situation.rows

-- numbers are not used again
abbrev pub Later : Situation → Situation → Type 0
Later s u = s.next ≤ u.next

same_age : (n : ℕ) (s : State) (u : Situation) → HasSameRows s.situation u → InAge n s
    → InAge n (with_situation s u) × Later s.situation u
same_age n s u h g = (
  (
    (let a = g.0 in let e = h.next in omega (arith, a, e)),
    subst AreInAge (sym h.rows) g.1,
  ),
  (let e = h.next in omega (arith, e)),
)

row_age : (n i : ℕ) (s : State) (change : Row → Row) → ((r : Row) → IsBetween r
    → IsBetween (change r)) → InAge n s
    → InAge n (with_situation s (with_row i change s.situation))
    × Later s.situation (with_row i change s.situation)
row_age n i s change h g = (
  (
    g.0,
    changed_all IsBetween (is_numbered i) change
        (λ r e b. h r b) s.situation.rows g.1,
  ),
  omega arith,
)

pub good_if : {A : Type 0} (Q : A → Type 0) (b : Bool) (x y : Result A BlockFault)
    → (b ≡ true → OnGood Q x) → (b ≡ false → OnGood Q y) → OnGood Q (if b then x else y)
good_if Q true x y h g = h refl
good_if Q false x y h g = g refl

-- an instance is begun
pub begun_age : (t : Text) (n body : ℕ) (e : Element) (f : Frame) (s : State) → InAge n s
    → let u = with_row n (holds e s.situation.next) (with_next t.outline n body f s.situation) in
    InAge n (with_situation s u) × InAge s.situation.next (with_situation s u)
    × Later s.situation u
begun_age t n body e f s g =
    let lt = g.0 in
    let rows : AreInAge (with_row n (holds e s.situation.next)
    (with_next t.outline n body f s.situation)).rows = changed_all IsBetween
    (is_numbered n) (holds e s.situation.next)
    (λ r b i. held_between e s.situation.next r
    (subst (λ a. a < s.situation.next) (eqb-true n r.number b) lt) i) _
    (joined_all IsBetween s.situation.rows _ g.1 (
      (lt, empty_all t.outline s.situation.next (places_of t.outline sort.ModuleVariable body)),
      tt,
    )) in
    ((omega (arith, lt), rows), (omega arith, rows), omega arith)

born_age : (t : Text) (n body : ℕ) (e : Element) (s : State) (r : Result Frame BlockFault)
    → InAge n s → OnGood (λ u. InAge n (with_situation s u)
    × InAge s.situation.next (with_situation s u) × Later s.situation u)
    (on_ok r (λ f. Ok (with_row n (holds e s.situation.next)
    (with_next t.outline n body f s.situation))))
born_age t n body e s (Ok f) g = begun_age t n body e f s g
born_age t n body e s (Err f) g = tt

pub good_unit : {A : Type 0} (r : Result A BlockFault) → OnGood (λ x. Unit {0}) r
good_unit (Ok x) = tt
good_unit (Err f) = tt

all_units : {A : Type 0} (xs : List A) → AllByRecursion (λ x. Unit {0}) xs
all_units [] = tt
all_units (x ∷ xs) = (tt, all_units xs)

-- all that is done keeps instances in their age
pub age_kept : (t : Text) → Upkeep t InAge Later (λ n s i. Unit {0}) (λ n i. Unit {0})
age_kept t = record {
  same = λ s. omega arith;
  after = λ r s u h g. omega (arith, h, g);
  counts = λ n s l h. h;
  opens = λ n s f e h. h;
  names = λ n s p i c e h. h;
  closes = λ n s h. h;
  alters = λ n s k d v h. h;
  reaches = λ n s p e h. good_unit (held_child n s p e);
  children = λ n s header h. all_units (children_of t.outline s.situation n header);
  writes = λ n i f s h. row_age n i s (λ r. record r { variables = f }) (λ r b. b) h;
  states = λ n i p s h. row_age n i s (in_state p) (state_between p) h;
  sends = λ n i s e h. let x : Sent = record { situation = s.situation; outs = s.outs } in
      same_age n s _ (crossed_rows t i (up t s.situation i.at)
      (s.situation.peer (up t s.situation i.at)) x) h;
  connects = λ n p q s a b h. good_if _ (is_point p q) _ _ (λ e. tt)
      (λ e. good_if _ (is_taken t s.situation p || is_taken t s.situation q) _ _ (λ f. tt)
      (λ f. same_age n s (record s.situation {
        peer =
            with_point p (Some q) (with_point q (Some p) s.situation.peer);
      })
      (record { rows = refl; next = refl }) h));
  attaches = λ n e c s a b h. good_if _ (is_some (s.situation.down e) || is_taken t s.situation c)
      _ _ (λ f. tt) (λ f. same_age n s
      (record (moved t e (bottom s.situation c) s.situation)
      { down = with_point e (Some c) s.situation.down }) (record { rows = refl; next = refl }) h);
  disconnects = λ n p s h. same_age n s _ (parted_rows p (s.situation.peer p) s.situation) h;
  detaches = λ n p s h. same_age n s _ (end_rows t n p s.situation) h;
  releases = λ n i s d h.
      let u = each (untied t) (external_of t.outline s.situation i) s.situation in
      let g = same_age n s u (each_rows t (external_of t.outline s.situation i) s.situation) h in
      ((g.0.0, kept_all IsBetween _ u.rows g.0.1), g.1);
  begins = λ n e body xs s h. good_if _ (nat_lt most_instances s.situation.next) _ _ (λ f. tt)
      (λ f. born_age t n body e s (frame_of t.outline (variables_of t.outline body) xs) h);
  returns = λ n e body xs s u v h b g i. ((let a = h.0 in let c = i.0 in omega (arith, a, c)), i.1);
}

-- THE LAW

age_done : (n : ℕ) (s : State) (o : Outcome State (Unit {0}))
    → (InAge n s → OnDone (λ u. InAge n u × Later s.situation u.situation) o)
    → Kept (Between (KeepsAge n)) s o
age_done n s (Done a u) h = λ e g. (h (e, g)).0.1
age_done n s (Fault f) h = tt
age_done n s Limit h = tt

silent_age : (n : ℕ) (s : State) (o : Outcome State (Unit {0})) → Kept IsUnchanged s o
    → Kept (Between (KeepsAge n)) s o
silent_age n s (Done a u) h = λ e g. subst (λ (x : Situation). AreInAge x.rows) (sym h.0) g
silent_age n s (Fault f) h = tt
silent_age n s Limit h = tt

pub parents_stay_older : ParentsStayOlder
parents_stay_older t n true levels xs s = silent_age n s
    (statements_in xs (site t n true levels) s) (statements_silent xs (site t n true levels) refl s)
parents_stay_older t n false levels xs s = age_done n s
    (statements_in xs (site t n false levels) s)
    (λ h. instance_keeps t InAge Later (λ n s i. Unit {0}) (λ n i. Unit {0}) (age_kept t) n levels
    xs s h)
