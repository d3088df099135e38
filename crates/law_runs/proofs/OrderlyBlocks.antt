-- Blocks of living instances leave orderly situations.
use Rattle.std.proofs.Common.{◌≡◌, refl, sym, ap, subst, ◌∙◌, arith, ℕ, ◌<◌, ◌≤◌, nat_eq}
use Rattle.std.proofs.Common.{nat_lt, Bool, true, false, ◌||◌, List, [], ◌∷◌, ◌++◌, Option, Some}
use Rattle.std.proofs.Common.{None, Result, Ok, Err, is_some, inl, inr, length}
use Rattle.std.specs.Prelude.{if◌then◌else◌, not, find, map, ◌⊎◌, option_and_then}
use Rattle.std.specs.List.{filter, AllByRecursion}
use Rattle.std.specs.Prelude.{◌&&◌, ◌-◌}
use Rattle.std.specs.Option.{option_map_or}
use Rattle.std.proofs.lemmas.Bool.{eqb-true}
use Rattle.rule_scope.specs.Outline.{Outline}
use Rattle.mean_blocks.specs.declared.fault.BlockFault.{BlockFault}
use Rattle.mean_blocks.specs.declared.fault.BlockFault.TheVariants.{NoModule, TooMany}
use Rattle.mean_blocks.specs.declared.frame.Slot.TheVariants as slot
use Rattle.mean_blocks.specs.declared.situation.Element.{Element}
use Rattle.mean_blocks.specs.declared.situation.Holding.{Holding}
use Rattle.mean_blocks.specs.declared.situation.InteractionPoint.{InteractionPoint}
use Rattle.mean_blocks.specs.declared.situation.Item.{Item}
use Rattle.mean_blocks.specs.declared.situation.Row.{Row}
use Rattle.mean_blocks.specs.Outcome.{Outcome, Done, Fault, Limit, on_ok}
use Rattle.mean_blocks.specs.TextByPlace.{Text}
use Rattle.mean_blocks.specs.GlobalSituation.{Frame, Situation, first_changed, is_numbered}
use Rattle.mean_blocks.specs.GlobalSituation.{with_row, is_point, held, is_holding}
use Rattle.mean_blocks.specs.Frames.{innermost}
use Rattle.mean_blocks.specs.ReachedVariables.{living, held_in}
use Rattle.mean_blocks.specs.FunctionCalls.{frame_of}
use Rattle.mean_blocks.specs.WorkingState.{State}
use Rattle.mean_blocks.specs.InstancePoints.{external_of, is_child}
use Rattle.mean_blocks.specs.Attachments.{up, bottom}
use Rattle.mean_blocks.specs.QueueEffects.{moved}
use Rattle.mean_blocks.specs.OutputEffects.{Sent}
use Rattle.mean_blocks.specs.LinkEffects.{with_point, is_taken, each}
use Rattle.mean_blocks.specs.LinkEffects.{disconnected, detached_end}
use Rattle.mean_blocks.specs.InstanceEffects.{most_instances, variables_of, with_next, holds}
use Rattle.mean_blocks.specs.InstanceEffects.{in_state, is_among, descendants, without, untied}
use Rattle.mean_blocks.specs.InstanceEffects.{new_row, released}
use Rattle.mean_blocks.specs.StatementEffects.{statements_in}
use Rattle.mean_blocks.specs.BlockLevels.{site}
use Rattle.mean_blocks.specs.KeepingLaws.{AreNumbered, AscendBelow, GoesOver, OnChange}
use Rattle.mean_blocks.specs.NamesInRuns.{header_at}
use Rattle.mean_blocks.specs.LoopEffects.{naming}
use Rattle.mean_blocks.proofs.NumbersAscend.{goes_kept}
use Rattle.law_runs.specs.UpkeepLaws.{OnDone}
use Rattle.law_runs.specs.AncestorLaws.{IsRowOf, IsYounger, AreInAge}
use Rattle.law_runs.specs.OrderLaws.{IsLiving, ParentsLive, IsOrderly}
use Rattle.law_runs.specs.OrderLaws.{SituationsStayOrderly}
use Rattle.law_runs.proofs.GivenThings.{OnGood}
use Rattle.law_runs.proofs.SameRows.{HasSameRows, crossed_rows, parted_rows, end_rows, each_rows}
use Rattle.law_runs.proofs.RowLaws.{HasRow, From, IsMild, from_changed, to_changed, from_joined}
use Rattle.law_runs.proofs.RowLaws.{to_joined, to_end, to_filtered, from_filtered}
use Rattle.law_runs.proofs.RowLaws.{row_living, living_row, living_from, within_numbers}
use Rattle.law_runs.proofs.RowLaws.{living_number, IsUpTo, here, child, up_from, up_older}
use Rattle.law_runs.proofs.RowLaws.{old_up, new_up, among_self, descend, closed_below}
use Rattle.law_runs.proofs.FittingFrames.{OnFrames, plain_frame, plain_frames, opened_frames}
use Rattle.law_runs.proofs.FittingFrames.{taken_frames, altered_frames, OnNumber, named_fits}
use Rattle.law_runs.proofs.FittingFrames.{weaker_frames}
use Rattle.law_runs.proofs.LivingLinks.{IsLinked, connected_living, attached_living}
use Rattle.law_runs.proofs.LivingLinks.{parted_living, end_living, each_living, sent_living}
use Rattle.law_runs.proofs.LivingLinks.{stay_living, without_living}
use Rattle.law_runs.proofs.ParentsOlder.{age_kept, good_if, InAge}
use Rattle.law_runs.proofs.BlocksOfInstances.{Upkeep, instance_keeps}
use Rattle.law_runs.proofs.Executions.{with_situation, with_sent, held_child, IsEnd}

-- an instance that was begun is not above another one
abbrev pub IsApart : ℕ → Situation → ℕ → Type 0
IsApart n s i = (i < s.next) × (IsUpTo s.rows i n → ⊥)

-- A living instance executes in an orderly situation; what frames name is not above it.
pub record Works (n : ℕ) (x : Situation) (fs : List Frame) : Type 0 where
  pub alive : IsLiving x.rows n
  pub numbers : AreNumbered x
  pub age : AreInAge x.rows
  pub parents : ParentsLive x.rows
  pub links : IsLinked x.rows x
  pub names : OnFrames (IsApart n x) fs

abbrev pub IsAtWork : ℕ → State → Type 0
IsAtWork n s = Works n s.situation s.frames

-- numbers are not used again, and rows of what was begun keep their parents
pub record Follows (s u : Situation) : Type 0 where
  pub next : s.next ≤ u.next
  pub rows : (r : Row) → IsRowOf u.rows r → r.number < s.next → HasRow s.rows r

follows_after : (r s u : Situation) → Follows r s → Follows s u → Follows r u
follows_after r s u h k = record {
  next = (let a = h.next in let b = k.next in omega (arith, a, b));
  rows = λ x c l. let a = k.rows x c (let b = h.next in omega (arith, l, b)) in
      let e = a.number in
      let b = h.rows a.row a.found (omega (arith, e, l)) in
      record {
        row = b.row;
        found = b.found;
        number = b.number ∙ a.number;
        parent = b.parent ∙ a.parent;
      };
}

pub own_row : (rs : List Row) (r : Row) → IsRowOf rs r → HasRow rs r
own_row rs r c = record { row = r; found = c; number = refl; parent = refl }

follows_from : (s u : Situation) → s.next ≤ u.next → From s.rows u.rows → Follows s u
follows_from s u e h = record { next = e; rows = λ r c l. h r c }

-- THE SAME INSTANCES

same_work : (n : ℕ) (s : State) (u : Situation) → HasSameRows s.situation u
    → AreNumbered u → AreInAge u.rows → IsLinked s.situation.rows u → IsAtWork n s
    → IsAtWork n (with_situation s u) × Follows s.situation u
same_work n s u e numbers age links h = (
  record {
    alive = subst (λ rs. IsLiving rs n) (sym e.rows) h.alive;
    numbers = numbers;
    age = age;
    parents = subst ParentsLive (sym e.rows) h.parents;
    links = subst (λ rs. IsLinked rs u) (sym e.rows) links;
    names = weaker_frames (IsApart n s.situation) (IsApart n u) (λ i a. (
      (let b = a.0 in let f = e.next in omega (arith, b, f)),
      λ k. a.1 (subst (λ rs. IsUpTo rs i n) e.rows k),
    )) s.frames h.names;
  },
  follows_from s.situation u (let f = e.next in omega (arith, f))
      (subst (λ rs. From s.situation.rows rs) (sym e.rows) (own_row s.situation.rows)),
)

-- A ROW IS CHANGED

row_work : (n i : ℕ) (s : State) (change : Row → Row) → IsMild change
    → AreNumbered (with_row i change s.situation) → AreInAge (with_row i change s.situation).rows
    → IsAtWork n s → IsAtWork n (with_situation s (with_row i change s.situation))
    × Follows s.situation (with_row i change s.situation)
row_work n i s change mild numbers age h =
    let rs = s.situation.rows in
    let us = first_changed (is_numbered i) change rs in
    let from : From rs us = from_changed (is_numbered i) change mild rs in
    let to : From us rs = to_changed (is_numbered i) change mild rs in (
      record {
        alive = living_from rs us to n h.alive;
        numbers = numbers;
        age = age;
        parents = λ r c. parent_stays rs us to r (from r c) h.parents;
        links = stay_living rs us s.situation.peer s.situation.down s.situation.queues
            (living_from rs us to) h.links;
        names = weaker_frames (IsApart n s.situation)
            (IsApart n (with_row i change s.situation))
            (λ j a. (a.0, λ k. a.1 (up_from rs us from j n k))) s.frames h.names;
      },
      follows_from s.situation (with_row i change s.situation) (omega arith) from,
    )
  where
    parent_stays : (rs us : List Row) → From us rs → (r : Row) → HasRow rs r → ParentsLive rs
        → (r.parent ≡ 0) ⊎ IsLiving us r.parent
    parent_stays rs us to r a p = one (p a.row a.found)
      where
        one : (a.row.parent ≡ 0) ⊎ IsLiving rs a.row.parent → (r.parent ≡ 0) ⊎ IsLiving us r.parent
        one (inl e) = inl (sym a.parent ∙ e)
        one (inr l) = inr (living_from rs us to r.parent (subst (IsLiving rs) a.parent l))

pub state_mild : (p : Option ℕ) → IsMild (in_state p)
state_mild None r = (refl, refl)
state_mild (Some x) r = (refl, refl)

-- INSTANCES GO

module _ (n i : ℕ) (s : State) (h : IsAtWork n s) (apart : IsUpTo s.situation.rows i n → ⊥) where
  abbrev gone : List ℕ
  gone = descendants (i ∷ []) s.situation.rows

  abbrev stays : Row → Bool
  stays r = not (is_among gone r.number)

  abbrev rest : List Row
  rest = filter stays s.situation.rows

  gone_below : (k : ℕ) → is_among gone k ≡ true → IsUpTo s.situation.rows i k
  gone_below k e = descend s.situation.rows i s.situation.rows (i ∷ []) (λ r c. c)
      (λ j a. here j (sym (among_self i j a))) k e

  either : (b : Bool) → (b ≡ true → ⊥) → b ≡ false
  either true f = absurd (f refl)
  either false f = refl

  self_stays : is_among gone n ≡ false
  self_stays = either (is_among gone n) (λ e. apart (gone_below n e))

  rest_living : (k : ℕ) → IsLiving s.situation.rows k → is_among gone k ≡ false → IsLiving rest k
  rest_living k l e =
      let a = living_row s.situation.rows k l in
      subst (IsLiving rest) a.number (row_living rest a.row
      (to_filtered stays s.situation.rows a.row a.found
      (ap (λ b. not b) (ap (is_among gone) a.number ∙ e))))

  rest_from : From s.situation.rows rest
  rest_from r c = own_row s.situation.rows r (from_filtered stays s.situation.rows r c).0

  negated : (b : Bool) → not b ≡ true → b ≡ true → ⊥
  negated true e k = absurd (cc)
  negated false e k = absurd (cc)

  rest_parents : ParentsLive rest
  rest_parents r c = let a = from_filtered stays s.situation.rows r c in
      one a.0 a.1 (h.parents r a.0)
    where
      one : IsRowOf s.situation.rows r → stays r ≡ true
          → (r.parent ≡ 0) ⊎ IsLiving s.situation.rows r.parent
          → (r.parent ≡ 0) ⊎ IsLiving rest r.parent
      one c e (inl k) = inl k
      one c e (inr l) = inr (rest_living r.parent l (either (is_among gone r.parent)
          (λ k. negated (is_among gone r.number) e
          (closed_below 1 s.situation.next s.situation.rows (i ∷ []) h.numbers.1 h.age r c k))))

  gone_work : AreNumbered (without gone s.situation) → AreInAge rest
      → IsAtWork n (with_situation s (without gone s.situation))
      × Follows s.situation (without gone s.situation)
  gone_work numbers age = (
    record {
      alive = rest_living n h.alive self_stays;
      numbers = numbers;
      age = age;
      parents = rest_parents;
      links = without_living s.situation.rows rest gone rest_living s.situation.peer
          s.situation.down s.situation.queues h.links;
      names = weaker_frames (IsApart n s.situation) (IsApart n (without gone s.situation))
          (λ j a. (a.0, λ k. a.1 (up_from s.situation.rows rest rest_from j n k))) s.frames h.names;
    },
    follows_from s.situation (without gone s.situation) (omega arith) rest_from,
  )

-- AN INSTANCE COMES

pub holds_mild : (e : Element) (n : ℕ) → IsMild (holds e n)
holds_mild e n r = (refl, refl)

module _ (t : Text) (n body : ℕ) (e : Element) (f : Frame) (s : State) (h : IsAtWork n s) where
  abbrev next : ℕ
  next = s.situation.next

  abbrev new : Row
  new = new_row t.outline next n body f

  abbrev more : List Row
  more = s.situation.rows ++ new ∷ []

  abbrev after : Situation
  after = with_row n (holds e next) (with_next t.outline n body f s.situation)

  from_more : From more after.rows
  from_more = from_changed (is_numbered n) (holds e next) (holds_mild e next) more

  to_more : From after.rows more
  to_more = to_changed (is_numbered n) (holds e next) (holds_mild e next) more

  more_living : (k : ℕ) → IsLiving s.situation.rows k → IsLiving after.rows k
  more_living k l = living_from more after.rows to_more k
      (living_from s.situation.rows more (λ r c. own_row more r
      (to_joined s.situation.rows (new ∷ []) r c)) k l)

  new_living : IsLiving after.rows next
  new_living = living_from more after.rows to_more next
      (row_living more new (to_end s.situation.rows new))

  old_number : (r : Row) → IsRowOf s.situation.rows r → r.number < new.number
  old_number r c = (within_numbers 1 next s.situation.rows r h.numbers.1 c).1

  begun_before : n < next
  begun_before = (living_number 1 next s.situation.rows n h.numbers.1 h.alive).1

  after_parents : ParentsLive after.rows
  after_parents r c = one (from_more r c)
    where
      last : (a : HasRow more r) → IsRowOf s.situation.rows a.row ⊎ (new ≡ a.row)
          → (r.parent ≡ 0) ⊎ IsLiving after.rows r.parent
      last a (inl b) = other (h.parents a.row b)
        where
          other : (a.row.parent ≡ 0) ⊎ IsLiving s.situation.rows a.row.parent
              → (r.parent ≡ 0) ⊎ IsLiving after.rows r.parent
          other (inl z) = inl (sym a.parent ∙ z)
          other (inr l) = inr (more_living r.parent (subst (IsLiving s.situation.rows) a.parent l))
      last a (inr b) = inr (subst (IsLiving after.rows)
          (ap (λ (y : Row). y.parent) b ∙ a.parent) (more_living n h.alive))

      one : HasRow more r → (r.parent ≡ 0) ⊎ IsLiving after.rows r.parent
      one a = last a (from_joined s.situation.rows new a.row a.found)

  after_links : IsLinked after.rows after
  after_links = stay_living s.situation.rows after.rows s.situation.peer s.situation.down
      s.situation.queues more_living h.links

  -- what frames name is not above the instance, nor above the new one
  not_above : (i : ℕ) → IsApart n s.situation i → IsUpTo after.rows i n → ⊥
  not_above i a k = a.1 (old_up s.situation.rows new old_number h.age i n begun_before
      (up_from more after.rows from_more i n k))

  not_above_new : (i : ℕ) → IsApart n s.situation i → IsUpTo after.rows i next → ⊥
  not_above_new i a k = a.1 (new_up s.situation.rows new old_number h.age i next refl a.0
      begun_before (up_from more after.rows from_more i next k))

  after_follows : Follows s.situation after
  after_follows = record {
    next = omega arith;
    rows = λ r c l. one r l (from_more r c);
  }
    where
      one : (r : Row) → r.number < next → HasRow more r → HasRow s.situation.rows r
      one r l a = last (from_joined s.situation.rows new a.row a.found)
        where
          last : IsRowOf s.situation.rows a.row ⊎ (new ≡ a.row) → HasRow s.situation.rows r
          last (inl b) =
              record { row = a.row; found = b; number = a.number; parent = a.parent }
          last (inr b) = let z = ap (λ (y : Row). y.number) b in
              let d = a.number in absurd (omega (arith, l, z, d))

  begun_work : AreNumbered after → AreInAge after.rows
      → IsAtWork n (with_situation s after) × IsAtWork next (with_situation s after)
      × Follows s.situation after
  begun_work numbers age = (
    record {
      alive = more_living n h.alive;
      numbers = numbers;
      age = age;
      parents = after_parents;
      links = after_links;
      names = weaker_frames (IsApart n s.situation) (IsApart n after)
          (λ i a. ((let b = a.0 in omega (arith, b)), not_above i a)) s.frames h.names;
    },
    record {
      alive = new_living;
      numbers = numbers;
      age = age;
      parents = after_parents;
      links = after_links;
      names = weaker_frames (IsApart n s.situation) (IsApart next after)
          (λ i a. ((let b = a.0 in omega (arith, b)), not_above_new i a)) s.frames h.names;
    },
    after_follows,
  )

  -- the row of the new instance names its parent
  new_parent : (r : Row) → IsRowOf after.rows r → r.number ≡ next → r.parent ≡ n
  new_parent r c z = one (from_more r c)
    where
      last : (a : HasRow more r) → IsRowOf s.situation.rows a.row ⊎ (new ≡ a.row) → r.parent ≡ n
      last a (inl b) = let l = old_number a.row b in
          let d = a.number in absurd (omega (arith, l, z, d))
      last a (inr b) = sym a.parent ∙ ap (λ (y : Row). y.parent) (sym b)

      one : HasRow more r → r.parent ≡ n
      one a = last a (from_joined s.situation.rows new a.row a.found)

-- WHAT IS REACHED

held_younger : (n : ℕ) (e : Element) (hs : List Holding) → AllByRecursion (IsYounger n) hs
    → OnNumber (λ i. n < i) (held e hs)
held_younger n e [] h = tt
held_younger n e (x ∷ xs) h = one (is_holding e x) (held_younger n e xs h.1)
  where
    given : (o : Option ℕ) → x.number ≡ o → OnNumber (λ i. n < i) o
    given None k = tt
    given (Some i) k = h.0 i k

    one : (b : Bool) → OnNumber (λ i. n < i) (held e xs)
        → OnNumber (λ i. n < i) (option_and_then (λ (y : Holding). y.number)
        (if b then Some x else find (is_holding e) xs))
    one true g = given x.number refl
    one false g = g

-- what an element of a module variable holds is younger than the instance
pub reached_younger : (n : ℕ) (e : Element) (rs : List Row) → AreInAge rs
    → OnNumber (λ i. n < i) (option_and_then (λ (r : Row). held e r.children)
    (find (is_numbered n) rs))
reached_younger n e [] h = tt
reached_younger n e (r ∷ rs) h = one (nat_eq n r.number) refl (reached_younger n e rs h.1)
  where
    one : (b : Bool) → nat_eq n r.number ≡ b
        → OnNumber (λ i. n < i) (option_and_then (λ (r : Row). held e r.children)
        (find (is_numbered n) rs))
        → OnNumber (λ i. n < i) (option_and_then (λ (r : Row). held e r.children)
        (if b then Some r else find (is_numbered n) rs))
    one true k g = held_younger n e r.children
        (subst (λ m. AllByRecursion (IsYounger m) r.children) (sym (eqb-true n r.number k)) h.0.1)
    one false k g = g

-- no younger instance is above one
younger_apart : (rs : List Row) (n i : ℕ) → AreInAge rs → n < i → IsUpTo rs i n → ⊥
younger_apart rs n i h l a = let k = up_older rs i n h a in absurd (omega (arith, k, l))

number_more : (P Q : ℕ → Type 0) → ((i : ℕ) → P i → Q i) → (o : Option ℕ) → OnNumber P o
    → OnNumber Q o
number_more P Q f None h = tt
number_more P Q f (Some i) h = f i h

-- a living one that is not above
abbrev pub Reached : ℕ → Situation → ℕ → Type 0
Reached n s i = IsLiving s.rows i × (IsUpTo s.rows i n → ⊥)

living_reached : (n : ℕ) (s : Situation) (o : Option ℕ) → OnNumber (λ i. IsUpTo s.rows i n → ⊥) o
    → OnGood (Reached n s) (living s o)
living_reached n s None h = tt
living_reached n s (Some i) h = one (is_some (find (is_numbered i) s.rows)) refl
  where
    one : (b : Bool) → is_some (find (is_numbered i) s.rows) ≡ b
        → OnGood (Reached n s) (if b then Ok i else Err NoModule)
    one true e = (e, h)
    one false e = tt

child_reached : (n : ℕ) (s : State) (p : ℕ) (e : Element) → IsAtWork n s
    → OnGood (Reached n s.situation) (held_child n s p e)
child_reached n s p e h = let x = s.situation in
    living_reached n x _ (named_fits (λ i. IsUpTo x.rows i n → ⊥) s.frames p
    (innermost p 0 s.frames) (held_in x n e)
    (weaker_frames (IsApart n x) (λ i. IsUpTo x.rows i n → ⊥) (λ i a. a.1) s.frames h.names)
    (number_more (λ i. n < i) (λ i. IsUpTo x.rows i n → ⊥)
    (λ i l. younger_apart x.rows n i h.age l) (held_in x n e) (reached_younger n e x.rows h.age)))

-- children are younger
pub child_younger : (o : Outline) (n header : ℕ) (rs : List Row) → AreInAge rs
    → AllByRecursion (λ i. n < i) (map (λ (r : Row). r.number) (filter (is_child o n header) rs))
child_younger o n header [] h = tt
child_younger o n header (r ∷ rs) h =
    one (nat_eq r.parent n) refl
    (option_map_or (λ (x : ℕ). nat_eq x header) (header_at o r.body) false)
    (child_younger o n header rs h.1)
  where
    one : (b : Bool) → nat_eq r.parent n ≡ b → (c : Bool)
        → AllByRecursion (λ i. n < i)
        (map (λ (r : Row). r.number) (filter (is_child o n header) rs))
        → AllByRecursion (λ i. n < i) (map (λ (r : Row). r.number)
        (if b && c then r ∷ filter (is_child o n header) rs
        else filter (is_child o n header) rs))
    one true e true g = (subst (λ m. m < r.number) (eqb-true r.parent n e) h.0.0, g)
    one true e false g = g
    one false e c g = g

-- THE PARENT GOES ON

back_at_work : (t : Text) (n body : ℕ) (e : Element) (f : Frame) (s v : State) → IsAtWork n s
    → Follows (with_row n (holds e s.situation.next) (with_next t.outline n body f s.situation))
    v.situation → IsAtWork s.situation.next v → IsAtWork n v
back_at_work t n body e f s v h k g =
    let a = living_row v.situation.rows s.situation.next g.alive in
    let z = a.number in
    let b = k.rows a.row a.found (omega (arith, z)) in
    let y = sym b.parent ∙ new_parent t n body e f s h b.row b.found (b.number ∙ a.number) in
    record {
      alive = one (subst (λ m. (m ≡ 0) ⊎ IsLiving v.situation.rows m) y (g.parents a.row a.found));
      numbers = g.numbers;
      age = g.age;
      parents = g.parents;
      links = g.links;
      names = weaker_frames (IsApart s.situation.next v.situation) (IsApart n v.situation)
          (λ i c. (
            c.0,
            λ w. c.1 (child s.situation.next a.row a.found a.number
                (subst (IsUpTo v.situation.rows i) (sym y) w)),
          )) v.frames g.names;
    }
  where
    one : (n ≡ 0) ⊎ IsLiving v.situation.rows n → IsLiving v.situation.rows n
    one (inl x) = let l = (living_number 1 s.situation.next s.situation.rows n h.numbers.1
        h.alive).0 in absurd (omega (arith, x, l))
    one (inr l) = l

-- a situation, or a fault
abbrev same : Situation → Result Situation BlockFault
same x = Ok x

abbrev failed : BlockFault → Result Situation BlockFault
failed f = Err f

same_ok : (x y : Situation) → same x ≡ same y → x ≡ y
same_ok x y e = cc

err_ok : (f : BlockFault) (x : Situation) → failed f ≡ same x → ⊥
err_ok f x e = cc

born_back : (t : Text) (n body : ℕ) (e : Element) (s v : State) (u : Situation)
    (r : Result Frame BlockFault) → IsAtWork n s
    → on_ok r (λ f. Ok (with_row n (holds e s.situation.next)
    (with_next t.outline n body f s.situation))) ≡ Ok u
    → Follows u v.situation → IsAtWork s.situation.next v → IsAtWork n v
born_back t n body e s v u (Ok f) h b k g = back_at_work t n body e f s v h
    (subst (λ x. Follows x v.situation) (sym (same_ok _ u b)) k) g
born_back t n body e s v u (Err f) h b k g = absurd (err_ok f u b)

either_back : (b : Bool) (n : ℕ) (v : State) (u : Situation) (x y : Result Situation BlockFault)
    → (x ≡ Ok u → IsAtWork n v) → (y ≡ Ok u → IsAtWork n v) → (if b then x else y) ≡ Ok u
    → IsAtWork n v
either_back true n v u x y f g e = f e
either_back false n v u x y f g e = g e

-- CHANGES

alike_work : (n : ℕ) (s : State) (u : Situation) → HasSameRows s.situation u
    → IsLinked s.situation.rows u → IsAtWork n s
    → IsAtWork n (with_situation s u) × Follows s.situation u
alike_work n s u e links h = same_work n s u e (
  subst (λ m. 1 ≤ m) (sym e.next) h.numbers.0,
  subst (λ m. AscendBelow 1 m u.rows) (sym e.next)
      (subst (λ rs. AscendBelow 1 s.situation.next rs) (sym e.rows) h.numbers.1),
)
    (subst AreInAge (sym e.rows) h.age) links h

with_names : (n : ℕ) (x : Situation) (fs gs : List Frame) → OnFrames (IsApart n x) gs
    → Works n x fs → Works n x gs
with_names n x fs gs g h = record {
  alive = h.alive;
  numbers = h.numbers;
  age = h.age;
  parents = h.parents;
  links = h.links;
  names = g;
}

begun : (n : ℕ) (s : State) → IsAtWork n s → n < s.situation.next
begun n s h = (living_number 1 s.situation.next s.situation.rows n h.numbers.1 h.alive).1

in_age : (n : ℕ) (s : State) → IsAtWork n s → InAge n s
in_age n s h = (begun n s h, h.age)

end_alive : (n : ℕ) (s : State) (p : InteractionPoint) → IsEnd Reached n s.situation p
    → IsAtWork n s → IsLiving s.situation.rows p.instance
end_alive n s p (inl e) h = subst (IsLiving s.situation.rows) (sym e) h.alive
end_alive n s p (inr d) h = d.0

named_work : (n : ℕ) (s : State) (p i : ℕ) → n < i → IsLiving s.situation.rows i → IsAtWork n s
    → IsAtWork n (record s { frames = s.frames ++ naming p (slot.Instance i) ∷ [] })
named_work n s p i l e h = with_names n s.situation s.frames _
    (opened_frames (IsApart n s.situation) s.frames (naming p (slot.Instance i)) h.names (
      (
        (living_number 1 s.situation.next s.situation.rows i h.numbers.1 e).1,
        younger_apart s.situation.rows n i h.age l,
      ),
      tt,
    )) h

sent_work : (t : Text) (n : ℕ) (i : Item) (s : State) → IsAtWork n s
    → IsAtWork n (with_sent t i s) × Follows s.situation (with_sent t i s).situation
sent_work t n i s h =
    let x : Sent = record { situation = s.situation; outs = s.outs } in
    let q = up t s.situation i.at in
    alike_work n s (with_sent t i s).situation
    (crossed_rows t i q (s.situation.peer q) x) (sent_living s.situation.rows t i x h.links) h

released_work : (t : Text) (n i : ℕ) (s : State) → Reached n s.situation i → IsAtWork n s
    → IsAtWork n (with_situation s (released t i s.situation))
    × Follows s.situation (released t i s.situation)
released_work t n i s d h =
    let ps = external_of t.outline s.situation i in
    let u = each (untied t) ps s.situation in
    let e = each_rows t ps s.situation in
    let a = alike_work n s u e (each_living s.situation.rows t ps s.situation h.links) h in
    let b = gone_work n i (with_situation s u) a.0
    (λ k. d.1 (subst (λ rs. IsUpTo rs i n) e.rows k))
    (((goes_kept t).releases i s.situation).numbers h.numbers)
    ((age_kept t).releases n i s tt (in_age n s h)).0.1 in
    (b.0, follows_after s.situation u (released t i s.situation) a.1 b.1)

abbrev Begun : ℕ → State → Situation → Type 0
Begun n s u = IsAtWork n (with_situation s u) × IsAtWork s.situation.next (with_situation s u)
    × Follows s.situation u

abbrev BegunInAge : ℕ → State → Situation → Type 0
BegunInAge n s u = InAge n (with_situation s u) × InAge s.situation.next (with_situation s u)
    × (s.situation.next ≤ u.next)

born_work : (t : Text) (n body : ℕ) (e : Element) (s : State) (b : Bool)
    (r : Result Frame BlockFault) → IsAtWork n s
    → OnChange GoesOver s.situation (if b then Err TooMany else on_ok r
    (λ f. Ok (with_row n (holds e s.situation.next) (with_next t.outline n body f s.situation))))
    → OnGood (BegunInAge n s) (if b then Err TooMany else on_ok r
    (λ f. Ok (with_row n (holds e s.situation.next) (with_next t.outline n body f s.situation))))
    → OnGood (Begun n s) (if b then Err TooMany else on_ok r
    (λ f. Ok (with_row n (holds e s.situation.next) (with_next t.outline n body f s.situation))))
born_work t n body e s true r h g a = tt
born_work t n body e s false (Ok f) h g a =
    begun_work t n body e f s h (g.numbers h.numbers) a.0.1
born_work t n body e s false (Err x) h g a = tt

-- all that is done leaves orderly situations
pub order_kept : (t : Text) → Upkeep t IsAtWork Follows Reached (λ n i. n < i)
order_kept t = record {
  same = λ s. follows_from s s (omega arith) (own_row s.rows);
  after = follows_after;
  counts = λ n s l h. h;
  opens = λ n s f e h. with_names n s.situation s.frames _
      (opened_frames (IsApart n s.situation) s.frames f h.names
      (plain_frame (IsApart n s.situation) f e)) h;
  names = λ n s p i c e h. named_work n s p i c e h;
  closes = λ n s h. with_names n s.situation s.frames _
      (taken_frames (IsApart n s.situation) (length s.frames - 1) s.frames h.names) h;
  alters = λ n s k d v h. with_names n s.situation s.frames _
      (altered_frames (IsApart n s.situation) s.frames k d v h.names) h;
  reaches = child_reached;
  children = λ n s header h. child_younger t.outline n header s.situation.rows h.age;
  writes = λ n i f s h. row_work n i s (λ r. record r { variables = f }) (λ r. (refl, refl))
      (((goes_kept t).writes i f s.situation).numbers h.numbers)
      ((age_kept t).writes n i f s (in_age n s h)).0.1 h;
  states = λ n i p s h. row_work n i s (in_state p) (state_mild p)
      (((goes_kept t).states i p s.situation).numbers h.numbers)
      ((age_kept t).states n i p s (in_age n s h)).0.1 h;
  sends = λ n i s e h. sent_work t n i s h;
  connects = λ n p q s a b h. good_if _ (is_point p q) _ _ (λ e. tt)
      (λ e. good_if _ (is_taken t s.situation p || is_taken t s.situation q) _ _ (λ f. tt)
      (λ f. alike_work n s (record s.situation {
        peer =
            with_point p (Some q) (with_point q (Some p) s.situation.peer);
      })
      (record { rows = refl; next = refl }) (connected_living s.situation.rows p q s.situation
      (end_alive n s p a h) (end_alive n s q b h) h.links) h));
  attaches = λ n e c s a b h.
      good_if _ (is_some (s.situation.down e) || is_taken t s.situation c) _ _ (λ f. tt)
      (λ f. alike_work n s (record (moved t e (bottom s.situation c) s.situation)
      { down = with_point e (Some c) s.situation.down }) (record { rows = refl; next = refl })
      (attached_living s.situation.rows t e c s.situation
      (subst (IsLiving s.situation.rows) (sym a) h.alive) b.0 h.links) h);
  disconnects = λ n p s h. alike_work n s (disconnected p s.situation)
      (parted_rows p (s.situation.peer p) s.situation)
      (parted_living s.situation.rows p (s.situation.peer p) s.situation h.links) h;
  detaches = λ n p s h. alike_work n s (detached_end t n p s.situation)
      (end_rows t n p s.situation) (end_living s.situation.rows t n p s.situation h.links) h;
  releases = λ n i s d h. released_work t n i s d h;
  begins = λ n e body xs s h. born_work t n body e s (nat_lt most_instances s.situation.next)
      (frame_of t.outline (variables_of t.outline body) xs) h
      ((goes_kept t).begins n e body xs s.situation)
      ((age_kept t).begins n e body xs s (in_age n s h));
  returns = λ n e body xs s u v h b k g.
      either_back (nat_lt most_instances s.situation.next) n v u _ _
      (λ x. absurd (err_ok TooMany u x))
      (λ x. born_back t n body e s v u (frame_of t.outline (variables_of t.outline body) xs)
      h x k g) b;
}

-- THE LAW

pub order_done : (n : ℕ) (x : Situation) (o : Outcome State (Unit {0}))
    → OnDone (λ u. IsAtWork n u × Follows x u.situation) o
    → OnDone (λ u. IsOrderly u.situation × IsLiving u.situation.rows n) o
order_done n x (Done a u) h = (
  record {
    numbers = h.0.numbers;
    age = h.0.age;
    parents = h.0.parents;
    connections = h.0.links.peers;
    attachments = h.0.links.downs;
    items = h.0.links.items;
  },
  h.0.alive,
)
order_done n x (Fault f) h = tt
order_done n x Limit h = tt

pub situations_stay_orderly : SituationsStayOrderly
situations_stay_orderly t n levels xs s alive names order = order_done n s.situation
    (statements_in xs (site t n false levels) s)
    (instance_keeps t IsAtWork Follows Reached (λ n i. n < i) (order_kept t) n levels xs s
    (record {
      alive = alive;
      numbers = order.numbers;
      age = order.age;
      parents = order.parents;
      links = record {
        peers = order.connections;
        downs = order.attachments;
        items = order.items;
      };
      names = plain_frames (IsApart n s.situation) s.frames names;
    }))
