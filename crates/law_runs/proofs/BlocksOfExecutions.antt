-- What the changes of situations keep that statements make, every execution keeps: its statements,
-- those that its calls begin, and those of the initialize parts of new children.
use Rattle.std.proofs.Common.{◌≡◌, refl, sym, subst, ℕ, zero, suc, Bool, true, false, List, []}
use Rattle.std.proofs.Common.{◌∷◌, ◌++◌, Option, Some, None, Result, Ok, Err, length, take, is_some}
use Rattle.std.proofs.Common.{inl, inr}
use Rattle.std.specs.Prelude.{ℤ, if◌then◌else◌, ◌+ℤ◌, ◌-◌}
use Rattle.std.specs.List.{AllByRecursion}
use Rattle.est_syntax.specs.declared.body.Body.{out-Body}
use Rattle.est_syntax.specs.declared.body.FirstPart.{FirstPart}
use Rattle.est_syntax.specs.declared.expression.Access.{Access}
use Rattle.est_syntax.specs.declared.expression.EndPoint.{EndPoint}
use Rattle.est_syntax.specs.declared.expression.Expr.{Expr}
use Rattle.est_syntax.specs.declared.name.Used.{Used}
use Rattle.est_syntax.specs.declared.statement.Sending.{Sending}
use Rattle.est_syntax.specs.declared.statement.Statement.{Statement, Row_of-Statement}
use Rattle.est_syntax.specs.declared.statement.Statement.{end_of-Statement, more_of-Statement}
use Rattle.est_syntax.specs.declared.statement.Statement.{Held-Statement-If-2}
use Rattle.est_syntax.specs.declared.statement.Statement.{Row_of-Arm, end_of-Arm, more_of-Arm}
use Rattle.est_syntax.specs.declared.statement.Statement.TheBlock as block
use Rattle.est_syntax.specs.declared.statement.Statement.TheVariants as statement
use Rattle.est_syntax.specs.declared.kind.Kind.{Kind}
use Rattle.est_values.specs.declared.value.Value.{Value}
use Rattle.est_values.specs.declared.value.Value.TheVariants as value
use Rattle.est_values.specs.OrdinalTuples.{ordinals_of}
use Rattle.est_values.specs.PartsOfValues.{with_part}
use Rattle.rule_scope.specs.declared.declaration.Entry.{Entry}
use Rattle.rule_scope.specs.declared.declaration.Measured.{Measured}
use Rattle.rule_scope.specs.declared.declaration.Sort.{Sort}
use Rattle.rule_scope.specs.declared.declaration.Sort.TheVariants as sort
use Rattle.rule_scope.specs.Outline.{entry_at}
use Rattle.mean_blocks.specs.declared.fault.BlockFault.{BlockFault}
use Rattle.mean_blocks.specs.declared.frame.Holder.{Holder}
use Rattle.mean_blocks.specs.declared.frame.Holder.TheVariants as holder
use Rattle.mean_blocks.specs.declared.frame.Slot.{Slot}
use Rattle.mean_blocks.specs.declared.frame.Slot.TheVariants as slot
use Rattle.mean_blocks.specs.declared.situation.Element.{Element}
use Rattle.mean_blocks.specs.declared.situation.InteractionPoint.{InteractionPoint}
use Rattle.mean_blocks.specs.declared.situation.Item.{Item}
use Rattle.mean_blocks.specs.Outcome.{Outcome, Done, Fault, Limit, onward, ◌>>=◌, ◌>>◌, give}
use Rattle.mean_blocks.specs.Outcome.{lift, known, counted, on_ok}
use Rattle.mean_blocks.specs.GlobalSituation.{Frame, Situation, lives}
use Rattle.mean_blocks.specs.Frames.{held_by, frame_written, value_in, slot_of}
use Rattle.mean_blocks.specs.Frames.{existing, with_value, frame_at}
use Rattle.mean_blocks.specs.TakenValues.{taken}
use Rattle.mean_blocks.specs.OrdinalOperators.{is_true}
use Rattle.mean_blocks.specs.TextByPlace.{Text, routine_at, statements_of, body_at, first_region}
use Rattle.mean_blocks.specs.TextByPlace.{first_statements}
use Rattle.mean_blocks.specs.NamesInRuns.{Head, Nothing, Constant, Function, Variable, Modules}
use Rattle.mean_blocks.specs.NamesInRuns.{head_in, head_by, with_kind, header_at, declared_at}
use Rattle.mean_blocks.specs.NamesInRuns.{places_of, dims_at}
use Rattle.mean_blocks.specs.NamesInRuns.{declared_in_header}
use Rattle.mean_blocks.specs.WorkingState.{State, Site, View, Counts, Does, Deeper, view}
use Rattle.mean_blocks.specs.WorkingState.{counting}
use Rattle.mean_blocks.specs.WorkingState.{evaluated, enter, changed_by, changes}
use Rattle.mean_blocks.specs.ValueOperators.{choose, ordinal}
use Rattle.mean_blocks.specs.ReachedVariables.{Reached, Component, Module}
use Rattle.mean_blocks.specs.ReachedVariables.{child_of}
use Rattle.mean_blocks.specs.FunctionCalls.{routine_frame, frame_of}
use Rattle.mean_blocks.specs.ExpressionValues.{value_of, variable_of, values_in, arguments_in}
use Rattle.mean_blocks.specs.ExpressionValues.{subscripts_in}
use Rattle.mean_blocks.specs.InstancePoints.{children_of, own_point, child, child_point, end_of}
use Rattle.mean_blocks.specs.InstancePoints.{ends_of, point, end_by}
use Rattle.mean_blocks.specs.LinkEffects.{connected, attached, disconnected, detached_end, each}
use Rattle.mean_blocks.specs.InstanceEffects.{born}
use Rattle.mean_blocks.specs.WriteEffects.{ordinal_of, closed, framed}
use Rattle.mean_blocks.specs.WriteEffects.{given_names, stored}
use Rattle.mean_blocks.specs.LoopEffects.{turn_of, turns, repeats, counts, distance, step, naming}
use Rattle.mean_blocks.specs.LoopEffects.{turn_for, for_each, for_child, for_children}
use Rattle.mean_blocks.specs.LoopEffects.{over_children, over}
use Rattle.mean_blocks.specs.StatementEffects.{performed, is_chosen, item_of, delivered, all_sent}
use Rattle.mean_blocks.specs.StatementEffects.{first_reached, initialized, element_of, init_done}
use Rattle.mean_blocks.specs.StatementEffects.{let_go, first_state, linked, unlinked, body_of}
use Rattle.mean_blocks.specs.StatementEffects.{row_statement, held_statement, row_statements}
use Rattle.mean_blocks.specs.StatementEffects.{row_arms, statements_in, values_of}
use Rattle.mean_blocks.specs.NamesInRuns.{interaction_of}
use Rattle.mean_blocks.specs.BlockLevels.{within, site}
use Rattle.law_runs.specs.AttachTargets.{Target, Targets, RowTargets, SecondTargets, ArmTargets}
use Rattle.law_runs.specs.AttachTargets.{BlockTargets, BegunTargets}
use Rattle.law_runs.specs.UpkeepLaws.{OnDone, IsPlainSlot, IsPlain}
use Rattle.law_runs.proofs.GivenThings.{Gives, OnGood, then_gives, lift_gives, accessed_gives}
use Rattle.law_runs.proofs.GivenThings.{good_gives, gives_more, given_on, arguments_plain}
use Rattle.law_runs.proofs.GivenThings.{frame_plain, named_gives}
use Rattle.law_runs.proofs.Executions.{with_situation, IsEnd, Execution, within_block, within_all}
use Rattle.law_runs.proofs.Executions.{of_child, FramedUpkeep}

-- what a name stands for is declared at a place
abbrev IsHeadAt : ℕ → Head → Type 0
IsHeadAt p (Variable q k) = q ≡ p
IsHeadAt p (Modules q) = q ≡ p
IsHeadAt p _ = Unit {0}

with_kind_is : (p : ℕ) (m : Option Measured) → IsHeadAt p (with_kind (Variable p) m)
with_kind_is p None = tt
with_kind_is p (Some m) = refl

function_is : (p : ℕ) (m : Option Measured) → IsHeadAt p (with_kind (Function p) m)
function_is p None = tt
function_is p (Some m) = tt

head_by_is : (p : ℕ) (m : Option Measured) (x : Sort) → IsHeadAt p (head_by p m x)
head_by_is p m sort.Variable = with_kind_is p m
head_by_is p m sort.Function = function_is p m
head_by_is p m sort.ModuleVariable = refl
head_by_is p m _ = tt

head_is : (p : ℕ) (e : Option Entry) → IsHeadAt p (head_in p e)
head_is p None = tt
head_is p (Some e) = head_by_is p e.kind e.declared.sort

module _ (t : Text) (P : Execution → State → Type 0) (K : Situation → Situation → Type 0)
    (D E : ℕ → Situation → ℕ → Type 0) (C : ℕ → ℕ → Type 0) (IsNaming : ℕ → Type 0)
    (IsTarget : List ℕ → ℕ → Type 0) (Around : List ℕ → Execution → Type 0)
    (begun : BegunTargets t IsNaming IsTarget)
    (k : FramedUpkeep t P K D E C IsNaming IsTarget Around) where
  -- what comes of a situation
  abbrev pub Goes : Execution → Situation → State → Type 0
  Goes n x u = P n u × K x u.situation

  abbrev pub Keeping : {A : Type 0} → Execution → (State → Outcome State A) → Type 0
  Keeping n m = (s : State) → P n s → OnDone (Goes n s.situation) (m s)

  -- OUTCOMES

  stays : (n : Execution) (s : State) → P n s → Goes n s.situation s
  stays n s h = (h, k.same s.situation)

  done_on : {A : Type 0} (n : Execution) (x y : Situation) (o : Outcome State A) → K x y
      → OnDone (Goes n y) o → OnDone (Goes n x) o
  done_on n x y (Done a u) h g = (g.0, k.after x y u.situation h g.1)
  done_on n x y (Fault f) h g = tt
  done_on n x y Limit h g = tt

  onward_keeps : {A B : Type 0} (n : Execution) (x : Situation) (o : Outcome State A)
      (go : A → State → Outcome State B) → OnDone (Goes n x) o → ((a : A) → Keeping n (go a))
      → OnDone (Goes n x) (onward o go)
  onward_keeps n x (Done a u) go h g = done_on n x u.situation (go a u) h.1 (g a u h.0)
  onward_keeps n x (Fault f) go h g = tt
  onward_keeps n x Limit go h g = tt

  bind : {A B : Type 0} (n : Execution) (m : State → Outcome State A)
      (go : A → State → Outcome State B) → Keeping n m → ((a : A) → Keeping n (go a))
      → Keeping n (m >>= go)
  bind n m go h g s p = onward_keeps n s.situation (m s) go (h s p) g

  both : {A B : Type 0} (n : Execution) (m : State → Outcome State A) (o : State → Outcome State B)
      → Keeping n m → Keeping n o → Keeping n (m >> o)
  both n m o h g s p = onward_keeps n s.situation (m s) (λ _. o) (h s p) (λ _. g)

  counting_keeps : {A : Type 0} (n : Execution) (s : State) (o : Outcome ℕ A) → P n s
      → OnDone (Goes n s.situation) (counting s o)
  counting_keeps n s (Done a l) h = stays n (record s { left = l }) (k.counts n s l h)
  counting_keeps n s (Fault f) h = tt
  counting_keeps n s Limit h = tt

  looks : {A : Type 0} (n : Execution) (site : Site) (m : View → Counts A)
      → Keeping n (evaluated site m)
  looks n site m s h = counting_keeps n s (m (view site s) s.left) h

  -- what is known of a thing that is looked at
  counted_keeps : {A B : Type 0} (n : Execution) (s : State) (o : Outcome ℕ A)
      (go : A → State → Outcome State B) (Q : A → Type 0) → P n s → Gives Q o
      → ((a : A) (l : ℕ) → Q a → P n (record s { left = l })
      → OnDone (Goes n s.situation) (go a (record s { left = l })))
      → OnDone (Goes n s.situation) (onward (counting s o) go)
  counted_keeps n s (Done a l) go Q h q g = g a l q (k.counts n s l h)
  counted_keeps n s (Fault f) go Q h q g = tt
  counted_keeps n s Limit go Q h q g = tt

  looked : {A B : Type 0} (n : Execution) (site : Site) (m : View → Counts A)
      (go : A → State → Outcome State B) (Q : A → Type 0) (s : State) → P n s
      → Gives Q (m (view site s) s.left)
      → ((a : A) (l : ℕ) → Q a → P n (record s { left = l })
      → OnDone (Goes n s.situation) (go a (record s { left = l })))
      → OnDone (Goes n s.situation) ((evaluated site m >>= go) s)
  looked n site m go Q s h q g = counted_keeps n s (m (view site s) s.left) go Q h q g

  enters : (n : Execution) → Keeping n enter
  enters n s h = counting_keeps n s (counted s.left) h

  gives : {A : Type 0} (n : Execution) (a : A) → Keeping n (give a)
  gives n a s h = stays n s h

  abbrev idle : Does
  idle = give tt

  idles : (n : Execution) → Keeping n idle
  idles n s h = stays n s h

  lifts : {A : Type 0} (n : Execution) (r : Result A BlockFault) → Keeping n (lift r)
  lifts n (Ok a) s h = stays n s h
  lifts n (Err f) s h = tt

  knowns : {A : Type 0} (n : Execution) (r : Option A) → Keeping n (known r)
  knowns n (Some a) s h = stays n s h
  knowns n None s h = tt

  one_arm : {A : Type 0} (n : Execution) (c : Bool) (m o : State → Outcome State A) → Keeping n m
      → Keeping n o → Keeping n (if c then m else o)
  one_arm n true m o h g = h
  one_arm n false m o h g = g

  chooses : {A : Type 0} (n : Execution) (z : ℤ) (m o : State → Outcome State A) → Keeping n m
      → Keeping n o → Keeping n (choose z m o)
  chooses n z m o h g = one_arm n (is_true z) m o h g

  -- CHANGES

  changed_keeps : (n : Execution) (s : State) (r : Result Situation BlockFault)
      → OnGood (λ u. P n (with_situation s u) × K s.situation u) r
      → OnDone (Goes n s.situation) (changed_by s r)
  changed_keeps n s (Ok u) h = h
  changed_keeps n s (Err f) h = tt

  -- what is lifted is known to be good
  lifted : {A B : Type 0} (n : Execution) (s : State) (r : Result A BlockFault) (Q : A → Type 0)
      (go : A → State → Outcome State B) → OnGood Q r
      → ((a : A) → Q a → OnDone (Goes n s.situation) (go a s))
      → OnDone (Goes n s.situation) ((lift r >>= go) s)
  lifted n s (Ok a) Q go q g = g a q
  lifted n s (Err f) Q go q g = tt

  -- the names that a holder gets
  written_value : (n : Execution) (h : Holder) (s : State) (d : ℕ) (f : Frame)
      (r : Result Value BlockFault)
      → ((x : Value) → OnDone (Goes n s.situation) (given_names false h (with_value d x f) s))
      → OnDone (Goes n s.situation)
      ((lift (on_ok r (λ x. Ok (with_value d x f))) >>= given_names false h) s)
  written_value n h s d f (Ok x) g = g x
  written_value n h s d f (Err e) g = tt

  written_frame : (n : Execution) (h : Holder) (s : State) (d : ℕ) (path : List ℕ) (w : Value)
      (f : Frame) (r : Result Value BlockFault)
      → ((x : Value) → OnDone (Goes n s.situation) (given_names false h (with_value d x f) s))
      → OnDone (Goes n s.situation)
      ((lift (on_ok r (λ v. on_ok (existing (with_part w path v)) (λ x. Ok (with_value d x f))))
      >>= given_names false h) s)
  written_frame n h s d path w f (Ok v) g =
      written_value n h s d f (existing (with_part w path v)) g
  written_frame n h s d path w f (Err e) g = tt

  written_names : (n : Execution) (h : Holder) (s : State) (d : ℕ) (path : List ℕ) (f : Frame)
      (r : Result Value BlockFault)
      → ((x : Value) → OnDone (Goes n s.situation) (given_names false h (with_value d x f) s))
      → OnDone (Goes n s.situation)
      ((lift (on_ok r (λ w. frame_written d path w f)) >>= given_names false h) s)
  written_names n h s d path f (Ok w) g =
      written_frame n h s d path w f (value_in (slot_of d f)) g
  written_names n h s d path f (Err e) g = tt

  in_instance : (n : Execution) (i : ℕ) (s : State) (d : ℕ) (path : List ℕ) (kind : Kind)
      (v : Value) (r : Result Frame BlockFault) → P n s
      → OnDone (Goes n s.situation)
      ((lift (on_ok r (λ f. on_ok (taken kind v) (λ x. frame_written d path x f)))
      >>= given_names false (holder.Instance i)) s)
  in_instance n i s d path kind v (Ok f) p =
      written_names n (holder.Instance i) s d path f (taken kind v)
      (λ x. k.writes n i (with_value d x f) s p)
  in_instance n i s d path kind v (Err e) p = tt

  in_holder : (n : Execution) (h : Holder) (s : State) (d : ℕ) (path : List ℕ) (kind : Kind)
      (v : Value) → P n s → OnDone (Goes n s.situation)
      ((lift (on_ok (held_by h s.situation s.frames)
      (λ f. on_ok (taken kind v) (λ x. frame_written d path x f))) >>= given_names false h) s)
  in_holder n (holder.Frame i) s d path kind v p =
      written_names n (holder.Frame i) s d path (frame_at s.frames i) (taken kind v)
      (λ x. (k.alters n s i d x p, k.same s.situation))
  in_holder n (holder.Instance i) s d path kind v p = in_instance n i s d path kind v
      (held_by (holder.Instance i) s.situation s.frames) p

  stores : (n : Execution) (r : Reached) (v : Value) → Keeping n (stored false r v)
  stores n (Component p kind) v s h = in_holder n p.holder s p.declared p.path kind v h
  stores n (Module p zs) v s h = tt

  -- what is done within a frame, which is closed after that
  closed_after : (n v : Execution) (x : Situation) (o : Outcome State (Unit {0}))
      → ((u : State) → P v u → P n (record u { frames = take (length u.frames - 1) u.frames }))
      → OnDone (Goes v x) o → OnDone (Goes n x) (onward o (λ _. closed))
  closed_after n v x (Done a u) close h = (close u h.0, h.1)
  closed_after n v x (Fault f) close h = tt
  closed_after n v x Limit close h = tt

  framed_keeps : (n : Execution) (f : Frame) (m : Does) → IsPlain f → Keeping (within_block n) m
      → Keeping n (framed f m)
  framed_keeps n f m e h s p = let u = record s { frames = s.frames ++ f ∷ [] } in
      closed_after n (within_block n) s.situation (m u) (λ v g. k.closes n v g)
      (h u (k.opens n s f e p))

  -- within the frame of an `all`
  all_keeps : (n : Execution) (p : ℕ) (x : Slot) (m : Does) → Keeping (within_all p n) m
      → (s : State) → P (within_all p n) (record s { frames = s.frames ++ naming p x ∷ [] })
      → OnDone (Goes n s.situation) (framed (naming p x) m s)
  all_keeps n p x m h s g = let u = record s { frames = s.frames ++ naming p x ∷ [] } in
      closed_after n (within_all p n) s.situation (m u) (λ v i. k.closes_all n v p i) (h u g)

  asks : (n : Execution) (site : Site) (e : Expr) → Keeping n (ordinal_of e site)
  asks n site e = looks n site (λ v. value_of e v >>= ordinal)

  -- LOOPS

  turns_keep : (n : Execution) (m : ℕ) (c : State → Outcome State ℤ) (turn : Does) → Keeping n c
      → Keeping n turn → Keeping n (turns m c turn)
  turns_keep n zero c turn h g = λ s p. tt
  turns_keep n (suc m) c turn h g =
      bind n (turn_of c turn) (λ more. if more then turns m c turn else idle)
      (bind n c (λ z. choose z (enter >> (turn >> give true)) (give false)) h
      (λ z. chooses n z (enter >> (turn >> give true)) (give false)
      (both n enter (turn >> give true) (enters n) (both n turn (give true) g (gives n true)))
      (gives n false)))
      (λ more. one_arm n more (turns m c turn) idle (turns_keep n m c turn h g) (idles n))

  repeats_keep : (n : Execution) (m : ℕ) (turn : Does) (c : State → Outcome State ℤ)
      → Keeping n turn → Keeping n c → Keeping n (repeats m turn c)
  repeats_keep n zero turn c g h = λ s p. tt
  repeats_keep n (suc m) turn c g h =
      both n (enter >> turn) (c >>= λ z. choose z idle (repeats m turn c))
      (both n enter turn (enters n) g)
      (bind n c (λ z. choose z idle (repeats m turn c)) h
      (λ z. chooses n z idle (repeats m turn c) (idles n) (repeats_keep n m turn c g h)))

  counts_keep : (n : Execution) (m : ℕ) (z step : ℤ) (turn : ℤ → Does)
      → ((y : ℤ) → Keeping n (turn y)) → Keeping n (counts m z step turn)
  counts_keep n zero z step turn h = idles n
  counts_keep n (suc m) z step turn h =
      both n (enter >> turn z) (counts m (z +ℤ step) step turn)
      (both n enter (turn z) (enters n) (h z)) (counts_keep n m (z +ℤ step) step turn h)

  for_each_keeps : (n : Execution) (p : ℕ) (zs : List ℤ) (turn : Does)
      → Keeping (within_all p n) turn → Keeping n (for_each p zs turn)
  for_each_keeps n p [] turn h = idles n
  for_each_keeps n p (z ∷ zs) turn h = let v = value.Ordinal z in
      let f = naming p (slot.Value v) in
      both n (enter >> framed f turn) (for_each p zs turn)
      (both n enter (framed f turn) (enters n)
      (λ s g. all_keeps n p (slot.Value v) turn h s (k.values n s p v g)))
      (for_each_keeps n p zs turn h)

  -- a turn for a child, which counts first
  turn_keeps : (n : Execution) (p i : ℕ) (turn : Does) → C n.instance i
      → Keeping (within_all p n) turn → (s : State) → lives s.situation i ≡ true → P n s
      → (o : Outcome ℕ (Unit {0}))
      → OnDone (Goes n s.situation)
      (onward (counting s o) (λ _. framed (naming p (slot.Instance i)) turn))
  turn_keeps n p i turn c h s e g (Done a l) = let u = record s { left = l } in
      all_keeps n p (slot.Instance i) turn h u (k.names n u p i c e (k.counts n s l g))
  turn_keeps n p i turn c h s e g (Fault f) = tt
  turn_keeps n p i turn c h s e g Limit = tt

  for_child_keeps : (n : Execution) (p i : ℕ) (turn : Does) → C n.instance i
      → Keeping (within_all p n) turn → Keeping n (for_child p i turn)
  for_child_keeps n p i turn c h s g = one (lives s.situation i) refl
    where
      one : (b : Bool) → lives s.situation i ≡ b → OnDone (Goes n s.situation)
          ((if b then turn_for p (slot.Instance i) turn else idle) s)
      one true e = turn_keeps n p i turn c h s e g (counted s.left)
      one false e = stays n s g

  for_children_keep : (n : Execution) (p : ℕ) (is : List ℕ) (turn : Does)
      → AllByRecursion (C n.instance) is → Keeping (within_all p n) turn
      → Keeping n (for_children p is turn)
  for_children_keep n p [] turn c h = idles n
  for_children_keep n p (i ∷ is) turn c h = both n (for_child p i turn) (for_children p is turn)
      (for_child_keeps n p i turn c.0 h) (for_children_keep n p is turn c.1 h)

  -- the statements of an execution
  abbrev pub at : Execution → Deeper → Site
  at n d = record { text = t; instance = n.instance; function = false; deeper = d }

  over_children_keeps : (n : Execution) (p : ℕ) (header : Option ℕ) (turn : Does) (d : Deeper)
      → Keeping (within_all p n) turn → Keeping n (over_children p header turn (at n d))
  over_children_keeps n p None turn d h = λ s g. tt
  over_children_keeps n p (Some header) turn d h = λ s g. for_children_keep n p
      (children_of t.outline s.situation n.instance header) turn (k.children n s header g) h s g

  over_keeps : (n : Execution) (p : ℕ) (x : Head) (turn : Does) (d : Deeper) → IsHeadAt p x
      → Keeping (within_all p n) turn → Keeping n (over x turn (at n d))
  over_keeps n p (Variable q kind) turn d e h = for_each_keeps n q (ordinals_of kind) turn
      (subst (λ y. Keeping (within_all y n) turn) (sym e) h)
  over_keeps n p (Modules q) turn d e h = over_children_keeps n q (header_at t.outline q) turn d
      (subst (λ y. Keeping (within_all y n) turn) (sym e) h)
  over_keeps n p Nothing turn d e h = λ s g. tt
  over_keeps n p (Constant z) turn d e h = λ s g. tt
  over_keeps n p (Function q kind) turn d e h = λ s g. tt

  -- an `all`, where its name is declared
  all_over : (n : Execution) (p : ℕ) (x : Option Entry) (turn : Does) (d : Deeper)
      → (is_some x ≡ true → Keeping (within_all p n) turn)
      → Keeping n (over (head_in p x) turn (at n d))
  all_over n p None turn d h = λ s g. tt
  all_over n p (Some e) turn d h =
      over_keeps n p (head_in p (Some e)) turn d (head_is p (Some e)) (h refl)

  -- WHAT IS LOOKED AT

  own_gives : (a : Access) (v : View) (l : ℕ)
      → Gives (λ (p : InteractionPoint). p.instance ≡ v.site.instance) (own_point a v l)
  own_gives a v l = accessed_gives (λ (p : InteractionPoint). p.instance ≡ v.site.instance) a
      (λ p zs. give (point v.site.instance p zs)) v l (λ p zs m. refl)

  child_gives : (n : Execution) (d : Deeper) (a : Access) (s : State) → P n s → (l : ℕ)
      → Gives (D n.instance s.situation) (child a (view (at n d) s) l)
  child_gives n d a s h l = accessed_gives (D n.instance s.situation) a _ (view (at n d) s) l
      (λ p zs m. good_gives (D n.instance s.situation) (child_of (view (at n d) s) p zs) m
      (k.reaches n s p (record { declared = p; index = zs }) h))

  point_gives : (n : Execution) (d : Deeper) (a b : Access) (s : State) → P n s → (l : ℕ)
      → Gives (λ (p : InteractionPoint). D n.instance s.situation p.instance)
      (child_point a b (view (at n d) s) l)
  point_gives n d a b s h l = let v = view (at n d) s in
      accessed_gives (λ (p : InteractionPoint). D n.instance s.situation p.instance) a _ v l
      (λ p zs m. lift_gives (λ (p : InteractionPoint). D n.instance s.situation p.instance)
      (D n.instance s.situation) (child_of v p zs) m _
      (k.reaches n s p (record { declared = p; index = zs }) h)
      (λ i u c. then_gives _ (known (declared_in_header t.outline p b.name) u) _
      (λ q w. then_gives _ (subscripts_in b.index (dims_at t.outline q) [] v w) _ (λ ys j. c))))

  target_gives : (w : List ℕ) (n : Execution) (d : Deeper) (a b : Access) (s : State) → Around w n
      → Target t.outline IsNaming IsTarget w a → P n s → (l : ℕ)
      → Gives (λ (p : InteractionPoint). E n.instance s.situation p.instance)
      (child_point a b (view (at n d) s) l)
  target_gives w n d a b s around target h l = let v = view (at n d) s in
      named_gives (λ (p : InteractionPoint). E n.instance s.situation p.instance) a _ v l
      (λ p zs m e. lift_gives (λ (p : InteractionPoint). E n.instance s.situation p.instance)
      (E n.instance s.situation) (child_of v p zs) m _
      (k.targets w n s p (record { declared = p; index = zs }) around (target p e) h)
      (λ i u c. then_gives _ (known (declared_in_header t.outline p b.name) u) _
      (λ q y. then_gives _ (subscripts_in b.index (dims_at t.outline q) [] v y) _ (λ ys j. c))))

  end_gives : (n : Execution) (d : Deeper) (a : Access) (b : Option Access) (s : State) → P n s
      → (l : ℕ) → Gives (IsEnd D n.instance s.situation) (end_by a b (view (at n d) s) l)
  end_gives n d a None s h l = gives_more (λ (p : InteractionPoint). p.instance ≡ n.instance)
      (IsEnd D n.instance s.situation) (own_point a (view (at n d) s) l) (λ p e. inl e)
      (own_gives a (view (at n d) s) l)
  end_gives n d a (Some b) s h l =
      gives_more (λ (p : InteractionPoint). D n.instance s.situation p.instance)
      (IsEnd D n.instance s.situation) (child_point a b (view (at n d) s) l) (λ p e. inr e)
      (point_gives n d a b s h l)

  -- CALLS, OUTPUT, INSTANCES AND LINKS

  -- what the statements keep that these begin
  abbrev pub Fits : List Statement → Type 0
  Fits xs = BlockTargets t.outline IsNaming IsTarget xs

  abbrev pub Deep : Deeper → Type 0
  Deep d = (n : Execution) (xs : List Statement) → Around [] n → Fits xs
      → Keeping n (d n.instance false xs)

  -- a thing that is known
  known_keeps : {A : Type 0} (n : Execution) (r : Option A) (go : A → Does)
      → ((a : A) → r ≡ Some a → Keeping n (go a)) → Keeping n (known r >>= go)
  known_keeps n (Some a) go h = λ s g. h a refl s g
  known_keeps n None go h = λ s g. tt

  performs : (w : List ℕ) (n : Execution) (d : Deeper) → Deep d → Around w n → (name : Used)
      (arguments : List Expr) → Keeping n (performed name arguments (at n d))
  performs w n d deep around name arguments =
      bind n (known (declared_at t.outline name)) _ (knowns n (declared_at t.outline name))
      (λ p s h. looked n (at n d) (arguments_in arguments p []) _ (AllByRecursion IsPlainSlot) s h
      (arguments_plain arguments p [] (view (at n d) s) s.left tt)
      (λ xs l q g. known_keeps n (routine_at t p) _
      (λ r i u e. lifted n u (routine_frame t.outline p xs) IsPlain _
      (frame_plain t.outline _ xs q)
      (λ f j. framed_keeps n f (d n.instance false (statements_of r)) j
      (deep (within_block n) (statements_of r) (k.blocks w n around) (begun.routines p r i)) u e))
      (record s { left = l }) g))

  all_sent_keeps : (n : Execution) (d : Deeper) (xs : List Sending)
      → Keeping n (all_sent xs (at n d))
  all_sent_keeps n d [] = idles n
  all_sent_keeps n d (x ∷ xs) =
      both n (evaluated (at n d) (item_of x) >>= delivered (at n d)) (all_sent xs (at n d))
      (λ s h. looked n (at n d) (item_of x) (delivered (at n d))
      (λ (i : Item). i.at.instance ≡ n.instance) s h (item_gives x s s.left)
      (λ i l q g. k.sends n i (record s { left = l }) q g)) (all_sent_keeps n d xs)
    where
      item_gives : (x : Sending) (s : State) (l : ℕ)
          → Gives (λ (i : Item). i.at.instance ≡ n.instance) (item_of x (view (at n d) s) l)
      item_gives x s l = let v = view (at n d) s in
          given_on (λ (p : InteractionPoint). p.instance ≡ n.instance)
          (λ (i : Item). i.at.instance ≡ n.instance) (own_point x.at v l) _ (own_gives x.at v l)
          (λ p m e. then_gives _ (values_in x.arguments [] v m) _
          (λ xs u. then_gives _ (known (interaction_of t.outline p.declared x.signal) u) _
          (λ c w. then_gives _ (lift (values_of t.outline c xs) w) _ (λ vs y. e))))

  pub initialized_keeps : (w : List ℕ) (n : Execution) (d : Deeper) → Deep d → Around w n
      → (i : ℕ) (x : Option FirstPart) → ((f : FirstPart) → x ≡ Some f → Fits (first_statements f))
      → Keeping (of_child i n) (initialized i x (at n d))
  initialized_keeps w n d deep around i None fits = λ s h. idles (of_child i n) s h
  initialized_keeps w n d deep around i (Some f) fits = λ s h.
      let v = of_child i n in
      let xs = first_statements f in
      let ps = places_of t.outline sort.Variable (first_region f) in
      lifted v s (frame_of t.outline ps []) IsPlain _ (frame_plain t.outline ps [] tt)
      (λ frame e. both v (framed frame (d i false xs))
      (changes (λ s. Ok (first_reached t.outline i f s)))
      (framed_keeps v frame (d i false xs) e
      (deep (within_block v) xs (k.parts w n i around) (fits f refl)))
      (λ u g. k.states v i (first_state t.outline f) u g) s h)

  -- the parent goes on after the initialize part of its child
  goes_back : (n : Execution) (x : Element) (p : ℕ) (xs : List Slot) (s : State) (u : Situation)
      (o : Outcome State (Unit {0})) → P n s → born t n.instance x p xs s.situation ≡ Ok u
      → K s.situation u → OnDone (Goes (of_child s.situation.next n) u) o
      → OnDone (Goes n s.situation) o
  goes_back n x p xs s u (Done a v) h e g i =
      (k.returns n x p xs s u v h e i.1 i.0, k.after s.situation u v.situation g i.1)
  goes_back n x p xs s u (Fault f) h e g i = tt
  goes_back n x p xs s u Limit h e g i = tt

  born_keeps : (n : Execution) (x : Element) (p : ℕ) (xs : List Slot) (s : State) (go : Does)
      → P n s → Keeping (of_child s.situation.next n) go → (r : Result Situation BlockFault)
      → born t n.instance x p xs s.situation ≡ r
      → OnGood (λ u. P n (with_situation s u) × P (of_child s.situation.next n) (with_situation s u)
      × K s.situation u) r
      → OnDone (Goes n s.situation) (onward (changed_by s r) (λ _. go))
  born_keeps n x p xs s go h g (Ok u) e i =
      goes_back n x p xs s u (go (with_situation s u)) h e i.2 (g (with_situation s u) i.1)
  born_keeps n x p xs s go h g (Err f) e i = tt

  begins : (w : List ℕ) (n : Execution) (d : Deeper) → Deep d → Around w n → (target : Access)
      (body : Used) (arguments : List Expr)
      → Keeping n (init_done target body arguments (at n d))
  begins w n d deep around target body arguments =
      bind n (evaluated (at n d) (element_of target)) _ (looks n (at n d) (element_of target))
      (λ x. bind n (evaluated (at n d) (values_in arguments [])) _
      (looks n (at n d) (values_in arguments []))
      (λ xs. bind n (known (declared_at t.outline body)) _ (knowns n (declared_at t.outline body))
      (λ p. known_keeps n (body_at t p) _
      (λ y i s h. born_keeps n x p xs s
      (initialized s.situation.next (out-Body y).first (at n d)) h
      (initialized_keeps w n d deep around s.situation.next (out-Body y).first
      (λ f j. begun.initialize_parts p y f i j))
      (born t n.instance x p xs s.situation) refl (k.begins n x p xs s h)))))

  lets_go : (n : Execution) (d : Deeper) (target : Access) → Keeping n (let_go target (at n d))
  lets_go n d target s h = looked n (at n d) (child target) _ (D n.instance s.situation) s h
      (child_gives n d target s h s.left)
      (λ i l q g. k.releases n i (record s { left = l }) q g)

  connects : (n : Execution) (d : Deeper) (one other : EndPoint)
      → Keeping n (linked (end_of one) (end_of other) (connected t) (at n d))
  connects n d one other s h = looked n (at n d) (end_of one) _ (IsEnd D n.instance s.situation) s h
      (end_gives n d one.first one.second s h s.left)
      (λ p l a g. looked n (at n d) (end_of other) _ (IsEnd D n.instance s.situation)
      (record s { left = l }) g (end_gives n d other.first other.second (record s { left = l }) g l)
      (λ q m b i. changed_keeps n (record s { left = m }) (connected t p q s.situation)
      (k.connects n p q (record s { left = m }) a b i)))

  attaches : (w : List ℕ) (n : Execution) (d : Deeper) (own target point : Access) → Around w n
      → Target t.outline IsNaming IsTarget w target
      → Keeping n (linked (own_point own) (child_point target point) (attached t) (at n d))
  attaches w n d own target point around fits s h =
      looked n (at n d) (own_point own) _ (λ (p : InteractionPoint). p.instance ≡ n.instance) s h
      (own_gives own (view (at n d) s) s.left)
      (λ p l a g. looked n (at n d) (child_point target point) _
      (λ (q : InteractionPoint). E n.instance s.situation q.instance) (record s { left = l }) g
      (target_gives w n d target point (record s { left = l }) around fits g l)
      (λ q m b i. changed_keeps n (record s { left = m }) (attached t p q s.situation)
      (k.attaches n p q (record s { left = m }) a b i)))

  each_keeps : (n : Execution) (m : InteractionPoint → Situation → Situation)
      → ((p : InteractionPoint) (s : State) → P n s
      → P n (with_situation s (m p s.situation)) × K s.situation (m p s.situation))
      → (ps : List InteractionPoint) (s : State) → P n s
      → P n (with_situation s (each m ps s.situation)) × K s.situation (each m ps s.situation)
  each_keeps n m h [] s p = stays n s p
  each_keeps n m h (q ∷ qs) s p =
      let u = m q s.situation in
      let g = h q s p in
      let r = each_keeps n m h qs (with_situation s u) g.0 in
      (r.0, k.after s.situation u (each m qs u) g.1 r.1)

  unlinks : (n : Execution) (d : Deeper) (x : EndPoint)
      (m : InteractionPoint → Situation → Situation)
      → ((p : InteractionPoint) (s : State) → P n s
      → P n (with_situation s (m p s.situation)) × K s.situation (m p s.situation))
      → Keeping n (unlinked x m (at n d))
  unlinks n d x m h =
      bind n (evaluated (at n d) (ends_of x.first x.second)) _
      (looks n (at n d) (ends_of x.first x.second)) (λ ps s p. each_keeps n m h ps s p)

  -- STATEMENTS

  mutual
    body_keeps : (x : Statement) (w : List ℕ) (n : Execution) (d : Deeper) → Deep d → Around w n
        → Targets t.outline IsNaming IsTarget w x → Keeping n (body_of x (at n d))
    body_keeps (statement.Empty place) w n d deep around fits = idles n
    body_keeps (statement.Compound' a turn place) w n d deep around fits =
        row_keeps turn w n d deep around fits
    body_keeps (statement.Assign target path e place) w n d deep around fits =
        bind n (evaluated (at n d) (variable_of target path)) _
        (looks n (at n d) (variable_of target path))
        (λ r. bind n (evaluated (at n d) (value_of e)) _ (looks n (at n d) (value_of e))
        (λ v. stores n r v))
    body_keeps (statement.Call name arguments place) w n d deep around fits =
        performs w n d deep around name arguments
    body_keeps (statement.If' e a first second place) w n d deep around fits =
        bind n (ordinal_of e (at n d)) _ (asks n (at n d) e)
        (λ z. chooses n z (row_statement first (at n d)) (held_statement second (at n d))
        (boxed_keeps first w n d deep around fits.0) (held_keeps second w n d deep around fits.1))
    body_keeps (statement.Case' e a arms place) w n d deep around fits =
        bind n (ordinal_of e (at n d)) _ (asks n (at n d) e)
        (λ z. arms_keep arms z w n d deep around fits)
    body_keeps (statement.While' e a turn place) w n d deep around fits = λ s p.
        turns_keep n _ (ordinal_of e (at n d)) (row_statement turn (at n d)) (asks n (at n d) e)
        (boxed_keeps turn w n d deep around fits) s p
    body_keeps (statement.Repeat' a turn until place) w n d deep around fits = λ s p.
        repeats_keep n _ (row_statements turn (at n d)) (ordinal_of until (at n d))
        (row_keeps turn w n d deep around fits) (asks n (at n d) until) s p
    body_keeps (statement.For' name first down last a turn place) w n d deep around fits =
        bind n (evaluated (at n d) (variable_of name [])) _ (looks n (at n d) (variable_of name []))
        (λ r. bind n (ordinal_of first (at n d)) _ (asks n (at n d) first)
        (λ x. bind n (ordinal_of last (at n d)) _ (asks n (at n d) last)
        (λ y. both n (counts (distance down x y) x (step down)
        (λ z. stored false r (value.Ordinal z) >> row_statement turn (at n d)))
        (stored false r value.Undefined)
        (counts_keep n (distance down x y) x (step down)
        (λ z. stored false r (value.Ordinal z) >> row_statement turn (at n d))
        (λ z. both n (stored false r (value.Ordinal z)) (row_statement turn (at n d))
        (stores n r (value.Ordinal z)) (boxed_keeps turn w n d deep around fits)))
        (stores n r value.Undefined))))
    body_keeps (statement.All' name text a turn place) w n d deep around fits =
        all_over n name.place (entry_at t.outline name.place) (row_statement turn (at n d)) d
        (λ e. boxed_keeps turn (name.place ∷ w) (within_all name.place n) d deep
        (k.alls w n name.place e fits.0 around) fits.1)
    body_keeps (statement.Output sendings place) w n d deep around fits =
        all_sent_keeps n d sendings
    body_keeps (statement.Init target body arguments place) w n d deep around fits =
        begins w n d deep around target body arguments
    body_keeps (statement.Release target place) w n d deep around fits = lets_go n d target
    body_keeps (statement.Connect one other place) w n d deep around fits = connects n d one other
    body_keeps (statement.Disconnect end place) w n d deep around fits =
        unlinks n d end disconnected (λ p s h. k.disconnects n p s h)
    body_keeps (statement.Attach own target point place) w n d deep around fits =
        attaches w n d own target point around fits
    body_keeps (statement.Detach end place) w n d deep around fits =
        unlinks n d end (detached_end t n.instance) (λ p s h. k.detaches n p s h)

    boxed_keeps : {m : _} (row : Row_of-Statement m) (w : List ℕ) (n : Execution) (d : Deeper)
        → Deep d → Around w n → RowTargets t.outline IsNaming IsTarget w row
        → Keeping n (row_statement row (at n d))
    boxed_keeps end_of-Statement w n d deep around fits = idles n
    boxed_keeps (more_of-Statement x rest) w n d deep around fits =
        both n enter (body_of x (at n d)) (enters n) (body_keeps x w n d deep around fits.0)

    held_keeps : (x : Held-Statement-If-2) (w : List ℕ) (n : Execution) (d : Deeper) → Deep d
        → Around w n → SecondTargets t.outline IsNaming IsTarget w x
        → Keeping n (held_statement x (at n d))
    held_keeps block.None' w n d deep around fits = idles n
    held_keeps (block.Some' a row) w n d deep around fits = boxed_keeps row w n d deep around fits

    row_keeps : {m : _} (row : Row_of-Statement m) (w : List ℕ) (n : Execution) (d : Deeper)
        → Deep d → Around w n → RowTargets t.outline IsNaming IsTarget w row
        → Keeping n (row_statements row (at n d))
    row_keeps end_of-Statement w n d deep around fits = idles n
    row_keeps (more_of-Statement x rest) w n d deep around fits =
        both n (enter >> body_of x (at n d)) (row_statements rest (at n d))
        (both n enter (body_of x (at n d)) (enters n) (body_keeps x w n d deep around fits.0))
        (row_keeps rest w n d deep around fits.1)

    arms_keep : {m : _} (row : Row_of-Arm m) (z : ℤ) (w : List ℕ) (n : Execution) (d : Deeper)
        → Deep d → Around w n → ArmTargets t.outline IsNaming IsTarget w row
        → Keeping n (row_arms row z (at n d))
    arms_keep end_of-Arm z w n d deep around fits = λ s p. tt
    arms_keep (more_of-Arm constants x rest) z w n d deep around fits =
        one_arm n (is_chosen t.outline constants z) (enter >> body_of x (at n d))
        (row_arms rest z (at n d))
        (both n enter (body_of x (at n d)) (enters n) (body_keeps x w n d deep around fits.0))
        (arms_keep rest z w n d deep around fits.1)

  -- statements in order
  statements_keep : (xs : List Statement) (n : Execution) (d : Deeper) → Deep d → Around [] n
      → Fits xs → Keeping n (statements_in xs (at n d))
  statements_keep [] n d deep around fits = idles n
  statements_keep (x ∷ xs) n d deep around fits =
      both n (enter >> body_of x (at n d)) (statements_in xs (at n d))
      (both n enter (body_of x (at n d)) (enters n) (body_keeps x [] n d deep around fits.0))
      (statements_keep xs n d deep around fits.1)

  -- WITHIN ONE ANOTHER

  -- the statements that statements begin keep it
  pub within_keeps : (levels : ℕ) → Deep (within levels t)
  within_keeps zero n xs around fits = λ s h. tt
  within_keeps (suc levels) n xs around fits =
      statements_keep xs n (within levels t) (within_keeps levels) around fits

  pub execution_keeps : (levels : ℕ) (n : Execution) (xs : List Statement) → Around [] n → Fits xs
      → Keeping n (statements_in xs (site t n.instance false levels))
  execution_keeps levels n xs around fits =
      statements_keep xs n (within levels t) (within_keeps levels) around fits
