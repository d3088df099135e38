-- What each change of a state keeps is kept by every block; the statements of a function make no
-- change but in frames.
use Rattle.std.proofs.Common.{◌≡◌, refl, sym, subst, ◌∙◌, ℕ, zero, suc, Bool, true, false, List, []}
use Rattle.std.proofs.Common.{◌∷◌}
use Rattle.std.proofs.Common.{Option, Some, None, Result, Ok, Err}
use Rattle.std.specs.Prelude.{ℤ, if◌then◌else◌, ◌+ℤ◌}
use Rattle.est_syntax.specs.declared.body.Body.{out-Body}
use Rattle.est_syntax.specs.declared.body.FirstPart.{FirstPart}
use Rattle.est_syntax.specs.declared.expression.Access.{Access}
use Rattle.est_syntax.specs.declared.expression.EndPoint.{EndPoint}
use Rattle.est_syntax.specs.declared.expression.Expr.{Expr}
use Rattle.est_syntax.specs.declared.name.Used.{Used}
use Rattle.est_syntax.specs.declared.statement.Sending.{Sending}
use Rattle.est_syntax.specs.declared.statement.Statement.{Statement, Row_of-Statement}
use Rattle.est_syntax.specs.declared.statement.Statement.{end_of-Statement, more_of-Statement}
use Rattle.est_syntax.specs.declared.statement.Statement.{Held-Statement-If-2}
use Rattle.est_syntax.specs.declared.statement.Statement.{Row_of-Arm, end_of-Arm, more_of-Arm}
use Rattle.est_syntax.specs.declared.statement.Statement.TheBlock as block
use Rattle.est_syntax.specs.declared.statement.Statement.TheVariants as statement
use Rattle.est_values.specs.declared.value.Value.{Value}
use Rattle.est_values.specs.declared.value.Value.TheVariants as value
use Rattle.est_values.specs.OrdinalTuples.{ordinals_of}
use Rattle.rule_declares.specs.rule_scope.declared.declaration.Sort.TheVariants as sort
use Rattle.rule_declares.specs.rule_scope.Outline.{entry_at}
use Rattle.mean_blocks.specs.declared.fault.BlockFault.{BlockFault}
use Rattle.mean_blocks.specs.declared.frame.Holder.{Holder}
use Rattle.mean_blocks.specs.declared.frame.Holder.TheVariants as holder
use Rattle.mean_blocks.specs.declared.frame.Slot.{Slot}
use Rattle.mean_blocks.specs.declared.frame.Slot.TheVariants as slot
use Rattle.mean_blocks.specs.declared.situation.Element.{Element}
use Rattle.mean_blocks.specs.declared.situation.InteractionPoint.{InteractionPoint}
use Rattle.mean_blocks.specs.declared.situation.Item.{Item}
use Rattle.mean_blocks.specs.Outcome.{Outcome, Done, Fault, Limit, onward, ◌>>=◌, ◌>>◌, give}
use Rattle.mean_blocks.specs.Outcome.{lift, known, counted}
use Rattle.mean_blocks.specs.GlobalSituation.{Frame, Situation, with_row, lives}
use Rattle.mean_blocks.specs.Frames.{names_written}
use Rattle.mean_blocks.specs.OrdinalOperators.{is_true}
use Rattle.mean_blocks.specs.TextByPlace.{Text, routine_at, statements_of, body_at, first_region}
use Rattle.mean_blocks.specs.TextByPlace.{first_statements}
use Rattle.mean_blocks.specs.NamesInRuns.{Head, Nothing, Constant, Function, Variable, Modules}
use Rattle.mean_blocks.specs.NamesInRuns.{head_in, header_at, declared_at, places_of}
use Rattle.mean_blocks.specs.WorkingState.{State, Site, View, Counts, Does, Deeper, view}
use Rattle.mean_blocks.specs.WorkingState.{counting}
use Rattle.mean_blocks.specs.WorkingState.{evaluated, enter, changed_by, changes}
use Rattle.mean_blocks.specs.ValueOperators.{choose, ordinal}
use Rattle.mean_blocks.specs.ReachedVariables.{Reached, Component, Module}
use Rattle.mean_blocks.specs.FunctionCalls.{routine_frame, frame_of}
use Rattle.mean_blocks.specs.ExpressionValues.{value_of, variable_of, values_in, arguments_in}
use Rattle.mean_blocks.specs.InstancePoints.{children_of, own_point, child, child_point, end_of}
use Rattle.mean_blocks.specs.InstancePoints.{ends_of}
use Rattle.mean_blocks.specs.OutputEffects.{sent}
use Rattle.mean_blocks.specs.LinkEffects.{connected, attached, disconnected, detached_end, each}
use Rattle.mean_blocks.specs.InstanceEffects.{born, in_state, released}
use Rattle.mean_blocks.specs.WriteEffects.{acts, ordinal_of, opened, closed, framed}
use Rattle.mean_blocks.specs.WriteEffects.{with_variables, given_names, stored}
use Rattle.mean_blocks.specs.LoopEffects.{turn_of, turns, repeats, counts, distance, step, naming}
use Rattle.mean_blocks.specs.LoopEffects.{turn_for, for_each, for_child, for_children}
use Rattle.mean_blocks.specs.LoopEffects.{over_children, over}
use Rattle.mean_blocks.specs.StatementEffects.{performed, is_chosen, item_of, delivered, all_sent}
use Rattle.mean_blocks.specs.StatementEffects.{first_reached, initialized, element_of, init_done}
use Rattle.mean_blocks.specs.StatementEffects.{let_go, first_state, linked, unlinked, body_of}
use Rattle.mean_blocks.specs.StatementEffects.{row_statement, held_statement, row_statements}
use Rattle.mean_blocks.specs.StatementEffects.{row_arms, statements_in}
use Rattle.mean_blocks.specs.BlockLevels.{within, site}
use Rattle.mean_blocks.specs.KeepingLaws.{Kept, Keeping, IsUnchanged, OnChange, Keeps, Between}
use Rattle.mean_blocks.specs.KeepingLaws.{BlocksKeep}

-- the state with another situation
abbrev with_situation : State → Situation → State
with_situation s u = record s { situation = u }

-- the state after an item was sent
abbrev with_sent : Text → Item → State → State
with_sent t i s = let x = sent t i (record { situation = s.situation; outs = s.outs }) in
    record s { situation = x.situation; outs = x.outs }

-- a change of a state, where it has no fault
abbrev IfChanged : (State → State → Type 0) → State → Result Situation BlockFault → Type 0
IfChanged R s (Ok u) = R s (with_situation s u)
IfChanged R s (Err f) = Unit {0}

-- A relation of states that counting and frames keep, and each change but those by the statements
-- of functions.
record Steady (t : Text) (b : Bool) (R : State → State → Type 0) : Type 0 where
  same : (s : State) → R s s
  after : (r s u : State) → R r s → R s u → R r u
  counts : (s : State) (n : ℕ) → R s (record s { left = n })
  frames : (s : State) (fs : List Frame) → R s (record s { frames = fs })
  writes : b ≡ false → (n : ℕ) (f : Frame) (s : State)
      → R s (with_situation s (with_variables n f s.situation))
  states : b ≡ false → (n : ℕ) (p : Option ℕ) (s : State)
      → R s (with_situation s (with_row n (in_state p) s.situation))
  sends : b ≡ false → (i : Item) (s : State) → R s (with_sent t i s)
  connects : b ≡ false → (p q : InteractionPoint) (s : State)
      → IfChanged R s (connected t p q s.situation)
  attaches : b ≡ false → (p q : InteractionPoint) (s : State)
      → IfChanged R s (attached t p q s.situation)
  disconnects : b ≡ false → (p : InteractionPoint) (s : State)
      → R s (with_situation s (disconnected p s.situation))
  detaches : b ≡ false → (n : ℕ) (p : InteractionPoint) (s : State)
      → R s (with_situation s (detached_end t n p s.situation))
  releases : b ≡ false → (n : ℕ) (s : State) → R s (with_situation s (released t n s.situation))
  begins : b ≡ false → (parent : ℕ) (e : Element) (body : ℕ) (xs : List Slot) (s : State)
      → IfChanged R s (born t parent e body xs s.situation)

module _ (t : Text) (b : Bool) (R : State → State → Type 0) (k : Steady t b R) where
  -- OUTCOMES

  kept_on : {A : Type 0} (r s : State) (o : Outcome State A) → R r s → Kept R s o → Kept R r o
  kept_on r s (Done a u) h g = k.after r s u h g
  kept_on r s (Fault f) h g = tt
  kept_on r s Limit h g = tt

  onward_kept : {A B : Type 0} (s : State) (o : Outcome State A)
      (go : A → State → Outcome State B)
      → Kept R s o → ((a : A) → Keeping R (go a)) → Kept R s (onward o go)
  onward_kept s (Done a u) go h g = kept_on s u (go a u) h (g a u)
  onward_kept s (Fault f) go h g = tt
  onward_kept s Limit go h g = tt

  bind : {A B : Type 0} (m : State → Outcome State A) (go : A → State → Outcome State B)
      → Keeping R m → ((a : A) → Keeping R (go a)) → Keeping R (m >>= go)
  bind m go h g s = onward_kept s (m s) go (h s) g

  both : {A B : Type 0} (m : State → Outcome State A) (n : State → Outcome State B)
      → Keeping R m → Keeping R n → Keeping R (m >> n)
  both m n h g s = onward_kept s (m s) (λ _. n) (h s) (λ _. g)

  counting_kept : {A : Type 0} (s : State) (o : Outcome ℕ A) → Kept R s (counting s o)
  counting_kept s (Done a n) = k.counts s n
  counting_kept s (Fault f) = tt
  counting_kept s Limit = tt

  looks : {A : Type 0} (site : Site) (m : View → Counts A) → Keeping R (evaluated site m)
  looks site m s = counting_kept s (m (view site s) s.left)

  enters : Keeping R enter
  enters s = counting_kept s (counted s.left)

  gives : {A : Type 0} (a : A) → Keeping R (give a)
  gives a s = k.same s

  abbrev idle : Does
  idle = give tt

  idles : Keeping R idle
  idles s = k.same s

  lifts : {A : Type 0} (r : Result A BlockFault) → Keeping R (lift r)
  lifts (Ok a) s = k.same s
  lifts (Err f) s = tt

  knowns : {A : Type 0} (r : Option A) → Keeping R (known r)
  knowns (Some a) s = k.same s
  knowns None s = tt

  one_arm : {A : Type 0} (c : Bool) (m n : State → Outcome State A) → Keeping R m → Keeping R n
      → Keeping R (if c then m else n)
  one_arm true m n h g = h
  one_arm false m n h g = g

  chooses : {A : Type 0} (z : ℤ) (m n : State → Outcome State A) → Keeping R m → Keeping R n
      → Keeping R (choose z m n)
  chooses z m n h g = one_arm (is_true z) m n h g

  -- what no function does
  does : (c : Bool) (m : Does) → (c ≡ false → Keeping R m) → Keeping R (acts c m)
  does true m h = λ s. tt
  does false m h = h refl

  -- CHANGES

  changed_kept : (s : State) (r : Result Situation BlockFault) → IfChanged R s r
      → Kept R s (changed_by s r)
  changed_kept s (Ok u) h = h
  changed_kept s (Err f) h = tt

  change : (m : Situation → Result Situation BlockFault)
      → ((s : State) → IfChanged R s (m s.situation)) → Keeping R (changes m)
  change m h s = changed_kept s (m s.situation) (h s)

  names_keep : (c : Bool) → c ≡ b → (h : Holder) (f : Frame) → Keeping R (given_names c h f)
  names_keep c e (holder.Frame n) f = λ s. k.frames s _
  names_keep c e (holder.Instance n) f = does c
      (λ s. Done tt (record s { situation = with_variables n f s.situation }))
      (λ h s. k.writes (sym e ∙ h) n f s)

  stores : (r : Reached) (v : Value) → Keeping R (stored b r v)
  stores (Component p d) v = λ s.
      bind (lift (names_written p d v s.situation s.frames)) (given_names b p.holder)
      (lifts (names_written p d v s.situation s.frames)) (λ f. names_keep b refl p.holder f) s
  stores (Module p zs) v = λ s. tt

  framed_keeps : (f : Frame) (m : Does) → Keeping R m → Keeping R (framed f m)
  framed_keeps f m h = both (opened f) (m >> closed) (λ s. k.frames s _)
      (both m closed h (λ s. k.frames s _))

  asks : (site : Site) (e : Expr) → Keeping R (ordinal_of e site)
  asks site e = looks site (λ v. value_of e v >>= ordinal)

  -- LOOPS

  turns_keep : (n : ℕ) (c : State → Outcome State ℤ) (turn : Does) → Keeping R c → Keeping R turn
      → Keeping R (turns n c turn)
  turns_keep zero c turn h g = λ s. tt
  turns_keep (suc n) c turn h g =
      bind (turn_of c turn) (λ more. if more then turns n c turn else idle)
      (bind c (λ z. choose z (enter >> (turn >> give true)) (give false)) h
      (λ z. chooses z (enter >> (turn >> give true)) (give false)
      (both enter (turn >> give true) enters (both turn (give true) g (gives true)))
      (gives false)))
      (λ more. one_arm more (turns n c turn) idle (turns_keep n c turn h g) idles)

  repeats_keep : (n : ℕ) (turn : Does) (c : State → Outcome State ℤ) → Keeping R turn
      → Keeping R c → Keeping R (repeats n turn c)
  repeats_keep zero turn c g h = λ s. tt
  repeats_keep (suc n) turn c g h =
      both (enter >> turn) (c >>= λ z. choose z idle (repeats n turn c))
      (both enter turn enters g)
      (bind c (λ z. choose z idle (repeats n turn c)) h
      (λ z. chooses z idle (repeats n turn c) idles (repeats_keep n turn c g h)))

  counts_keep : (n : ℕ) (z step : ℤ) (turn : ℤ → Does) → ((y : ℤ) → Keeping R (turn y))
      → Keeping R (counts n z step turn)
  counts_keep zero z step turn h = idles
  counts_keep (suc n) z step turn h =
      both (enter >> turn z) (counts n (z +ℤ step) step turn)
      (both enter (turn z) enters (h z)) (counts_keep n (z +ℤ step) step turn h)

  turn_keeps : (p : ℕ) (x : Slot) (turn : Does) → Keeping R turn → Keeping R (turn_for p x turn)
  turn_keeps p x turn h =
      both enter (framed (naming p x) turn) enters (framed_keeps (naming p x) turn h)

  for_each_keeps : (p : ℕ) (zs : List ℤ) (turn : Does) → Keeping R turn
      → Keeping R (for_each p zs turn)
  for_each_keeps p [] turn h = idles
  for_each_keeps p (z ∷ zs) turn h =
      both (turn_for p (slot.Value (value.Ordinal z)) turn) (for_each p zs turn)
      (turn_keeps p (slot.Value (value.Ordinal z)) turn h) (for_each_keeps p zs turn h)

  for_child_keeps : (p n : ℕ) (turn : Does) → Keeping R turn → Keeping R (for_child p n turn)
  for_child_keeps p n turn h s = one_arm (lives s.situation n)
      (turn_for p (slot.Instance n) turn) idle (turn_keeps p (slot.Instance n) turn h) idles s

  for_children_keep : (p : ℕ) (ns : List ℕ) (turn : Does) → Keeping R turn
      → Keeping R (for_children p ns turn)
  for_children_keep p [] turn h = idles
  for_children_keep p (n ∷ ns) turn h = both (for_child p n turn) (for_children p ns turn)
      (for_child_keeps p n turn h) (for_children_keep p ns turn h)

  over_children_keeps : (p : ℕ) (header : Option ℕ) (turn : Does) (site : Site) → Keeping R turn
      → Keeping R (over_children p header turn site)
  over_children_keeps p None turn site h = λ s. tt
  over_children_keeps p (Some header) turn site h = λ s. for_children_keep p
      (children_of site.text.outline s.situation site.instance header) turn h s

  over_keeps : (x : Head) (turn : Does) (site : Site) → Keeping R turn
      → Keeping R (over x turn site)
  over_keeps (Variable p d) turn site h = for_each_keeps p (ordinals_of d) turn h
  over_keeps (Modules p) turn site h =
      over_children_keeps p (header_at site.text.outline p) turn site h
  over_keeps Nothing turn site h = λ s. tt
  over_keeps (Constant z) turn site h = λ s. tt
  over_keeps (Function p d) turn site h = λ s. tt

  -- CALLS, OUTPUT, INSTANCES AND LINKS

  -- what the statements keep that these begin; a function begins none
  abbrev Deep : Deeper → Type 0
  Deep d = b ≡ false → (n : ℕ) (xs : List Statement) → Keeping R (d n false xs)

  -- the statements of an instance
  abbrev at : ℕ → Deeper → Site
  at n d = record { text = t; instance = n; function = b; deeper = d }

  performs : b ≡ false → (n : ℕ) (d : Deeper) → Deep d → (name : Used) (arguments : List Expr)
      → Keeping R (performed name arguments (at n d))
  performs e n d deep name arguments =
      bind (known (declared_at t.outline name)) _ (knowns (declared_at t.outline name))
      (λ p. bind (evaluated (at n d) (arguments_in arguments p [])) _
      (looks (at n d) (arguments_in arguments p []))
      (λ xs. bind (known (routine_at t p)) _ (knowns (routine_at t p))
      (λ r. bind (lift (routine_frame t.outline p xs)) _ (lifts (routine_frame t.outline p xs))
      (λ f. framed_keeps f (d n false (statements_of r)) (deep e n (statements_of r))))))

  all_sent_keeps : b ≡ false → (n : ℕ) (d : Deeper) (xs : List Sending)
      → Keeping R (all_sent xs (at n d))
  all_sent_keeps e n d [] = idles
  all_sent_keeps e n d (x ∷ xs) =
      both (evaluated (at n d) (item_of x) >>= delivered (at n d)) (all_sent xs (at n d))
      (bind (evaluated (at n d) (item_of x)) (delivered (at n d)) (looks (at n d) (item_of x))
      (λ i s. k.sends e i s)) (all_sent_keeps e n d xs)

  initialized_keeps : b ≡ false → (n : ℕ) (d : Deeper) → Deep d → (i : ℕ) (x : Option FirstPart)
      → Keeping R (initialized i x (at n d))
  initialized_keeps e n d deep i None = idles
  initialized_keeps e n d deep i (Some f) =
      let ps = places_of t.outline sort.Variable (first_region f) in
      bind (lift (frame_of t.outline ps [])) _ (lifts (frame_of t.outline ps []))
      (λ frame. both (framed frame (d i false (first_statements f)))
      (changes (λ s. Ok (first_reached t.outline i f s)))
      (framed_keeps frame (d i false (first_statements f)) (deep e i (first_statements f)))
      (change (λ s. Ok (first_reached t.outline i f s))
      (λ s. k.states e i (first_state t.outline f) s)))

  begins : b ≡ false → (n : ℕ) (d : Deeper) → Deep d → (target : Access) (body : Used)
      (arguments : List Expr) → Keeping R (init_done target body arguments (at n d))
  begins e n d deep target body arguments =
      bind (evaluated (at n d) (element_of target)) _ (looks (at n d) (element_of target))
      (λ x. bind (evaluated (at n d) (values_in arguments [])) _
      (looks (at n d) (values_in arguments []))
      (λ xs. bind (known (declared_at t.outline body)) _ (knowns (declared_at t.outline body))
      (λ p. bind (known (body_at t p)) _ (knowns (body_at t p))
      (λ y s. both (changes (born t n x p xs))
      (initialized s.situation.next (out-Body y).first (at n d))
      (change (born t n x p xs) (λ u. k.begins e n x p xs u))
      (initialized_keeps e n d deep s.situation.next (out-Body y).first) s))))

  lets_go : b ≡ false → (n : ℕ) (d : Deeper) (target : Access)
      → Keeping R (let_go target (at n d))
  lets_go e n d target = bind (evaluated (at n d) (child target)) _ (looks (at n d) (child target))
      (λ i. change (λ s. Ok (released t i s)) (λ s. k.releases e i s))

  links : (n : ℕ) (d : Deeper) (first second : View → Counts InteractionPoint)
      (link : InteractionPoint → InteractionPoint → Situation → Result Situation BlockFault)
      → ((p q : InteractionPoint) (s : State) → IfChanged R s (link p q s.situation))
      → Keeping R (linked first second link (at n d))
  links n d first second link h =
      bind (evaluated (at n d) first) _ (looks (at n d) first)
      (λ p. bind (evaluated (at n d) second) _ (looks (at n d) second)
      (λ q. change (link p q) (λ s. h p q s)))

  each_keeps : (m : InteractionPoint → Situation → Situation)
      → ((p : InteractionPoint) (s : State) → R s (with_situation s (m p s.situation)))
      → (ps : List InteractionPoint) (s : State) → R s (with_situation s (each m ps s.situation))
  each_keeps m h [] s = k.same s
  each_keeps m h (p ∷ ps) s =
      let u = with_situation s (m p s.situation) in
      k.after s u (with_situation s (each m ps u.situation)) (h p s) (each_keeps m h ps u)

  unlinks : (n : ℕ) (d : Deeper) (x : EndPoint) (m : InteractionPoint → Situation → Situation)
      → ((p : InteractionPoint) (s : State) → R s (with_situation s (m p s.situation)))
      → Keeping R (unlinked x m (at n d))
  unlinks n d x m h =
      bind (evaluated (at n d) (ends_of x.first x.second)) _
      (looks (at n d) (ends_of x.first x.second))
      (λ ps. change (λ s. Ok (each m ps s)) (λ s. each_keeps m h ps s))

  -- STATEMENTS

  mutual
    body_keeps : (x : Statement) (n : ℕ) (d : Deeper) → Deep d → Keeping R (body_of x (at n d))
    body_keeps (statement.Empty place) n d deep = idles
    body_keeps (statement.Compound' a turn place) n d deep = row_keeps turn n d deep
    body_keeps (statement.Assign target path e place) n d deep =
        bind (evaluated (at n d) (variable_of target path)) _
        (looks (at n d) (variable_of target path))
        (λ r. bind (evaluated (at n d) (value_of e)) _ (looks (at n d) (value_of e))
        (λ v. stores r v))
    body_keeps (statement.Call name arguments place) n d deep =
        does b _ (λ e. performs e n d deep name arguments)
    body_keeps (statement.If' e a first second place) n d deep =
        bind (ordinal_of e (at n d)) _ (asks (at n d) e)
        (λ z. chooses z (row_statement first (at n d)) (held_statement second (at n d))
        (boxed_keeps first n d deep) (held_keeps second n d deep))
    body_keeps (statement.Case' e a arms place) n d deep =
        bind (ordinal_of e (at n d)) _ (asks (at n d) e) (λ z. arms_keep arms z n d deep)
    body_keeps (statement.While' e a turn place) n d deep = λ s.
        turns_keep _ (ordinal_of e (at n d)) (row_statement turn (at n d)) (asks (at n d) e)
        (boxed_keeps turn n d deep) s
    body_keeps (statement.Repeat' a turn until place) n d deep = λ s.
        repeats_keep _ (row_statements turn (at n d)) (ordinal_of until (at n d))
        (row_keeps turn n d deep) (asks (at n d) until) s
    body_keeps (statement.For' name first down last a turn place) n d deep =
        bind (evaluated (at n d) (variable_of name [])) _ (looks (at n d) (variable_of name []))
        (λ r. bind (ordinal_of first (at n d)) _ (asks (at n d) first)
        (λ x. bind (ordinal_of last (at n d)) _ (asks (at n d) last)
        (λ y. both (counts (distance down x y) x (step down)
        (λ z. stored b r (value.Ordinal z) >> row_statement turn (at n d)))
        (stored b r value.Undefined)
        (counts_keep (distance down x y) x (step down)
        (λ z. stored b r (value.Ordinal z) >> row_statement turn (at n d))
        (λ z. both (stored b r (value.Ordinal z)) (row_statement turn (at n d))
        (stores r (value.Ordinal z)) (boxed_keeps turn n d deep)))
        (stores r value.Undefined))))
    body_keeps (statement.All' name text a turn place) n d deep =
        over_keeps (head_in name.place (entry_at t.outline name.place))
        (row_statement turn (at n d)) (at n d) (boxed_keeps turn n d deep)
    body_keeps (statement.Output sendings place) n d deep =
        does b _ (λ e. all_sent_keeps e n d sendings)
    body_keeps (statement.Init target body arguments place) n d deep =
        does b _ (λ e. begins e n d deep target body arguments)
    body_keeps (statement.Release target place) n d deep = does b _ (λ e. lets_go e n d target)
    body_keeps (statement.Connect one other place) n d deep = does b _
        (λ e. links n d (end_of one) (end_of other) (connected t) (λ p q s. k.connects e p q s))
    body_keeps (statement.Disconnect end place) n d deep = does b _
        (λ e. unlinks n d end disconnected (λ p s. k.disconnects e p s))
    body_keeps (statement.Attach own target point place) n d deep = does b _
        (λ e. links n d (own_point own) (child_point target point) (attached t)
        (λ p q s. k.attaches e p q s))
    body_keeps (statement.Detach end place) n d deep = does b _
        (λ e. unlinks n d end (detached_end t n) (λ p s. k.detaches e n p s))

    boxed_keeps : {m : _} (row : Row_of-Statement m) (n : ℕ) (d : Deeper) → Deep d
        → Keeping R (row_statement row (at n d))
    boxed_keeps end_of-Statement n d deep = idles
    boxed_keeps (more_of-Statement x rest) n d deep =
        both enter (body_of x (at n d)) enters (body_keeps x n d deep)

    held_keeps : (x : Held-Statement-If-2) (n : ℕ) (d : Deeper) → Deep d
        → Keeping R (held_statement x (at n d))
    held_keeps block.None' n d deep = idles
    held_keeps (block.Some' a row) n d deep = boxed_keeps row n d deep

    row_keeps : {m : _} (row : Row_of-Statement m) (n : ℕ) (d : Deeper) → Deep d
        → Keeping R (row_statements row (at n d))
    row_keeps end_of-Statement n d deep = idles
    row_keeps (more_of-Statement x rest) n d deep =
        both (enter >> body_of x (at n d)) (row_statements rest (at n d))
        (both enter (body_of x (at n d)) enters (body_keeps x n d deep))
        (row_keeps rest n d deep)

    arms_keep : {m : _} (row : Row_of-Arm m) (z : ℤ) (n : ℕ) (d : Deeper) → Deep d
        → Keeping R (row_arms row z (at n d))
    arms_keep end_of-Arm z n d deep = λ s. tt
    arms_keep (more_of-Arm constants x rest) z n d deep =
        one_arm (is_chosen t.outline constants z) (enter >> body_of x (at n d))
        (row_arms rest z (at n d))
        (both enter (body_of x (at n d)) enters (body_keeps x n d deep))
        (arms_keep rest z n d deep)

  -- statements in order
  statements_keep : (xs : List Statement) (n : ℕ) (d : Deeper) → Deep d
      → Keeping R (statements_in xs (at n d))
  statements_keep [] n d deep = idles
  statements_keep (x ∷ xs) n d deep =
      both (enter >> body_of x (at n d)) (statements_in xs (at n d))
      (both enter (body_of x (at n d)) enters (body_keeps x n d deep))
      (statements_keep xs n d deep)

-- FUNCTIONS

-- the statements of functions change nothing but frames
silence : (t : Text) (b : Bool) → b ≡ true → Steady t b IsUnchanged
silence t b h = record {
  same = λ s. (refl, refl);
  after = λ r s u x y. (y.0 ∙ x.0, y.1 ∙ x.1);
  counts = λ s n. (refl, refl);
  frames = λ s fs. (refl, refl);
  writes = λ e. absurd (cc);
  states = λ e. absurd (cc);
  sends = λ e. absurd (cc);
  connects = λ e. absurd (cc);
  attaches = λ e. absurd (cc);
  disconnects = λ e. absurd (cc);
  detaches = λ e. absurd (cc);
  releases = λ e. absurd (cc);
  begins = λ e. absurd (cc);
}

pub statements_silent : (xs : List Statement) (site : Site) → site.function ≡ true
    → Keeping IsUnchanged (statements_in xs site)
statements_silent xs site h =
    statements_keep site.text site.function IsUnchanged (silence site.text site.function h) xs
    site.instance site.deeper (λ e. absurd (cc))

pub functions_silent : (levels : ℕ) (t : Text) (n : ℕ) (xs : List Statement)
    → Keeping IsUnchanged (within levels t n true xs)
functions_silent zero t n xs = λ s. tt
functions_silent (suc levels) t n xs = statements_silent xs
    (record { text = t; instance = n; function = true; deeper = within levels t }) refl

-- BLOCKS

-- a change of a situation is one of a state
if_changed : (R : Situation → Situation → Type 0) (s : State) (r : Result Situation BlockFault)
    → OnChange R s.situation r → IfChanged (Between R) s r
if_changed R s (Ok u) h = h
if_changed R s (Err f) h = tt

-- what each change of a situation keeps
kept : (t : Text) (R : Situation → Situation → Type 0) → Keeps t R → Steady t false (Between R)
kept t R k = record {
  same = λ s. k.same s.situation;
  after = λ r s u x y. k.after r.situation s.situation u.situation x y;
  counts = λ s n. k.same s.situation;
  frames = λ s fs. k.same s.situation;
  writes = λ e n f s. k.writes n f s.situation;
  states = λ e n p s. k.states n p s.situation;
  sends = λ e i s. k.sends i (record { situation = s.situation; outs = s.outs });
  connects = λ e p q s. if_changed R s _ (k.connects p q s.situation);
  attaches = λ e p q s. if_changed R s _ (k.attaches p q s.situation);
  disconnects = λ e p s. k.disconnects p s.situation;
  detaches = λ e n p s. k.detaches n p s.situation;
  releases = λ e n s. k.releases n s.situation;
  begins = λ e parent x body xs s. if_changed R s _ (k.begins parent x body xs s.situation);
}

-- the statements that statements begin keep it
deeper_keep : (R : Situation → Situation → Type 0) (t : Text) → Keeps t R → (levels n : ℕ)
    (xs : List Statement) → Keeping (Between R) (within levels t n false xs)
deeper_keep R t k zero n xs = λ s. tt
deeper_keep R t k (suc levels) n xs = statements_keep t false (Between R) (kept t R k) xs n
    (within levels t) (λ e i ys. deeper_keep R t k levels i ys)

-- a function leaves the situation as it is
silent_keeps : (R : Situation → Situation → Type 0) (t : Text) → Keeps t R → (s : State)
    (o : Outcome State (Unit {0})) → Kept IsUnchanged s o → Kept (Between R) s o
silent_keeps R t k s (Done a u) h =
    subst (R s.situation) (sym h.0) (k.same s.situation)
silent_keeps R t k s (Fault f) h = tt
silent_keeps R t k s Limit h = tt

pub blocks_keep : (R : Situation → Situation → Type 0) → ((t : Text) → Keeps t R) → BlocksKeep R
blocks_keep R k t n true levels xs = λ s. silent_keeps R t (k t) s
    (statements_in xs (site t n true levels) s) (statements_silent xs (site t n true levels) refl s)
blocks_keep R k t n false levels xs = statements_keep t false (Between R) (kept t R (k t)) xs n
    (within levels t) (λ e i ys. deeper_keep R t (k t) levels i ys)
