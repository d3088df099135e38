-- The blocks of a specification that breaks no rule leave values that fit what holds them.
use Rattle.std.specs.Prelude.{ℤ, if◌then◌else◌, ◌+ℤ◌, ◌-◌, unwrap_or, flat_map}
use Rattle.std.specs.List.{AllByRecursion, AllZip}
use Rattle.std.specs.Option.{option_map}
use Rattle.std.proofs.Common.{◌≡◌, refl, ℕ, zero, suc, Bool, true, false, List, [], ◌∷◌, Option}
use Rattle.std.proofs.Common.{Some, None, Result, Ok, Err, sym, ap, subst, ◌∙◌, ◌++◌, length}
use Rattle.std.proofs.Common.{true≢false}
use Rattle.std.proofs.lemmas.Option.{same_Some, none-some}
use Rattle.est_syntax.specs.declared.body.Body.{out-Body}
use Rattle.est_syntax.specs.declared.body.FirstPart.{FirstPart}
use Rattle.est_syntax.specs.declared.expression.Access.{Access}
use Rattle.est_syntax.specs.declared.expression.EndPoint.{EndPoint}
use Rattle.est_syntax.specs.declared.expression.Expr.{Expr}
use Rattle.est_syntax.specs.declared.name.Used.{Used}
use Rattle.est_syntax.specs.declared.statement.Sending.{Sending}
use Rattle.est_syntax.specs.declared.statement.Statement.{Statement, Row_of-Statement}
use Rattle.est_syntax.specs.declared.statement.Statement.{end_of-Statement, more_of-Statement}
use Rattle.est_syntax.specs.declared.statement.Statement.{Held-Statement-If-2, Row_of-Arm}
use Rattle.est_syntax.specs.declared.statement.Statement.{end_of-Arm, more_of-Arm}
use Rattle.est_syntax.specs.declared.expression.Selector.{Selector}
use Rattle.est_syntax.specs.declared.ports.Direction.TheVariants.{Sends}
use Rattle.est_syntax.specs.declared.kind.Kind.{Kind}
use Rattle.est_syntax.specs.declared.statement.Statement.TheBlock as block
use Rattle.est_syntax.specs.declared.statement.Statement.TheVariants as statement
use Rattle.est_syntax.specs.declared.rule.Rule.TheVariants as rule
use Rattle.est_values.specs.declared.value.Value.{Value}
use Rattle.est_values.specs.OrdinalTuples.{ordinals_of}
use Rattle.est_values.specs.FittingValues.{IsOrdinalOf, is_scalar, Fits}
use Rattle.est_values.specs.declared.value.Value.TheVariants as value
use Rattle.rule_scope.specs.Outline.{entry_at, names_of, Outline}
use Rattle.rule_scope.specs.declared.declaration.Sort.TheVariants as sort
use Rattle.rule_declares.specs.PortList.{kinds_in}
use Rattle.est_values.specs.declared.types.Host.{Host}
use Rattle.est_values.specs.Types.{Yielded, type_of, is_assignable}
use Rattle.rule_expressions.specs.Accesses.{access_faults}
use Rattle.rule_expressions.specs.Expressions.{expr_type, are_taken}
use Rattle.rule_expressions.specs.Operators.{kept, is_given, is_ordinal}
use Rattle.rule_expressions.specs.Selections.{Selection, Broken, parameter, type_in, declared_type}
use Rattle.rule_expressions.specs.Variables.{selected_type}
use Rattle.rule_expressions.specs.Selections as select
use Rattle.rule_expressions.specs.Expressions as types
use Rattle.rule_expressions.specs.declared.operators.Wanted.TheVariants as wanted
use Rattle.rule_expressions.specs.declared.receivers.Receiver.TheVariants as receiver
use Rattle.rule_statements.specs.Cases.{Chosen}
use Rattle.rule_statements.specs.Signals.{sending_faults, signal_faults}
use Rattle.rule_statements.specs.Statements.{statement_faults, box_statement}
use Rattle.rule_statements.specs.Statements.{function_faults, call_faults, for_faults, is_place}
use Rattle.rule_statements.specs.Statements.{control_type}
use Rattle.rule_statements.specs.Modules.{init_faults}
use Rattle.rule_statements.specs.Targets.{target, path_target, assign_faults}
use Rattle.rule_statements.specs.Statements as rules
use Rattle.mean_blocks.specs.declared.fault.BlockFault.{BlockFault}
use Rattle.mean_blocks.specs.declared.frame.Holder.{Holder}
use Rattle.mean_blocks.specs.declared.frame.Slot.{Slot}
use Rattle.mean_blocks.specs.declared.situation.InteractionPoint.{InteractionPoint}
use Rattle.mean_blocks.specs.declared.situation.Item.{Item}
use Rattle.mean_blocks.specs.Outcome.{Outcome, Done, Fault, Limit, onward, ◌>>=◌, ◌>>◌, give}
use Rattle.mean_blocks.specs.Outcome.{lift, known, counted}
use Rattle.mean_blocks.specs.GlobalSituation.{Frame, Situation, lives}
use Rattle.mean_blocks.specs.Frames.{names_written}
use Rattle.mean_blocks.specs.OrdinalOperators.{is_true}
use Rattle.mean_blocks.specs.TextByPlace.{Text, routine_at, statements_of, body_at}
use Rattle.mean_blocks.specs.TextByPlace.{first_region, first_statements}
use Rattle.mean_blocks.specs.NamesInRuns.{Head, Nothing, Constant, Function, Variable, Modules}
use Rattle.mean_blocks.specs.NamesInRuns.{head_in, header_at, declared_at, places_of}
use Rattle.mean_blocks.specs.NamesInRuns.{interaction_of, kind_at, head}
use Rattle.mean_blocks.specs.WorkingState.{State, Site, View, Counts, Does, Deeper, view}
use Rattle.mean_blocks.specs.WorkingState.{counting, evaluated, enter, changed_by, changes}
use Rattle.mean_blocks.specs.ValueOperators.{choose, ordinal}
use Rattle.mean_blocks.specs.ReachedVariables.{Reached, Component, Module}
use Rattle.mean_blocks.specs.FunctionCalls.{routine_frame, frame_of}
use Rattle.mean_blocks.specs.ExpressionValues.{value_of, variable_of, values_in, arguments_in}
use Rattle.mean_blocks.specs.InstancePoints.{children_of, own_point, child, child_point, end_of}
use Rattle.mean_blocks.specs.InstancePoints.{ends_of, point}
use Rattle.mean_blocks.specs.LinkEffects.{connected, attached, disconnected, detached_end, each}
use Rattle.mean_blocks.specs.InstanceEffects.{born, released, header_variables, variables_of}
use Rattle.mean_blocks.specs.WriteEffects.{ordinal_of, opened, closed, framed, given_names}
use Rattle.mean_blocks.specs.WriteEffects.{stored, acts, assigned}
use Rattle.mean_blocks.specs.LoopEffects.{turn_of, turns, repeats, distance, step, naming}
use Rattle.mean_blocks.specs.LoopEffects.{counts as loop_counts, turn_for, for_each, for_child}
use Rattle.mean_blocks.specs.LoopEffects.{for_children, over_children, over, controlled}
use Rattle.mean_blocks.specs.StatementEffects.{performed, is_chosen, item_of, delivered}
use Rattle.mean_blocks.specs.StatementEffects.{all_sent, first_reached, initialized, element_of}
use Rattle.mean_blocks.specs.StatementEffects.{init_done, let_go, linked, unlinked, body_of}
use Rattle.mean_blocks.specs.StatementEffects.{values_of, row_statement, held_statement}
use Rattle.mean_blocks.specs.StatementEffects.{row_statements, row_arms, statements_in}
use Rattle.mean_blocks.specs.StatementEffects.{first_state}
use Rattle.mean_blocks.specs.BlockLevels.{within, site}
use Rattle.mean_blocks.specs.declared.situation.Element.{Element}
use Rattle.mean_blocks.specs.TakenValues.{taken}
use Rattle.mean_blocks.specs.declared.frame.Holder.TheVariants as holder
use Rattle.mean_blocks.specs.declared.frame.Slot.TheVariants as slot
use Rattle.mean_blocks.proofs.FittingTaken.{taken_fit}
use Rattle.law_runs.specs.UpkeepLaws.{OnDone}
use Rattle.law_runs.proofs.GivenThings.{Gives, OnGood, then_gives, lift_gives, named_gives}
use Rattle.law_runs.proofs.GivenThings.{given_on}
use Rattle.law_runs.proofs.ParentsOlder.{joined_all}
use Rattle.law_sentences.specs.FullExpressions.{IsWhole}
use Rattle.law_sentences.specs.FullProcedures.{AreGivenTo, IsCalled}
use Rattle.law_sentences.proofs.NoFaults.{parted}
use Rattle.law_sentences.proofs.NotBroken.{three, not_broken}
use Rattle.law_sentences.proofs.FullProcedures.{calls_full}
use Rattle.law_sentences.proofs.FullStatements.{assigned_full, loops_full}
use Rattle.law_values.proofs.FaultlessBlocks.{IsFaultless, FaultlessBlocks}
use Rattle.law_values.proofs.TakenArguments.{AreValues, arguments_are_values}
use Rattle.law_values.proofs.NamedEnds.{named}
use Rattle.law_values.specs.KindsOfPlaces.{HasKind}
use Rattle.law_values.specs.SteadyOutlines.{IsSteady}
use Rattle.law_values.specs.FittingStates.{FrameFits, ItemFits, SituationFits, StateFits}
use Rattle.law_values.specs.ValuesOfTypes.{IsYielded}
use Rattle.law_values.proofs.TypedValues.{given_fits}
use Rattle.law_values.proofs.FittingFrames.{written_fits}
use Rattle.law_values.proofs.FittingOrdinals.{ordinals_are, ordinal_fits}
use Rattle.law_values.proofs.ReachedKinds.{Agrees, OnHead, target_on, entry_on}
use Rattle.law_values.proofs.FittingArguments.{AreGivenFor, MayGiveAll, routine_given}
use Rattle.law_values.proofs.FittingArguments.{none_given, frame_given, nothing_given}
use Rattle.law_values.proofs.FittingArguments.{arguments_given}
use Rattle.law_values.proofs.FittingExpressions.{CallsFit, expr_yields, values_in_given}
use Rattle.law_values.proofs.FittingExpressions.{variable_agrees, given_some}
use Rattle.law_values.proofs.FittingChanges.{taken_all, set_all, sent_well, connected_well}
use Rattle.law_values.proofs.FittingChanges.{attached_well, disconnected_well, end_well}
use Rattle.law_values.proofs.FittingChanges.{released_well, born_well, written_well}
use Rattle.law_values.proofs.FittingChanges.{state_well}
use Rattle.law_values.proofs.ControlVariables.{kept_taken, target_some, ordinal_scalar}
use Rattle.law_values.proofs.ControlVariables.{undefined_fits}
use Rattle.law_values.proofs.GivenArguments.{both_given, append_nil, arguments_given_to}
use Rattle.law_values.proofs.NamedArguments.{same_declaration, sending_taken, init_taken}
use Rattle.law_values.proofs.SentValues.{item_values}

-- what an argument of an `all` stands for
abbrev IsLoop : Outline → Head → Type 0
IsLoop o (Variable p k) = kind_at o p ≡ Some k
IsLoop o _ = Unit {0}

module _ (t : Text) (whole : IsWhole t.outline) (steady : IsSteady t.outline)
    (good : FaultlessBlocks t) where
  abbrev o : Outline
  o = t.outline

  abbrev pub P : State → Type 0
  P s = StateFits o s

  abbrev pub Keeping : {A : Type 0} → (State → Outcome State A) → Type 0
  Keeping m = (s : State) → P s → OnDone P (m s)

  abbrev Y : Yielded → Value → Type 0
  Y x v = IsYielded steady.sizes x v

  abbrev Reaches : Selection → Reached → Type 0
  Reaches s r = Agrees o steady.sizes s r

  counts : (s : State) (l : ℕ) → P s → P (record s { left = l })
  counts s l h = record { situation = h.situation; frames = h.frames; sent = h.sent }

  -- OUTCOMES

  onward_keeps : {A B : Type 0} (x : Outcome State A) (go : A → State → Outcome State B)
      → OnDone P x → ((a : A) → Keeping (go a)) → OnDone P (onward x go)
  onward_keeps (Done a u) go h g = g a u h
  onward_keeps (Fault f) go h g = tt
  onward_keeps Limit go h g = tt

  bind : {A B : Type 0} (m : State → Outcome State A) (go : A → State → Outcome State B)
      → Keeping m → ((a : A) → Keeping (go a)) → Keeping (m >>= go)
  bind m go h g s p = onward_keeps (m s) go (h s p) g

  both : {A B : Type 0} (m : State → Outcome State A) (n : State → Outcome State B)
      → Keeping m → Keeping n → Keeping (m >> n)
  both m n h g s p = onward_keeps (m s) (λ _. n) (h s p) (λ _. g)

  counting_keeps : {A : Type 0} (s : State) (x : Outcome ℕ A) → P s → OnDone P (counting s x)
  counting_keeps s (Done a n) h = counts s n h
  counting_keeps s (Fault f) h = tt
  counting_keeps s Limit h = tt

  looks : {A : Type 0} (site : Site) (m : View → Counts A) → Keeping (evaluated site m)
  looks site m s h = counting_keeps s (m (view site s) s.left) h

  -- what is known of a thing that is looked at
  counted_keeps : {A B : Type 0} (s : State) (x : Outcome ℕ A) (go : A → State → Outcome State B)
      (Q : A → Type 0) → P s → Gives Q x
      → ((a : A) (l : ℕ) → Q a → P (record s { left = l })
      → OnDone P (go a (record s { left = l })))
      → OnDone P (onward (counting s x) go)
  counted_keeps s (Done a l) go Q h q g = g a l q (counts s l h)
  counted_keeps s (Fault f) go Q h q g = tt
  counted_keeps s Limit go Q h q g = tt

  looked : {A B : Type 0} (site : Site) (m : View → Counts A) (go : A → State → Outcome State B)
      (Q : A → Type 0) (s : State) → P s → Gives Q (m (view site s) s.left)
      → ((a : A) (l : ℕ) → Q a → P (record s { left = l })
      → OnDone P (go a (record s { left = l })))
      → OnDone P ((evaluated site m >>= go) s)
  looked site m go Q s h q g = counted_keeps s (m (view site s) s.left) go Q h q g

  enters : Keeping enter
  enters s h = counting_keeps s (counted s.left) h

  gives : {A : Type 0} (a : A) → Keeping (give a)
  gives a s h = h

  abbrev idle : Does
  idle = give tt

  idles : Keeping idle
  idles s h = h

  lifts : {A : Type 0} (r : Result A BlockFault) → Keeping (lift r)
  lifts (Ok a) s h = h
  lifts (Err f) s h = tt

  knowns : {A : Type 0} (r : Option A) → Keeping (known r)
  knowns (Some a) s h = h
  knowns None s h = tt

  known_keeps : {A : Type 0} (r : Option A) (go : A → Does)
      → ((a : A) → r ≡ Some a → Keeping (go a)) → Keeping (known r >>= go)
  known_keeps (Some a) go h = λ s g. h a refl s g
  known_keeps None go h = λ s g. tt

  one_arm : {A : Type 0} (c : Bool) (m n : State → Outcome State A) → Keeping m → Keeping n
      → Keeping (if c then m else n)
  one_arm true m n h g = h
  one_arm false m n h g = g

  chooses : {A : Type 0} (z : ℤ) (m n : State → Outcome State A) → Keeping m → Keeping n
      → Keeping (choose z m n)
  chooses z m n h g = one_arm (is_true z) m n h g

  -- CHANGES

  changed_keeps : (s : State) (r : Result Situation BlockFault) → P s → OnGood (SituationFits o) r
      → OnDone P (changed_by s r)
  changed_keeps s (Ok u) p h = record { situation = h; frames = p.frames; sent = p.sent }
  changed_keeps s (Err f) p h = tt

  change : (m : Situation → Result Situation BlockFault)
      → ((s : Situation) → SituationFits o s → OnGood (SituationFits o) (m s))
      → Keeping (changes m)
  change m h s p = changed_keeps s (m s.situation) p (h s.situation p.situation)

  acts_keep : (fn : Bool) (m : Does) → Keeping m → Keeping (acts fn m)
  acts_keep true m h = λ s p. tt
  acts_keep false m h = h

  lifted : {A B : Type 0} (Q : A → Type 0) (s : State) (r : Result A BlockFault)
      (go : A → State → Outcome State B) → OnGood Q r → ((a : A) → Q a → OnDone P (go a s))
      → OnDone P ((lift r >>= go) s)
  lifted Q s (Ok a) go q g = g a q
  lifted Q s (Err f) go q g = tt

  names_keep : (fn : Bool) (h : Holder) (f : Frame) → FrameFits o f
      → Keeping (given_names fn h f)
  names_keep fn (holder.Frame n) f g = λ s p. record {
    situation = p.situation;
    frames = set_all (FrameFits o) s.frames n f p.frames g;
    sent = p.sent;
  }
  names_keep fn (holder.Instance n) f g = acts_keep fn _ (λ s p. record {
    situation = written_well o n f s.situation g p.situation;
    frames = p.frames;
    sent = p.sent;
  })

  -- what may be stored where something is reached
  abbrev MayStore : Reached → Value → Type 0
  MayStore (Component p k) v = HasKind o p k × ((x : Value) → taken k v ≡ Ok x → Fits k x)
  MayStore (Module p zs) v = Unit {0}

  stores : (fn : Bool) (r : Reached) (v : Value) → MayStore r v → Keeping (stored fn r v)
  stores fn (Component p k) v h = λ s q.
      lifted (FrameFits o) s (names_written p k v s.situation s.frames) (given_names fn p.holder)
      (written_fits o steady s.situation s.frames q.situation.rows q.frames p k v h.0 h.1)
      (λ f g. names_keep fn p.holder f g s q)
  stores fn (Module p zs) v h = λ s q. tt

  may_store : (s : Selection) (r : Reached) (x : Yielded) (v : Value) → Reaches s r
      → is_given (selected_type s) (Some x) ≡ true → Y x v → MayStore r v
  may_store s (Module p zs) x v h g y = tt
  may_store (select.Component k) (Component p j) x v h g y = (
    h.1.has,
    λ w e. given_fits steady.sizes j v w x h.1.sized y
        (subst (λ z. is_assignable (type_of z) x ≡ true) h.0 g) e,
  )
  may_store (select.Value u) (Component p j) x v h g y = (
    h.1.has,
    λ w e. given_fits steady.sizes j v w x h.1.sized y
        (subst (λ z. is_assignable z x ≡ true) h.0 g) e,
  )
  may_store _ (Component p j) x v h g y = absurd (true≢false (sym g))

  -- the control variable of a loop
  abbrev IsControl : Reached → Type 0
  IsControl (Component p k) = HasKind o p k × (is_scalar k ≡ true)
  IsControl (Module p zs) = Unit {0}

  control_is : (s : Selection) (r : Reached) (x : Yielded) → Reaches s r
      → selected_type s ≡ Some x → is_ordinal x ≡ true → IsControl r
  control_is s (Module p zs) x h e i = tt
  control_is (select.Component k) (Component p j) x h e i =
      (h.1.has, ordinal_scalar j x (ap type_of (sym h.0) ∙ same_Some (type_of k) x e) i)
  control_is (select.Value u) (Component p j) x h e i =
      (h.1.has, ordinal_scalar j x (sym h.0 ∙ same_Some u x e) i)
  control_is _ (Component p j) x h e i = absurd (none-some x e)

  store_ordinal : (r : Reached) (z : ℤ) → IsControl r → MayStore r (value.Ordinal z)
  store_ordinal (Component p k) z h = (h.0, λ x e. taken_fit k z x e)
  store_ordinal (Module p zs) z h = tt

  store_undefined : (r : Reached) → IsControl r → MayStore r value.Undefined
  store_undefined (Component p k) h = (h.0, λ x e. undefined_fits k x h.1 e)
  store_undefined (Module p zs) h = tt

  framed_keeps : (f : Frame) (m : Does) → FrameFits o f → Keeping m → Keeping (framed f m)
  framed_keeps f m g h = both (opened f) (m >> closed)
      (λ s p. record {
        situation = p.situation;
        frames = joined_all (FrameFits o) s.frames (f ∷ []) p.frames (g, tt);
        sent = p.sent;
      })
      (both m closed h (λ s p. record {
        situation = p.situation;
        frames = taken_all (FrameFits o) (length s.frames - 1) s.frames p.frames;
        sent = p.sent;
      }))

  asks : (site : Site) (e : Expr) → Keeping (ordinal_of e site)
  asks site e = looks site (λ v. value_of e v >>= ordinal)

  -- LOOPS

  turns_keep : (n : ℕ) (c : State → Outcome State ℤ) (turn : Does) → Keeping c → Keeping turn
      → Keeping (turns n c turn)
  turns_keep zero c turn h g = λ s p. tt
  turns_keep (suc n) c turn h g =
      bind (turn_of c turn) (λ more. if more then turns n c turn else idle)
      (bind c (λ z. choose z (enter >> (turn >> give true)) (give false)) h
      (λ z. chooses z (enter >> (turn >> give true)) (give false)
      (both enter (turn >> give true) enters (both turn (give true) g (gives true)))
      (gives false)))
      (λ more. one_arm more (turns n c turn) idle (turns_keep n c turn h g) idles)

  repeats_keep : (n : ℕ) (turn : Does) (c : State → Outcome State ℤ) → Keeping turn
      → Keeping c → Keeping (repeats n turn c)
  repeats_keep zero turn c g h = λ s p. tt
  repeats_keep (suc n) turn c g h =
      both (enter >> turn) (c >>= λ z. choose z idle (repeats n turn c))
      (both enter turn enters g)
      (bind c (λ z. choose z idle (repeats n turn c)) h
      (λ z. chooses z idle (repeats n turn c) idles (repeats_keep n turn c g h)))

  turns_counted : (n : ℕ) (z step : ℤ) (turn : ℤ → Does) → ((y : ℤ) → Keeping (turn y))
      → Keeping (loop_counts n z step turn)
  turns_counted zero z step turn h = idles
  turns_counted (suc n) z step turn h =
      both (enter >> turn z) (loop_counts n (z +ℤ step) step turn)
      (both enter (turn z) enters (h z)) (turns_counted n (z +ℤ step) step turn h)

  turn_keeps : (p : ℕ) (x : Slot) (turn : Does) → FrameFits o (naming p x) → Keeping turn
      → Keeping (turn_for p x turn)
  turn_keeps p x turn g h =
      both enter (framed (naming p x) turn) enters (framed_keeps (naming p x) turn g h)

  for_each_keeps : (p : ℕ) (k : Kind) (zs : List ℤ) (turn : Does) → kind_at o p ≡ Some k
      → AllByRecursion (IsOrdinalOf k) zs → Keeping turn → Keeping (for_each p zs turn)
  for_each_keeps p k [] turn e g h = idles
  for_each_keeps p k (z ∷ zs) turn e g h =
      both (turn_for p (slot.Value (value.Ordinal z)) turn) (for_each p zs turn)
      (turn_keeps p (slot.Value (value.Ordinal z)) turn (
        (λ j i. subst (λ x. Fits x (value.Ordinal z)) (same_Some k j (sym e ∙ i))
            (ordinal_fits k z g.0)),
        tt,
      ) h)
      (for_each_keeps p k zs turn e g.1 h)

  for_child_keeps : (p n : ℕ) (turn : Does) → Keeping turn → Keeping (for_child p n turn)
  for_child_keeps p n turn h s = one_arm (lives s.situation n)
      (turn_for p (slot.Instance n) turn) idle
      (turn_keeps p (slot.Instance n) turn ((λ j i. tt), tt) h) idles s

  for_children_keep : (p : ℕ) (ns : List ℕ) (turn : Does) → Keeping turn
      → Keeping (for_children p ns turn)
  for_children_keep p [] turn h = idles
  for_children_keep p (n ∷ ns) turn h = both (for_child p n turn) (for_children p ns turn)
      (for_child_keeps p n turn h) (for_children_keep p ns turn h)

  over_children_keeps : (p : ℕ) (header : Option ℕ) (turn : Does) (site : Site) → Keeping turn
      → Keeping (over_children p header turn site)
  over_children_keeps p None turn site h = λ s g. tt
  over_children_keeps p (Some header) turn site h = λ s. for_children_keep p
      (children_of site.text.outline s.situation site.instance header) turn h s

  loop_is : (p : ℕ) → IsLoop o (head_in p (entry_at o p))
  loop_is p = by (select.head_in o p (entry_at o p)) (head_in p (entry_at o p))
      (entry_on o p (entry_at o p) refl)
    where
      by : (s : Selection) (h : Head) → OnHead o s h → IsLoop o h
      by s (Variable q k) g = g.0
      by s (Function q k) g = tt
      by s (Modules q) g = tt
      by s (Constant z) g = tt
      by s Nothing g = tt

  over_keeps : (x : Head) (turn : Does) (site : Site) → IsLoop o x → Keeping turn
      → Keeping (over x turn site)
  over_keeps (Variable p k) turn site g h = for_each_keeps p k (ordinals_of k) turn g
      (ordinals_are k) h
  over_keeps (Modules p) turn site g h =
      over_children_keeps p (header_at site.text.outline p) turn site h
  over_keeps Nothing turn site g h = λ s p. tt
  over_keeps (Constant z) turn site g h = λ s p. tt
  over_keeps (Function p d) turn site g h = λ s q. tt

  -- EXPRESSIONS

  -- what the statements keep that these begin
  abbrev pub Deep : Deeper → Type 0
  Deep d = (n : ℕ) (fn : Bool) (xs : List Statement) → IsFaultless o xs → Keeping (d n fn xs)

  -- the statements of an instance, within a function or not
  abbrev pub at : Bool → ℕ → Deeper → Site
  at fn n d = record { text = t; instance = n; function = fn; deeper = d }

  calls_fit : (d : Deeper) → Deep d → CallsFit t d
  calls_fit d deep p r n e s h = deep n true (statements_of r) (good.routines p r e) s h

  module _ (fn : Bool) (n : ℕ) (d : Deeper) (deep : Deep d) (s : State) (h : P s) where
    seen_value : (e : Expr) (x : Yielded) (l : ℕ) → expr_type o e ≡ Some x
        → Gives (Y x) (value_of e (view (at fn n d) s) l)
    seen_value e x l i = expr_yields (view (at fn n d) s) steady h.situation h.frames
        (calls_fit d deep) e x l i

    seen_variable : (u : Used) (path : List Selector) (x : Selection) (l : ℕ)
        → OnHead o x (head o u)
        → Gives (Reaches (types.selected o x path)) (variable_of u path (view (at fn n d) s) l)
    seen_variable u path x l i = variable_agrees (view (at fn n d) s) steady h.situation h.frames
        (calls_fit d deep) u path x l i

    seen_values : (es : List Expr) (p l : ℕ)
        → are_taken o (Some (receiver.Parameters p)) 0 es ≡ true
        → Gives (AreGivenFor o steady p) (values_in es [] (view (at fn n d) s) l)
    seen_values es p l i = values_in_given (view (at fn n d) s) steady h.situation h.frames
        (calls_fit d deep) es p 0 [] l refl (none_given o steady p) i

  -- CALLS AND INSTANCES

  performs : (fn : Bool) (n : ℕ) (d : Deeper) → Deep d → (name : Used) (arguments : List Expr)
      (loops : List ℕ) → IsCalled o loops name arguments
      → Keeping (performed name arguments (at fn n d))
  performs fn n d deep name arguments loops call =
      known_keeps (declared_at o name) _
      (λ p e s h. looked (at fn n d) (arguments_in arguments p []) _ (AreGivenFor o steady p) s h
      (arguments_given_to (view (at fn n d) s) steady h.situation h.frames (calls_fit d deep)
      arguments p 0 loops [] s.left refl (none_given o steady p)
      (subst (λ q. AreGivenTo o loops q 0 arguments)
      (same_declaration o sort.Procedure name call.0 p call.1 e) call.2))
      (λ xs l g k. known_keeps (routine_at t p) _
      (λ r i u w. lifted (FrameFits o) u (routine_frame o p xs) _
      (routine_given o steady p xs g)
      (λ f q. framed_keeps f (d n false (statements_of r)) q
      (deep n false (statements_of r) (good.routines p r i)) u w))
      (record s { left = l }) k))

  called : (f : Option ℕ) (loops : List ℕ) (name : Used) (es : List Expr) (place : ℕ)
      → function_faults f place ++ call_faults o f loops name es ≡ [] → IsCalled o loops name es
  called None loops name es place e = calls_full o loops name es whole e
  called (Some f) loops name es place e =
      not_broken place rule.NotInFunction (parted _ (call_faults o (Some f) loops name es) e).0

  initialized_keeps : (fn : Bool) (n : ℕ) (d : Deeper) → Deep d → (i : ℕ) (x : Option FirstPart)
      → ((f : FirstPart) → x ≡ Some f → IsFaultless o (first_statements f))
      → Keeping (initialized i x (at fn n d))
  initialized_keeps fn n d deep i None fits = idles
  initialized_keeps fn n d deep i (Some f) fits =
      let ps = places_of o sort.Variable (first_region f) in
      λ s h. lifted (FrameFits o) s (frame_of o ps []) _
      (frame_given o steady ps [] (nothing_given o steady ps))
      (λ frame q. both (framed frame (d i false (first_statements f)))
      (changes (λ s. Ok (first_reached o i f s)))
      (framed_keeps frame (d i false (first_statements f)) q
      (deep i false (first_statements f) (fits f refl)))
      (change (λ s. Ok (first_reached o i f s)) (λ s h. state_well o i (first_state o f) s h)) s h)

  begins : (fn : Bool) (n : ℕ) (d : Deeper) → Deep d → (target : Access) (body : Used)
      (arguments : List Expr) → init_faults o target body arguments ≡ []
      → Keeping (init_done target body arguments (at fn n d))
  begins fn n d deep target body arguments faults =
      bind (evaluated (at fn n d) (element_of target)) _ (looks (at fn n d) (element_of target))
      (λ x. by x (declared_at o body) refl)
    where
      header_is : (b h : ℕ) → header_at o b ≡ Some h
          → header_variables o b ≡ places_of o sort.Variable h
      header_is b h e = ap (λ y. unwrap_or (option_map (places_of o sort.Variable) y) []) e

      by : (x : Element) (b : Option ℕ) → declared_at o body ≡ b
          → Keeping (evaluated (at fn n d) (values_in arguments []) >>= λ xs.
          known b >>= λ b. known (body_at t b) >>= λ y.
          λ s. (changes (born t n x b xs)
          >> initialized s.situation.next (out-Body y).first (at fn n d)) s)
      by x None e = bind (evaluated (at fn n d) (values_in arguments [])) _
          (looks (at fn n d) (values_in arguments [])) (λ xs s h. tt)
      by x (Some b) e = let k = init_taken o target body arguments b whole faults e in
          λ s h. looked (at fn n d) (values_in arguments []) _ (AreGivenFor o steady k.0) s h
          (seen_values fn n d deep s h arguments k.0 s.left k.2)
          (λ xs l g p. known_keeps (body_at t b) _
          (λ y i u w. both (changes (born t n x b xs))
          (initialized u.situation.next (out-Body y).first (at fn n d))
          (change (born t n x b xs) (λ v q. born_well o t n x b xs v
          (frame_given o steady (variables_of o b) xs
          (subst (λ ps. MayGiveAll o steady (ps ++ places_of o sort.Variable b) xs)
          (sym (header_is b k.0 k.1))
          (arguments_given o steady k.0 (places_of o sort.Variable b) xs g))) q))
          (initialized_keeps fn n d deep u.situation.next (out-Body y).first
          (λ f j. good.initialize_parts b y f i j)) u w)
          (record s { left = l }) p)

  lets_go : (fn : Bool) (n : ℕ) (d : Deeper) (target : Access) → Keeping (let_go target (at fn n d))
  lets_go fn n d target =
      bind (evaluated (at fn n d) (child target)) _ (looks (at fn n d) (child target))
      (λ i. change (λ s. Ok (released t i s)) (λ s h. released_well o t i s h))

  -- OUTPUT

  item_fits : (x : Sending) (fn : Bool) (n : ℕ) (d : Deeper) (deep : Deep d) (s : State) (h : P s)
      (l : ℕ) → sending_faults o x ≡ [] → Gives (ItemFits o) (item_of x (view (at fn n d) s) l)
  item_fits x fn n d deep s h l faults =
      given_on (λ (p : InteractionPoint). declared_at o x.at.name ≡ Some p.declared) (ItemFits o)
      (own_point x.at (view (at fn n d) s) l) _
      (named_gives (λ (p : InteractionPoint). declared_at o x.at.name ≡ Some p.declared) x.at
      (λ p zs. give (point n p zs)) (view (at fn n d) s) l (λ p zs m e. e))
      (λ p m e. by p m (interaction_of o p.declared x.signal) refl e)
    where
      access : access_faults o sort.Point x.at ≡ []
      access = (parted (access_faults o sort.Point x.at) _ (parted (signal_faults o Sends x.at
          x.signal) _ faults).0).0

      by : (p : InteractionPoint) (m : ℕ) (c : Option ℕ)
          → interaction_of o p.declared x.signal ≡ c → declared_at o x.at.name ≡ Some p.declared
          → Gives (ItemFits o) ((values_in x.arguments [] (view (at fn n d) s) >>= λ xs.
          known c >>= λ c. lift (values_of o c xs) >>= λ vs.
          give (record { at = p; signal = c; values = vs })) m)
      by p m None i e = then_gives (ItemFits o)
          (values_in x.arguments [] (view (at fn n d) s) m) _ (λ xs j. tt)
      by p m (Some c) i e =
          let name = named o sort.Point x.at p.declared whole.full access e in
          given_on (λ xs. AreValues xs × AreGivenFor o steady c xs) (ItemFits o)
          (values_in x.arguments [] (view (at fn n d) s) m) _
          (both_given AreValues (AreGivenFor o steady c) _
          (arguments_are_values x.arguments [] (view (at fn n d) s) m tt)
          (seen_values fn n d deep s h x.arguments c m
          (sending_taken o x p.declared c whole faults name.means i)))
          (λ xs j q. lift_gives (ItemFits o) (AllZip Fits (kinds_in o (names_of o c)))
          (values_of o c xs) j _
          (item_values o steady whole.full c xs q.0
          (subst (λ ps. MayGiveAll o steady ps xs) (append_nil (places_of o sort.Variable c))
          (arguments_given o steady c [] xs q.1)))
          (λ vs y r. r))

  sends : (fn : Bool) (n : ℕ) (d : Deeper) (i : Item) (s : State) → ItemFits o i → P s
      → OnDone P (delivered (at fn n d) i s)
  sends fn n d i s h p =
      let w = sent_well o t i (record { situation = s.situation; outs = s.outs }) h
      (p.situation, p.sent) in
      record { situation = w.0; frames = p.frames; sent = w.1 }

  all_sent_keeps : (fn : Bool) (n : ℕ) (d : Deeper) → Deep d → (xs : List Sending)
      → flat_map (sending_faults o) xs ≡ [] → Keeping (all_sent xs (at fn n d))
  all_sent_keeps fn n d deep [] h = idles
  all_sent_keeps fn n d deep (x ∷ xs) h =
      let own = parted (sending_faults o x) (flat_map (sending_faults o) xs) h in
      both (evaluated (at fn n d) (item_of x) >>= delivered (at fn n d)) (all_sent xs (at fn n d))
      (λ s p. looked (at fn n d) (item_of x) (delivered (at fn n d)) (ItemFits o) s p
      (item_fits x fn n d deep s p s.left own.0)
      (λ i l q w. sends fn n d i (record s { left = l }) q w))
      (all_sent_keeps fn n d deep xs own.1)

  -- LINKS

  connects : (fn : Bool) (n : ℕ) (d : Deeper) (one other : EndPoint)
      → Keeping (linked (end_of one) (end_of other) (connected t) (at fn n d))
  connects fn n d one other =
      bind (evaluated (at fn n d) (end_of one)) _ (looks (at fn n d) (end_of one))
      (λ p. bind (evaluated (at fn n d) (end_of other)) _ (looks (at fn n d) (end_of other))
      (λ q. change (connected t p q) (λ s h. connected_well o t p q s h)))

  attaches : (fn : Bool) (n : ℕ) (d : Deeper) (own target point : Access)
      → Keeping (linked (own_point own) (child_point target point) (attached t) (at fn n d))
  attaches fn n d own target point =
      bind (evaluated (at fn n d) (own_point own)) _ (looks (at fn n d) (own_point own))
      (λ p. bind (evaluated (at fn n d) (child_point target point)) _
      (looks (at fn n d) (child_point target point))
      (λ q. change (attached t p q) (λ s h. attached_well o t p q s h)))

  each_well : (m : InteractionPoint → Situation → Situation)
      → ((p : InteractionPoint) (s : Situation) → SituationFits o s → SituationFits o (m p s))
      → (ps : List InteractionPoint) (s : Situation) → SituationFits o s
      → SituationFits o (each m ps s)
  each_well m h [] s g = g
  each_well m h (p ∷ ps) s g = each_well m h ps (m p s) (h p s g)

  unlinks : (fn : Bool) (n : ℕ) (d : Deeper) (x : EndPoint)
      (m : InteractionPoint → Situation → Situation)
      → ((p : InteractionPoint) (s : Situation) → SituationFits o s → SituationFits o (m p s))
      → Keeping (unlinked x m (at fn n d))
  unlinks fn n d x m h =
      bind (evaluated (at fn n d) (ends_of x.first x.second)) _
      (looks (at fn n d) (ends_of x.first x.second))
      (λ ps. change (λ s. Ok (each m ps s)) (λ s g. each_well m h ps s g))

  -- ASSIGNMENTS AND LOOPS

  assigns : (fn : Bool) (n : ℕ) (d : Deeper) → Deep d → (f : Option ℕ) (loops : List ℕ) (u : Used)
      (path : List Selector) (e : Expr) → assign_faults o f loops u path e ≡ []
      → Keeping (assigned u path e (at fn n d))
  assigns fn n d deep f loops u path e faults s h =
      let g = assigned_full o f loops u path e whole faults in
      let x = given_some (selected_type (path_target o f loops u path)) (expr_type o e) g in
      looked (at fn n d) (variable_of u path) _ (Reaches (path_target o f loops u path)) s h
      (seen_variable fn n d deep s h u path (target o f loops u) s.left (target_on o f loops u))
      (λ r l q p. looked (at fn n d) (value_of e) (stored fn r) (Y x.0) (record s { left = l }) p
      (seen_value fn n d deep (record s { left = l }) p e x.0 l x.1)
      (λ v m y w. stores fn r v (may_store (path_target o f loops u path) r x.0 v q
      (subst (λ z. is_given (selected_type (path_target o f loops u path)) z ≡ true) x.1 g) y)
      (record s { left = m }) w))

  control_keeps : (fn : Bool) (n : ℕ) (d : Deeper) → Deep d → (f : Option ℕ) (loops : List ℕ)
      (name : Used) (first last : Expr) (down : Bool) (turn : Does)
      → for_faults o f loops name first last ≡ [] → Keeping turn
      → Keeping (controlled name first down last turn (at fn n d))
  control_keeps fn n d deep f loops name first last down turn faults h s p =
      let g = (loops_full o f loops name first last whole faults).0 in
      let c = target_some (kept wanted.Ordinal (control_type o f loops name)) (expr_type o first) g
      in
      let k = kept_taken wanted.Ordinal (control_type o f loops name) c.0 c.1 in
      looked (at fn n d) (variable_of name []) _ (Reaches (target o f loops name)) s p
      (seen_variable fn n d deep s p name [] (target o f loops name) s.left
      (target_on o f loops name))
      (λ r l q w. let is = control_is (target o f loops name) r c.0 q k.0 k.1 in
      bind (ordinal_of first (at fn n d)) _ (asks (at fn n d) first)
      (λ x. bind (ordinal_of last (at fn n d)) _ (asks (at fn n d) last)
      (λ y. both (loop_counts (distance down x y) x (step down)
      (λ z. stored fn r (value.Ordinal z) >> turn)) (stored fn r value.Undefined)
      (turns_counted (distance down x y) x (step down)
      (λ z. stored fn r (value.Ordinal z) >> turn)
      (λ z. both (stored fn r (value.Ordinal z)) turn
      (stores fn r (value.Ordinal z) (store_ordinal r z is)) h))
      (stores fn r value.Undefined (store_undefined r is)))) (record s { left = l }) w)

  -- STATEMENTS

  -- the statements of a row or a box break no rule
  abbrev Faultless : Option ℕ → List ℕ → {m : _} → Row_of-Statement m → Type 0
  Faultless f loops row = rules.row_statements t.outline f loops row ≡ []

  mutual
    body_keeps : (x : Statement) (f : Option ℕ) (loops : List ℕ) (fn : Bool) (n : ℕ) (d : Deeper)
        → Deep d → statement_faults t.outline f loops x ≡ [] → Keeping (body_of x (at fn n d))
    body_keeps (statement.Empty place) f loops fn n d deep e = idles
    body_keeps (statement.Compound' a turn place) f loops fn n d deep e =
        row_keeps turn f loops fn n d deep e
    body_keeps (statement.Assign target path v place) f loops fn n d deep e =
        assigns fn n d deep f loops target path v e
    body_keeps (statement.Call name arguments place) f loops fn n d deep e =
        acts_keep fn (performed name arguments (at fn n d))
        (performs fn n d deep name arguments loops (called f loops name arguments place e))
    body_keeps (statement.If' c a first second place) f loops fn n d deep e =
        let own = three _ (box_statement t.outline f loops first)
        (rules.held_statement t.outline f loops second) e in
        bind (ordinal_of c (at fn n d)) _ (asks (at fn n d) c)
        (λ z. chooses z (row_statement first (at fn n d)) (held_statement second (at fn n d))
        (boxed_keeps first f loops fn n d deep own.1) (held_keeps second f loops fn n d deep own.2))
    body_keeps (statement.Case' v a arms place) f loops fn n d deep e =
        bind (ordinal_of v (at fn n d)) _ (asks (at fn n d) v)
        (λ z. arms_keep arms z f loops _ _ fn n d deep
        (parted _ (rules.row_arms t.outline f loops _ [] arms) e).1)
    body_keeps (statement.While' c a turn place) f loops fn n d deep e = λ s.
        turns_keep _ (ordinal_of c (at fn n d)) (row_statement turn (at fn n d))
        (asks (at fn n d) c) (boxed_keeps turn f loops fn n d deep
        (parted _ (box_statement t.outline f loops turn) e).1) s
    body_keeps (statement.Repeat' a turn until place) f loops fn n d deep e = λ s.
        repeats_keep _ (row_statements turn (at fn n d)) (ordinal_of until (at fn n d))
        (row_keeps turn f loops fn n d deep
        (parted (rules.row_statements t.outline f loops turn) _ e).0) (asks (at fn n d) until) s
    body_keeps (statement.For' name first down last a turn place) f loops fn n d deep e =
        let loops' = rules.within_loop t.outline loops name in
        let own = parted (for_faults o f loops name first last)
        (box_statement t.outline f loops' turn) e in
        control_keeps fn n d deep f loops name first last down (row_statement turn (at fn n d))
        own.0
        (boxed_keeps turn f loops' fn n d deep own.1)
    body_keeps (statement.All' name text a turn place) f loops fn n d deep e =
        over_keeps (head_in name.place (entry_at t.outline name.place))
        (row_statement turn (at fn n d)) (at fn n d) (loop_is name.place)
        (boxed_keeps turn f loops fn n d deep (parted _ (box_statement t.outline f loops turn) e).1)
    body_keeps (statement.Output sendings place) f loops fn n d deep e =
        acts_keep fn (all_sent sendings (at fn n d)) (all_sent_keeps fn n d deep sendings
        (parted (function_faults f place) (flat_map (sending_faults t.outline) sendings) e).1)
    body_keeps (statement.Init target body arguments place) f loops fn n d deep e =
        acts_keep fn (init_done target body arguments (at fn n d))
        (begins fn n d deep target body arguments
        (parted (function_faults f place) (init_faults o target body arguments) e).1)
    body_keeps (statement.Release target place) f loops fn n d deep e =
        acts_keep fn (let_go target (at fn n d)) (lets_go fn n d target)
    body_keeps (statement.Connect one other place) f loops fn n d deep e =
        acts_keep fn (linked (end_of one) (end_of other) (connected t) (at fn n d))
        (connects fn n d one other)
    body_keeps (statement.Disconnect end place) f loops fn n d deep e =
        acts_keep fn (unlinked end disconnected (at fn n d))
        (unlinks fn n d end disconnected (λ p s h. disconnected_well o t p s h))
    body_keeps (statement.Attach own target point place) f loops fn n d deep e =
        acts_keep fn (linked (own_point own) (child_point target point) (attached t) (at fn n d))
        (attaches fn n d own target point)
    body_keeps (statement.Detach end place) f loops fn n d deep e =
        acts_keep fn (unlinked end (detached_end t n) (at fn n d))
        (unlinks fn n d end (detached_end t n) (λ p s h. end_well o t n p s h))

    boxed_keeps : {m : _} (row : Row_of-Statement m) (f : Option ℕ) (loops : List ℕ) (fn : Bool)
        (n : ℕ) (d : Deeper) → Deep d → box_statement t.outline f loops row ≡ []
        → Keeping (row_statement row (at fn n d))
    boxed_keeps end_of-Statement f loops fn n d deep e = idles
    boxed_keeps (more_of-Statement x rest) f loops fn n d deep e =
        both enter (body_of x (at fn n d)) enters (body_keeps x f loops fn n d deep e)

    held_keeps : (x : Held-Statement-If-2) (f : Option ℕ) (loops : List ℕ) (fn : Bool) (n : ℕ)
        (d : Deeper) → Deep d → rules.held_statement t.outline f loops x ≡ []
        → Keeping (held_statement x (at fn n d))
    held_keeps block.None' f loops fn n d deep e = idles
    held_keeps (block.Some' a row) f loops fn n d deep e = boxed_keeps row f loops fn n d deep e

    row_keeps : {m : _} (row : Row_of-Statement m) (f : Option ℕ) (loops : List ℕ) (fn : Bool)
        (n : ℕ) (d : Deeper) → Deep d → Faultless f loops row
        → Keeping (row_statements row (at fn n d))
    row_keeps end_of-Statement f loops fn n d deep e = idles
    row_keeps (more_of-Statement x rest) f loops fn n d deep e =
        let own = parted (statement_faults t.outline f loops x)
        (rules.row_statements t.outline f loops rest) e in
        both (enter >> body_of x (at fn n d)) (row_statements rest (at fn n d))
        (both enter (body_of x (at fn n d)) enters (body_keeps x f loops fn n d deep own.0))
        (row_keeps rest f loops fn n d deep own.1)

    arms_keep : {m : _} (row : Row_of-Arm m) (z : ℤ) (f : Option ℕ) (loops : List ℕ)
        (host : Option Host) (seen : Chosen) (fn : Bool) (n : ℕ) (d : Deeper) → Deep d
        → rules.row_arms t.outline f loops host seen row ≡ [] → Keeping (row_arms row z (at fn n d))
    arms_keep end_of-Arm z f loops host seen fn n d deep e = λ s p. tt
    arms_keep (more_of-Arm constants x rest) z f loops host seen fn n d deep e =
        let own = parted _ (rules.row_arms t.outline f loops host _ rest) e in
        one_arm (is_chosen t.outline constants z) (enter >> body_of x (at fn n d))
        (row_arms rest z (at fn n d))
        (both enter (body_of x (at fn n d)) enters
        (body_keeps x f loops fn n d deep
        (parted _ (statement_faults t.outline f loops x) own.0).1))
        (arms_keep rest z f loops host _ fn n d deep own.1)

  -- statements in order
  statements_keep : (xs : List Statement) (f : Option ℕ) (loops : List ℕ) (fn : Bool) (n : ℕ)
      (d : Deeper) → Deep d → flat_map (statement_faults t.outline f loops) xs ≡ []
      → Keeping (statements_in xs (at fn n d))
  statements_keep [] f loops fn n d deep e = idles
  statements_keep (x ∷ xs) f loops fn n d deep e =
      let own = parted (statement_faults t.outline f loops x)
      (flat_map (statement_faults t.outline f loops) xs) e in
      both (enter >> body_of x (at fn n d)) (statements_in xs (at fn n d))
      (both enter (body_of x (at fn n d)) enters (body_keeps x f loops fn n d deep own.0))
      (statements_keep xs f loops fn n d deep own.1)

  -- WITHIN ONE ANOTHER

  within_keeps : (levels : ℕ) → Deep (within levels t)
  within_keeps zero n fn xs h = λ s p. tt
  within_keeps (suc levels) n fn xs h =
      statements_keep xs h.0 [] fn n (within levels t) (within_keeps levels) h.1

  pub block_keeps : (levels n : ℕ) (fn : Bool) (xs : List Statement) → IsFaultless o xs
      → Keeping (statements_in xs (site t n fn levels))
  block_keeps levels n fn xs h =
      statements_keep xs h.0 [] fn n (within levels t) (within_keeps levels) h.1

  pub calls_keep : (levels : ℕ) → CallsFit t (within levels t)
  calls_keep levels = calls_fit (within levels t) (within_keeps levels)
