-- The blocks of a specification that breaks no rule send what their interaction points send, and
-- join interaction points of one side.
use Rattle.std.proofs.Common.{◌≡◌, refl, ℕ, zero, suc, Bool, true, false}
use Rattle.std.proofs.Common.{List, [], ◌∷◌, Option, Some, None, Result, Ok, Err}
use Rattle.std.specs.Prelude.{ℤ, if◌then◌else◌, ◌+ℤ◌, flat_map}
use Rattle.std.specs.List.{AllByRecursion}
use Rattle.est_syntax.specs.declared.body.Body.{out-Body}
use Rattle.est_syntax.specs.declared.body.FirstPart.{FirstPart}
use Rattle.est_syntax.specs.declared.expression.Access.{Access}
use Rattle.est_syntax.specs.declared.expression.EndPoint.{EndPoint}
use Rattle.est_syntax.specs.declared.expression.Expr.{Expr}
use Rattle.est_syntax.specs.declared.name.Used.{Used}
use Rattle.est_syntax.specs.declared.statement.Sending.{Sending}
use Rattle.est_syntax.specs.declared.statement.Statement.{Statement, Row_of-Statement}
use Rattle.est_syntax.specs.declared.statement.Statement.{end_of-Statement, more_of-Statement}
use Rattle.est_syntax.specs.declared.statement.Statement.{Held-Statement-If-2}
use Rattle.est_syntax.specs.declared.statement.Statement.{Row_of-Arm, end_of-Arm, more_of-Arm}
use Rattle.est_syntax.specs.declared.statement.Statement.TheBlock as block
use Rattle.est_syntax.specs.declared.statement.Statement.TheVariants as statement
use Rattle.est_values.specs.declared.value.Value.{Value}
use Rattle.est_values.specs.declared.value.Value.TheVariants as value
use Rattle.est_values.specs.OrdinalTuples.{ordinals_of}
use Rattle.rule_scope.specs.declared.declaration.Sort.TheVariants as sort
use Rattle.rule_scope.specs.Outline.{entry_at}
use Rattle.est_values.specs.declared.types.Host.{Host}
use Rattle.rule_statements.specs.Cases.{Chosen}
use Rattle.rule_statements.specs.LinkFaults.{attach_faults}
use Rattle.rule_statements.specs.Signals.{sending_faults}
use Rattle.rule_statements.specs.Statements.{statement_faults, box_statement}
use Rattle.rule_statements.specs.Statements as rules
use Rattle.mean_blocks.specs.declared.fault.BlockFault.{BlockFault}
use Rattle.mean_blocks.specs.declared.frame.Holder.{Holder}
use Rattle.mean_blocks.specs.declared.frame.Holder.TheVariants as holder
use Rattle.mean_blocks.specs.declared.frame.Slot.{Slot}
use Rattle.mean_blocks.specs.declared.frame.Slot.TheVariants as slot
use Rattle.mean_blocks.specs.declared.situation.InteractionPoint.{InteractionPoint}
use Rattle.mean_blocks.specs.declared.situation.Item.{Item}
use Rattle.mean_blocks.specs.Outcome.{Outcome, Done, Fault, Limit, onward, ◌>>=◌, ◌>>◌, give}
use Rattle.mean_blocks.specs.Outcome.{lift, known, counted}
use Rattle.mean_blocks.specs.GlobalSituation.{Frame, Situation, lives}
use Rattle.mean_blocks.specs.Frames.{names_written}
use Rattle.mean_blocks.specs.OrdinalOperators.{is_true}
use Rattle.mean_blocks.specs.TextByPlace.{Text, routine_at, statements_of, body_at, first_region}
use Rattle.mean_blocks.specs.TextByPlace.{first_statements}
use Rattle.mean_blocks.specs.NamesInRuns.{Head, Nothing, Constant, Function, Variable, Modules}
use Rattle.mean_blocks.specs.NamesInRuns.{head_in, header_at, declared_at, places_of, dims_at}
use Rattle.mean_blocks.specs.NamesInRuns.{declared_in_header, interaction_of}
use Rattle.mean_blocks.specs.WorkingState.{State, Site, View, Counts, Does, Deeper, view}
use Rattle.mean_blocks.specs.WorkingState.{counting}
use Rattle.mean_blocks.specs.WorkingState.{evaluated, enter, changed_by, changes}
use Rattle.mean_blocks.specs.ValueOperators.{choose, ordinal}
use Rattle.mean_blocks.specs.ReachedVariables.{Reached, Component, Module, child_of}
use Rattle.mean_blocks.specs.FunctionCalls.{routine_frame, frame_of}
use Rattle.mean_blocks.specs.ExpressionValues.{value_of, variable_of, values_in, arguments_in}
use Rattle.mean_blocks.specs.ExpressionValues.{subscripts_in}
use Rattle.mean_blocks.specs.InstancePoints.{children_of, own_point, child, child_point, end_of}
use Rattle.mean_blocks.specs.InstancePoints.{ends_of, point}
use Rattle.mean_blocks.specs.LinkEffects.{connected, attached, disconnected, detached_end, each}
use Rattle.mean_blocks.specs.InstanceEffects.{born, released}
use Rattle.mean_blocks.specs.WriteEffects.{ordinal_of, opened, closed, framed}
use Rattle.mean_blocks.specs.WriteEffects.{given_names, stored}
use Rattle.mean_blocks.specs.LoopEffects.{turn_of, turns, repeats, counts, distance, step, naming}
use Rattle.mean_blocks.specs.LoopEffects.{turn_for, for_each, for_child, for_children}
use Rattle.mean_blocks.specs.LoopEffects.{over_children, over}
use Rattle.mean_blocks.specs.StatementEffects.{performed, is_chosen, item_of, delivered, all_sent}
use Rattle.mean_blocks.specs.StatementEffects.{first_reached, initialized, element_of, init_done}
use Rattle.mean_blocks.specs.StatementEffects.{let_go, linked, unlinked, body_of, values_of}
use Rattle.mean_blocks.specs.StatementEffects.{row_statement, held_statement, row_statements}
use Rattle.mean_blocks.specs.StatementEffects.{row_arms, statements_in}
use Rattle.mean_blocks.specs.BlockLevels.{within, site}
use Rattle.law_runs.specs.UpkeepLaws.{OnDone}
use Rattle.law_runs.proofs.GivenThings.{Gives, OnGood, then_gives, lift_gives, named_gives}
use Rattle.law_runs.proofs.GivenThings.{given_on}
use Rattle.law_sentences.specs.Full.{AreFull}
use Rattle.law_sentences.proofs.NoFaults.{parted}
use Rattle.law_sentences.proofs.NotBroken.{three}
use Rattle.law_values.specs.SentInteractions.{HaveOneSide, IsSent}
use Rattle.law_values.proofs.Climbs.{crossed_sent}
use Rattle.law_values.proofs.FaultlessBlocks.{IsFaultless, FaultlessBlocks}
use Rattle.law_values.proofs.JoinedLinks.{Joined, connected_joined}
use Rattle.law_values.proofs.JoinedLinks.{attached_joined, disconnected_joined, end_joined}
use Rattle.law_values.proofs.JoinedLinks.{released_joined, born_joined}
use Rattle.law_values.proofs.NamedEnds.{output_sends, attach_joins}
use Rattle.law_values.proofs.TakenArguments.{AreValues, arguments_are_values, arguments_taken}

-- what is known is what is given
known_gives : {S A B : Type 0} (Q : B → Type 0) (r : Option A) (u : S) (go : A → S → Outcome S B)
    → ((a : A) (w : S) → r ≡ Some a → Gives Q (go a w)) → Gives Q ((known r >>= go) u)
known_gives Q (Some a) u go h = h a u refl
known_gives Q None u go h = tt

module _ (t : Text) (full : AreFull t.outline) (good : FaultlessBlocks t) where
  -- two interaction points have one side
  abbrev R : InteractionPoint → InteractionPoint → Type 0
  R p q = HaveOneSide t.outline p q

  -- attachments join interaction points of one side, and what left was sent there
  abbrev pub P : State → Type 0
  P s = Joined R s.situation × AllByRecursion (IsSent t.outline) s.outs

  abbrev pub Keeping : {A : Type 0} → (State → Outcome State A) → Type 0
  Keeping m = (s : State) → P s → OnDone P (m s)

  -- OUTCOMES

  onward_keeps : {A B : Type 0} (x : Outcome State A) (go : A → State → Outcome State B)
      → OnDone P x → ((a : A) → Keeping (go a)) → OnDone P (onward x go)
  onward_keeps (Done a u) go h g = g a u h
  onward_keeps (Fault f) go h g = tt
  onward_keeps Limit go h g = tt

  bind : {A B : Type 0} (m : State → Outcome State A) (go : A → State → Outcome State B)
      → Keeping m → ((a : A) → Keeping (go a)) → Keeping (m >>= go)
  bind m go h g s p = onward_keeps (m s) go (h s p) g

  both : {A B : Type 0} (m : State → Outcome State A) (n : State → Outcome State B)
      → Keeping m → Keeping n → Keeping (m >> n)
  both m n h g s p = onward_keeps (m s) (λ _. n) (h s p) (λ _. g)

  counting_keeps : {A : Type 0} (s : State) (x : Outcome ℕ A) → P s → OnDone P (counting s x)
  counting_keeps s (Done a n) h = h
  counting_keeps s (Fault f) h = tt
  counting_keeps s Limit h = tt

  looks : {A : Type 0} (site : Site) (m : View → Counts A) → Keeping (evaluated site m)
  looks site m s h = counting_keeps s (m (view site s) s.left) h

  -- what is known of a thing that is looked at
  counted_keeps : {A B : Type 0} (s : State) (x : Outcome ℕ A) (go : A → State → Outcome State B)
      (Q : A → Type 0) → Gives Q x
      → ((a : A) (l : ℕ) → Q a → OnDone P (go a (record s { left = l })))
      → OnDone P (onward (counting s x) go)
  counted_keeps s (Done a l) go Q q g = g a l q
  counted_keeps s (Fault f) go Q q g = tt
  counted_keeps s Limit go Q q g = tt

  looked : {A B : Type 0} (site : Site) (m : View → Counts A) (go : A → State → Outcome State B)
      (Q : A → Type 0) (s : State) → Gives Q (m (view site s) s.left)
      → ((a : A) (l : ℕ) → Q a → OnDone P (go a (record s { left = l })))
      → OnDone P ((evaluated site m >>= go) s)
  looked site m go Q s q g = counted_keeps s (m (view site s) s.left) go Q q g

  enters : Keeping enter
  enters s h = counting_keeps s (counted s.left) h

  gives : {A : Type 0} (a : A) → Keeping (give a)
  gives a s h = h

  abbrev idle : Does
  idle = give tt

  idles : Keeping idle
  idles s h = h

  lifts : {A : Type 0} (r : Result A BlockFault) → Keeping (lift r)
  lifts (Ok a) s h = h
  lifts (Err f) s h = tt

  knowns : {A : Type 0} (r : Option A) → Keeping (known r)
  knowns (Some a) s h = h
  knowns None s h = tt

  known_keeps : {A : Type 0} (r : Option A) (go : A → Does)
      → ((a : A) → r ≡ Some a → Keeping (go a)) → Keeping (known r >>= go)
  known_keeps (Some a) go h = λ s g. h a refl s g
  known_keeps None go h = λ s g. tt

  one_arm : {A : Type 0} (c : Bool) (m n : State → Outcome State A) → Keeping m → Keeping n
      → Keeping (if c then m else n)
  one_arm true m n h g = h
  one_arm false m n h g = g

  chooses : {A : Type 0} (z : ℤ) (m n : State → Outcome State A) → Keeping m → Keeping n
      → Keeping (choose z m n)
  chooses z m n h g = one_arm (is_true z) m n h g

  -- CHANGES

  changed_keeps : (s : State) (r : Result Situation BlockFault) → P s → OnGood (Joined R) r
      → OnDone P (changed_by s r)
  changed_keeps s (Ok u) p h = (h, p.1)
  changed_keeps s (Err f) p h = tt

  change : (m : Situation → Result Situation BlockFault)
      → ((s : Situation) → Joined R s → OnGood (Joined R) (m s)) → Keeping (changes m)
  change m h s p = changed_keeps s (m s.situation) p (h s.situation p.0)

  names_keep : (h : Holder) (f : Frame) → Keeping (given_names false h f)
  names_keep (holder.Frame n) f = λ s p. p
  names_keep (holder.Instance n) f = λ s p. p

  stores : (r : Reached) (v : Value) → Keeping (stored false r v)
  stores (Component p d) v = λ s.
      bind (lift (names_written p d v s.situation s.frames)) (given_names false p.holder)
      (lifts (names_written p d v s.situation s.frames)) (λ f. names_keep p.holder f) s
  stores (Module p zs) v = λ s h. tt

  framed_keeps : (f : Frame) (m : Does) → Keeping m → Keeping (framed f m)
  framed_keeps f m h = both (opened f) (m >> closed) (λ s p. p) (both m closed h (λ s p. p))

  asks : (site : Site) (e : Expr) → Keeping (ordinal_of e site)
  asks site e = looks site (λ v. value_of e v >>= ordinal)

  -- LOOPS

  turns_keep : (n : ℕ) (c : State → Outcome State ℤ) (turn : Does) → Keeping c → Keeping turn
      → Keeping (turns n c turn)
  turns_keep zero c turn h g = λ s p. tt
  turns_keep (suc n) c turn h g =
      bind (turn_of c turn) (λ more. if more then turns n c turn else idle)
      (bind c (λ z. choose z (enter >> (turn >> give true)) (give false)) h
      (λ z. chooses z (enter >> (turn >> give true)) (give false)
      (both enter (turn >> give true) enters (both turn (give true) g (gives true)))
      (gives false)))
      (λ more. one_arm more (turns n c turn) idle (turns_keep n c turn h g) idles)

  repeats_keep : (n : ℕ) (turn : Does) (c : State → Outcome State ℤ) → Keeping turn
      → Keeping c → Keeping (repeats n turn c)
  repeats_keep zero turn c g h = λ s p. tt
  repeats_keep (suc n) turn c g h =
      both (enter >> turn) (c >>= λ z. choose z idle (repeats n turn c))
      (both enter turn enters g)
      (bind c (λ z. choose z idle (repeats n turn c)) h
      (λ z. chooses z idle (repeats n turn c) idles (repeats_keep n turn c g h)))

  counts_keep : (n : ℕ) (z step : ℤ) (turn : ℤ → Does) → ((y : ℤ) → Keeping (turn y))
      → Keeping (counts n z step turn)
  counts_keep zero z step turn h = idles
  counts_keep (suc n) z step turn h =
      both (enter >> turn z) (counts n (z +ℤ step) step turn)
      (both enter (turn z) enters (h z)) (counts_keep n (z +ℤ step) step turn h)

  turn_keeps : (p : ℕ) (x : Slot) (turn : Does) → Keeping turn → Keeping (turn_for p x turn)
  turn_keeps p x turn h =
      both enter (framed (naming p x) turn) enters (framed_keeps (naming p x) turn h)

  for_each_keeps : (p : ℕ) (zs : List ℤ) (turn : Does) → Keeping turn
      → Keeping (for_each p zs turn)
  for_each_keeps p [] turn h = idles
  for_each_keeps p (z ∷ zs) turn h =
      both (turn_for p (slot.Value (value.Ordinal z)) turn) (for_each p zs turn)
      (turn_keeps p (slot.Value (value.Ordinal z)) turn h) (for_each_keeps p zs turn h)

  for_child_keeps : (p n : ℕ) (turn : Does) → Keeping turn → Keeping (for_child p n turn)
  for_child_keeps p n turn h s = one_arm (lives s.situation n)
      (turn_for p (slot.Instance n) turn) idle (turn_keeps p (slot.Instance n) turn h) idles s

  for_children_keep : (p : ℕ) (ns : List ℕ) (turn : Does) → Keeping turn
      → Keeping (for_children p ns turn)
  for_children_keep p [] turn h = idles
  for_children_keep p (n ∷ ns) turn h = both (for_child p n turn) (for_children p ns turn)
      (for_child_keeps p n turn h) (for_children_keep p ns turn h)

  over_children_keeps : (p : ℕ) (header : Option ℕ) (turn : Does) (site : Site) → Keeping turn
      → Keeping (over_children p header turn site)
  over_children_keeps p None turn site h = λ s g. tt
  over_children_keeps p (Some header) turn site h = λ s. for_children_keep p
      (children_of site.text.outline s.situation site.instance header) turn h s

  over_keeps : (x : Head) (turn : Does) (site : Site) → Keeping turn → Keeping (over x turn site)
  over_keeps (Variable p d) turn site h = for_each_keeps p (ordinals_of d) turn h
  over_keeps (Modules p) turn site h =
      over_children_keeps p (header_at site.text.outline p) turn site h
  over_keeps Nothing turn site h = λ s g. tt
  over_keeps (Constant z) turn site h = λ s g. tt
  over_keeps (Function p d) turn site h = λ s g. tt

  -- CALLS AND INSTANCES

  -- what the statements keep that these begin
  abbrev pub Deep : Deeper → Type 0
  Deep d = (n : ℕ) (xs : List Statement) → IsFaultless t.outline xs → Keeping (d n false xs)

  -- the statements of an instance
  abbrev pub at : ℕ → Deeper → Site
  at n d = record { text = t; instance = n; function = false; deeper = d }

  performs : (n : ℕ) (d : Deeper) → Deep d → (name : Used) (arguments : List Expr)
      → Keeping (performed name arguments (at n d))
  performs n d deep name arguments =
      bind (known (declared_at t.outline name)) _ (knowns (declared_at t.outline name))
      (λ p. bind (evaluated (at n d) (arguments_in arguments p [])) _
      (looks (at n d) (arguments_in arguments p []))
      (λ xs. known_keeps (routine_at t p) _
      (λ r e. bind (lift (routine_frame t.outline p xs)) _ (lifts (routine_frame t.outline p xs))
      (λ f. framed_keeps f (d n false (statements_of r))
      (deep n (statements_of r) (good.routines p r e))))))

  initialized_keeps : (n : ℕ) (d : Deeper) → Deep d → (i : ℕ) (x : Option FirstPart)
      → ((f : FirstPart) → x ≡ Some f → IsFaultless t.outline (first_statements f))
      → Keeping (initialized i x (at n d))
  initialized_keeps n d deep i None fits = idles
  initialized_keeps n d deep i (Some f) fits =
      let ps = places_of t.outline sort.Variable (first_region f) in
      bind (lift (frame_of t.outline ps [])) _ (lifts (frame_of t.outline ps []))
      (λ frame. both (framed frame (d i false (first_statements f)))
      (changes (λ s. Ok (first_reached t.outline i f s)))
      (framed_keeps frame (d i false (first_statements f))
      (deep i (first_statements f) (fits f refl)))
      (change (λ s. Ok (first_reached t.outline i f s)) (λ s h. h)))

  begins : (n : ℕ) (d : Deeper) → Deep d → (target : Access) (body : Used)
      (arguments : List Expr) → Keeping (init_done target body arguments (at n d))
  begins n d deep target body arguments =
      bind (evaluated (at n d) (element_of target)) _ (looks (at n d) (element_of target))
      (λ x. bind (evaluated (at n d) (values_in arguments [])) _
      (looks (at n d) (values_in arguments []))
      (λ xs. bind (known (declared_at t.outline body)) _ (knowns (declared_at t.outline body))
      (λ p. known_keeps (body_at t p) _
      (λ y e s. both (changes (born t n x p xs))
      (initialized s.situation.next (out-Body y).first (at n d))
      (change (born t n x p xs) (λ u h. born_joined R t n x p xs u h))
      (initialized_keeps n d deep s.situation.next (out-Body y).first
      (λ f k. good.initialize_parts p y f e k)) s))))

  lets_go : (n : ℕ) (d : Deeper) (target : Access) → Keeping (let_go target (at n d))
  lets_go n d target = bind (evaluated (at n d) (child target)) _ (looks (at n d) (child target))
      (λ i. change (λ s. Ok (released t i s)) (λ s h. released_joined R t i s h))

  -- OUTPUT

  own_named : (a : Access) (n : ℕ) (d : Deeper) (s : State) (l : ℕ)
      → Gives (λ (p : InteractionPoint). declared_at t.outline a.name ≡ Some p.declared)
      (own_point a (view (at n d) s) l)
  own_named a n d s l = named_gives
      (λ (p : InteractionPoint). declared_at t.outline a.name ≡ Some p.declared) a
      (λ p zs. give (point n p zs)) (view (at n d) s) l (λ p zs m e. e)

  item_sent : (x : Sending) (n : ℕ) (d : Deeper) (s : State) (l : ℕ)
      → sending_faults t.outline x ≡ [] → Gives (IsSent t.outline) (item_of x (view (at n d) s) l)
  item_sent x n d s l h = let v = view (at n d) s in let o = t.outline in
      given_on (λ (p : InteractionPoint). declared_at o x.at.name ≡ Some p.declared) (IsSent o)
      (own_point x.at v l) _ (own_named x.at n d s l)
      (λ p m e. given_on AreValues (IsSent o) (values_in x.arguments [] v m) _
      (arguments_are_values x.arguments [] v m tt)
      (λ xs u q. known_gives (IsSent o) (interaction_of o p.declared x.signal) u _
      (λ c w k. lift_gives (IsSent o) _ (values_of o c xs) w _ (arguments_taken o full c xs q)
      (λ vs y r. record { sends = output_sends o x p.declared c full h e k; values = r }))))

  sends : (n : ℕ) (d : Deeper) (i : Item) (s : State) → IsSent t.outline i → P s
      → OnDone P (delivered (at n d) i s)
  sends n d i s h p = crossed_sent t i (record { situation = s.situation; outs = s.outs }) h p.0 p.1

  all_sent_keeps : (n : ℕ) (d : Deeper) (xs : List Sending) → flat_map (sending_faults t.outline) xs ≡ []
      → Keeping (all_sent xs (at n d))
  all_sent_keeps n d [] h = idles
  all_sent_keeps n d (x ∷ xs) h =
      let own = parted (sending_faults t.outline x) (flat_map (sending_faults t.outline) xs) h in
      both (evaluated (at n d) (item_of x) >>= delivered (at n d)) (all_sent xs (at n d))
      (λ s p. looked (at n d) (item_of x) (delivered (at n d)) (IsSent t.outline) s
      (item_sent x n d s s.left own.0) (λ i l q. sends n d i (record s { left = l }) q p))
      (all_sent_keeps n d xs own.1)

  -- LINKS

  connects : (n : ℕ) (d : Deeper) (one other : EndPoint)
      → Keeping (linked (end_of one) (end_of other) (connected t) (at n d))
  connects n d one other =
      bind (evaluated (at n d) (end_of one)) _ (looks (at n d) (end_of one))
      (λ p. bind (evaluated (at n d) (end_of other)) _ (looks (at n d) (end_of other))
      (λ q. change (connected t p q) (λ s h. connected_joined R t p q s h)))

  -- what is declared under the names of a child and of its interaction point
  abbrev AreNamed : Access → Access → InteractionPoint → Type 0
  AreNamed a b q = (c : ℕ) × (declared_at t.outline a.name ≡ Some c)
      × (declared_in_header t.outline c b.name ≡ Some q.declared)

  child_named : (a b : Access) (n : ℕ) (d : Deeper) (s : State) (l : ℕ)
      → Gives (AreNamed a b) (child_point a b (view (at n d) s) l)
  child_named a b n d s l = let v = view (at n d) s in
      named_gives (AreNamed a b) a _ v l
      (λ p zs m e. then_gives (AreNamed a b) (lift (child_of v p zs) m) _
      (λ i u. known_gives (AreNamed a b) (declared_in_header t.outline p b.name) u _
      (λ q w k. then_gives (AreNamed a b) (subscripts_in b.index (dims_at t.outline q) [] v w) _
      (λ ys j. (p, e, k)))))

  attaches : (n : ℕ) (d : Deeper) (own target point : Access)
      → attach_faults t.outline own target point ≡ []
      → Keeping (linked (own_point own) (child_point target point) (attached t) (at n d))
  attaches n d own target point h s g = let o = t.outline in
      looked (at n d) (own_point own) _
      (λ (p : InteractionPoint). declared_at o own.name ≡ Some p.declared) s
      (own_named own n d s s.left)
      (λ p l e. looked (at n d) (child_point target point) _ (AreNamed target point)
      (record s { left = l }) (child_named target point n d (record s { left = l }) l)
      (λ q m k. changed_keeps (record s { left = m }) (attached t p q s.situation) g
      (attached_joined R t p q s.situation
      (attach_joins o own target point p.declared k.0 q.declared full h e k.1 k.2) g.0)))

  each_joined : (m : InteractionPoint → Situation → Situation)
      → ((p : InteractionPoint) (s : Situation) → Joined R s → Joined R (m p s))
      → (ps : List InteractionPoint) (s : Situation) → Joined R s → Joined R (each m ps s)
  each_joined m h [] s g = g
  each_joined m h (p ∷ ps) s g = each_joined m h ps (m p s) (h p s g)

  unlinks : (n : ℕ) (d : Deeper) (x : EndPoint) (m : InteractionPoint → Situation → Situation)
      → ((p : InteractionPoint) (s : Situation) → Joined R s → Joined R (m p s))
      → Keeping (unlinked x m (at n d))
  unlinks n d x m h =
      bind (evaluated (at n d) (ends_of x.first x.second)) _
      (looks (at n d) (ends_of x.first x.second))
      (λ ps. change (λ s. Ok (each m ps s)) (λ s g. each_joined m h ps s g))

  -- STATEMENTS

  -- the statements of a row or a box break no rule
  abbrev Faultless : Option ℕ → List ℕ → {m : _} → Row_of-Statement m → Type 0
  Faultless f loops row = rules.row_statements t.outline f loops row ≡ []

  mutual
    body_keeps : (x : Statement) (f : Option ℕ) (loops : List ℕ) (n : ℕ) (d : Deeper) → Deep d
        → statement_faults t.outline f loops x ≡ [] → Keeping (body_of x (at n d))
    body_keeps (statement.Empty place) f loops n d deep e = idles
    body_keeps (statement.Compound' a turn place) f loops n d deep e =
        row_keeps turn f loops n d deep e
    body_keeps (statement.Assign target path v place) f loops n d deep e =
        bind (evaluated (at n d) (variable_of target path)) _
        (looks (at n d) (variable_of target path))
        (λ r. bind (evaluated (at n d) (value_of v)) _ (looks (at n d) (value_of v))
        (λ v. stores r v))
    body_keeps (statement.Call name arguments place) f loops n d deep e =
        performs n d deep name arguments
    body_keeps (statement.If' c a first second place) f loops n d deep e =
        let own = three _ (box_statement t.outline f loops first)
        (rules.held_statement t.outline f loops second) e in
        bind (ordinal_of c (at n d)) _ (asks (at n d) c)
        (λ z. chooses z (row_statement first (at n d)) (held_statement second (at n d))
        (boxed_keeps first f loops n d deep own.1) (held_keeps second f loops n d deep own.2))
    body_keeps (statement.Case' v a arms place) f loops n d deep e =
        bind (ordinal_of v (at n d)) _ (asks (at n d) v)
        (λ z. arms_keep arms z f loops _ _ n d deep (parted _ (rules.row_arms t.outline f loops _ []
        arms) e).1)
    body_keeps (statement.While' c a turn place) f loops n d deep e = λ s.
        turns_keep _ (ordinal_of c (at n d)) (row_statement turn (at n d)) (asks (at n d) c)
        (boxed_keeps turn f loops n d deep (parted _ (box_statement t.outline f loops turn) e).1) s
    body_keeps (statement.Repeat' a turn until place) f loops n d deep e = λ s.
        repeats_keep _ (row_statements turn (at n d)) (ordinal_of until (at n d))
        (row_keeps turn f loops n d deep
        (parted (rules.row_statements t.outline f loops turn) _ e).0) (asks (at n d) until) s
    body_keeps (statement.For' name first down last a turn place) f loops n d deep e =
        let loops' = rules.within_loop t.outline loops name in
        let own = (parted _ (box_statement t.outline f loops' turn) e).1 in
        bind (evaluated (at n d) (variable_of name [])) _ (looks (at n d) (variable_of name []))
        (λ r. bind (ordinal_of first (at n d)) _ (asks (at n d) first)
        (λ x. bind (ordinal_of last (at n d)) _ (asks (at n d) last)
        (λ y. both (counts (distance down x y) x (step down)
        (λ z. stored false r (value.Ordinal z) >> row_statement turn (at n d)))
        (stored false r value.Undefined)
        (counts_keep (distance down x y) x (step down)
        (λ z. stored false r (value.Ordinal z) >> row_statement turn (at n d))
        (λ z. both (stored false r (value.Ordinal z)) (row_statement turn (at n d))
        (stores r (value.Ordinal z)) (boxed_keeps turn f loops' n d deep own)))
        (stores r value.Undefined))))
    body_keeps (statement.All' name text a turn place) f loops n d deep e =
        over_keeps (head_in name.place (entry_at t.outline name.place))
        (row_statement turn (at n d)) (at n d)
        (boxed_keeps turn f loops n d deep (parted _ (box_statement t.outline f loops turn) e).1)
    body_keeps (statement.Output sendings place) f loops n d deep e =
        all_sent_keeps n d sendings (parted _ (flat_map (sending_faults t.outline) sendings) e).1
    body_keeps (statement.Init target body arguments place) f loops n d deep e =
        begins n d deep target body arguments
    body_keeps (statement.Release target place) f loops n d deep e = lets_go n d target
    body_keeps (statement.Connect one other place) f loops n d deep e = connects n d one other
    body_keeps (statement.Disconnect end place) f loops n d deep e =
        unlinks n d end disconnected (λ p s h. disconnected_joined R p s h)
    body_keeps (statement.Attach own target point place) f loops n d deep e =
        attaches n d own target point (parted _ (attach_faults t.outline own target point) e).1
    body_keeps (statement.Detach end place) f loops n d deep e =
        unlinks n d end (detached_end t n) (λ p s h. end_joined R t n p s h)

    boxed_keeps : {m : _} (row : Row_of-Statement m) (f : Option ℕ) (loops : List ℕ) (n : ℕ)
        (d : Deeper) → Deep d → box_statement t.outline f loops row ≡ []
        → Keeping (row_statement row (at n d))
    boxed_keeps end_of-Statement f loops n d deep e = idles
    boxed_keeps (more_of-Statement x rest) f loops n d deep e =
        both enter (body_of x (at n d)) enters (body_keeps x f loops n d deep e)

    held_keeps : (x : Held-Statement-If-2) (f : Option ℕ) (loops : List ℕ) (n : ℕ) (d : Deeper)
        → Deep d → rules.held_statement t.outline f loops x ≡ []
        → Keeping (held_statement x (at n d))
    held_keeps block.None' f loops n d deep e = idles
    held_keeps (block.Some' a row) f loops n d deep e = boxed_keeps row f loops n d deep e

    row_keeps : {m : _} (row : Row_of-Statement m) (f : Option ℕ) (loops : List ℕ) (n : ℕ)
        (d : Deeper) → Deep d → Faultless f loops row → Keeping (row_statements row (at n d))
    row_keeps end_of-Statement f loops n d deep e = idles
    row_keeps (more_of-Statement x rest) f loops n d deep e =
        let own = parted (statement_faults t.outline f loops x)
        (rules.row_statements t.outline f loops rest) e in
        both (enter >> body_of x (at n d)) (row_statements rest (at n d))
        (both enter (body_of x (at n d)) enters (body_keeps x f loops n d deep own.0))
        (row_keeps rest f loops n d deep own.1)

    arms_keep : {m : _} (row : Row_of-Arm m) (z : ℤ) (f : Option ℕ) (loops : List ℕ)
        (host : Option Host) (seen : Chosen) (n : ℕ) (d : Deeper) → Deep d
        → rules.row_arms t.outline f loops host seen row ≡ [] → Keeping (row_arms row z (at n d))
    arms_keep end_of-Arm z f loops host seen n d deep e = λ s p. tt
    arms_keep (more_of-Arm constants x rest) z f loops host seen n d deep e =
        let own = parted _ (rules.row_arms t.outline f loops host _ rest) e in
        one_arm (is_chosen t.outline constants z) (enter >> body_of x (at n d))
        (row_arms rest z (at n d))
        (both enter (body_of x (at n d)) enters
        (body_keeps x f loops n d deep (parted _ (statement_faults t.outline f loops x) own.0).1))
        (arms_keep rest z f loops host _ n d deep own.1)

  -- statements in order
  statements_keep : (xs : List Statement) (f : Option ℕ) (loops : List ℕ) (n : ℕ) (d : Deeper)
      → Deep d → flat_map (statement_faults t.outline f loops) xs ≡ [] → Keeping (statements_in xs (at n d))
  statements_keep [] f loops n d deep e = idles
  statements_keep (x ∷ xs) f loops n d deep e =
      let own = parted (statement_faults t.outline f loops x)
      (flat_map (statement_faults t.outline f loops) xs) e in
      both (enter >> body_of x (at n d)) (statements_in xs (at n d))
      (both enter (body_of x (at n d)) enters (body_keeps x f loops n d deep own.0))
      (statements_keep xs f loops n d deep own.1)

  -- WITHIN ONE ANOTHER

  within_keeps : (levels : ℕ) → Deep (within levels t)
  within_keeps zero n xs h = λ s p. tt
  within_keeps (suc levels) n xs h =
      statements_keep xs h.0 [] n (within levels t) (within_keeps levels) h.1

  pub block_keeps : (levels n : ℕ) (xs : List Statement) → IsFaultless t.outline xs
      → Keeping (statements_in xs (site t n false levels))
  block_keeps levels n xs h =
      statements_keep xs h.0 [] n (within levels t) (within_keeps levels) h.1
