-- The statements of functions see and change nothing of a situation but its rows.
use Rattle.std.proofs.Common.{◌≡◌, refl, ◌∙◌, ap, ℕ, zero, suc, Bool, true, false, List, [], ◌∷◌}
use Rattle.std.proofs.Common.{Option, Some, None, Result, Ok, Err}
use Rattle.std.specs.Prelude.{ℤ, if◌then◌else◌, ◌+ℤ◌, ◌+◌}
use Rattle.est_syntax.specs.declared.expression.Expr.{Expr}
use Rattle.est_syntax.specs.declared.expression.Selector.{Selector}
use Rattle.est_syntax.specs.declared.kind.Kind.{Kind}
use Rattle.est_syntax.specs.declared.name.Used.{Used}
use Rattle.est_syntax.specs.declared.statement.Statement.{Statement, Row_of-Statement}
use Rattle.est_syntax.specs.declared.statement.Statement.{end_of-Statement, more_of-Statement}
use Rattle.est_syntax.specs.declared.statement.Statement.{Held-Statement-If-2}
use Rattle.est_syntax.specs.declared.statement.Statement.{Row_of-Arm, end_of-Arm, more_of-Arm}
use Rattle.est_syntax.specs.declared.statement.Statement.TheBlock as block
use Rattle.est_syntax.specs.declared.statement.Statement.TheVariants as statement
use Rattle.est_values.specs.declared.value.Value.{Value}
use Rattle.est_values.specs.declared.value.Value.TheVariants as value
use Rattle.est_values.specs.OrdinalTuples.{ordinals_of}
use Rattle.rule_declares.specs.rule_scope.Outline.{entry_at}
use Rattle.mean_blocks.specs.declared.fault.BlockFault.{BlockFault}
use Rattle.mean_blocks.specs.declared.frame.Holder.{Holder}
use Rattle.mean_blocks.specs.declared.frame.Holder.TheVariants as holder
use Rattle.mean_blocks.specs.declared.frame.Place.{Place}
use Rattle.mean_blocks.specs.declared.frame.Slot.{Slot}
use Rattle.mean_blocks.specs.declared.frame.Slot.TheVariants as slot
use Rattle.mean_blocks.specs.Outcome.{Outcome, Done, Fault, Limit, onward, ◌>>=◌, ◌>>◌, give}
use Rattle.mean_blocks.specs.Outcome.{lift, counted, on_ok}
use Rattle.mean_blocks.specs.GlobalSituation.{Frame, Situation, lives}
use Rattle.mean_blocks.specs.TextByPlace.{Text}
use Rattle.mean_blocks.specs.TakenValues.{taken}
use Rattle.mean_blocks.specs.OrdinalOperators.{is_true}
use Rattle.mean_blocks.specs.NamesInRuns.{Head, Nothing, Constant, Function, Variable, Modules}
use Rattle.mean_blocks.specs.NamesInRuns.{head_in, header_at}
use Rattle.mean_blocks.specs.Frames.{frame_written, names_written}
use Rattle.mean_blocks.specs.WorkingState.{State, Site, View, Does, Counts, Deeper, view}
use Rattle.mean_blocks.specs.WorkingState.{counting}
use Rattle.mean_blocks.specs.WorkingState.{evaluated, enter}
use Rattle.mean_blocks.specs.ValueOperators.{choose, ordinal}
use Rattle.mean_blocks.specs.ReachedVariables.{Reached, Component, Module}
use Rattle.mean_blocks.specs.ExpressionValues.{value_of, variable_of}
use Rattle.mean_blocks.specs.InstancePoints.{children_of}
use Rattle.mean_blocks.specs.WriteEffects.{ordinal_of, opened, closed, framed, given_names}
use Rattle.mean_blocks.specs.WriteEffects.{stored}
use Rattle.mean_blocks.specs.LoopEffects.{turn_of, turns, repeats, counts, distance, step, naming}
use Rattle.mean_blocks.specs.LoopEffects.{turn_for, for_each, for_child, for_children}
use Rattle.mean_blocks.specs.LoopEffects.{over_children, over}
use Rattle.mean_blocks.specs.StatementEffects.{is_chosen, body_of, row_statement, held_statement}
use Rattle.mean_blocks.specs.StatementEffects.{row_statements, row_arms, statements_in}
use Rattle.mean_blocks.specs.BlockLevels.{within}
use Rattle.mean_blocks.specs.SightLaws.{sight}
use Rattle.mean_blocks.proofs.BlindExpressions.{elsewhere, seen_from, brought, out, Blind}
use Rattle.mean_blocks.proofs.BlindExpressions.{value_blind, variable_blind, held_blind}

module _ (x : Situation) where
  -- does the same there
  abbrev Same : {A : Type 0} → (State → Outcome State A) → Type 0
  Same m = (s : State) → m (brought x s) ≡ out x (m s)

  onward_same : {A B : Type 0} (o : Outcome State A) (go : A → State → Outcome State B)
      → ((a : A) → Same (go a)) → onward (out x o) go ≡ out x (onward o go)
  onward_same (Done a s) go h = h a s
  onward_same (Fault f) go h = refl
  onward_same Limit go h = refl

  bind : {A B : Type 0} (m : State → Outcome State A) (go : A → State → Outcome State B)
      → Same m → ((a : A) → Same (go a)) → Same (m >>= go)
  bind m go h k s = ap (λ o. onward o go) (h s) ∙ onward_same (m s) go k

  both : {A B : Type 0} (m : State → Outcome State A) (n : State → Outcome State B)
      → Same m → Same n → Same (m >> n)
  both m n h k s = ap (λ o. onward o (λ _. n)) (h s) ∙ onward_same (m s) (λ _. n) (λ _. k)

  counting_same : {A : Type 0} (s : State) (o : Outcome ℕ A)
      → counting (brought x s) o ≡ out x (counting s o)
  counting_same s (Done a n) = refl
  counting_same s (Fault f) = refl
  counting_same s Limit = refl

  looks : {A : Type 0} (site : Site) (m : View → Counts A)
      → ((v : View) → Blind x v.site.deeper → m (seen_from x v) ≡ m v)
      → Blind x site.deeper → Same (evaluated site m)
  looks site m h b s = ap (λ (f : Counts _). counting (brought x s) (f s.left)) (h (view site s) b)
      ∙ counting_same s (m (view site s) s.left)

  enters : Same enter
  enters s = counting_same s (counted s.left)

  gives : {A : Type 0} (a : A) → Same (give a)
  gives a s = refl

  abbrev idle : Does
  idle = give tt

  idles : Same idle
  idles s = refl

  lifts : {A : Type 0} (r : Result A BlockFault) → Same (lift r)
  lifts (Ok a) s = refl
  lifts (Err f) s = refl

  chooses : {A : Type 0} (z : ℤ) (m n : State → Outcome State A) → Same m → Same n
      → Same (choose z m n)
  chooses z m n h g = one (is_true z)
    where
      one : (b : Bool) → Same (if b then m else n)
      one true = h
      one false = g

  one_arm : (b : Bool) (m n : Does) → Same m → Same n → Same (if b then m else n)
  one_arm true m n h g = h
  one_arm false m n h g = g

  helds : (h : Holder) (f : Frame) → Same (given_names true h f)
  helds (holder.Frame n) f s = refl
  helds (holder.Instance n) f s = refl

  written_same : (p : Place) (k : Kind) (v : Value) (s : Situation) (frames : List Frame)
      → names_written p k v (elsewhere x s) frames ≡ names_written p k v s frames
  written_same p k v s frames = ap (λ r. on_ok r
      (λ f. on_ok (taken k v) (λ w. frame_written p.declared p.path w f)))
      (held_blind x p.holder s frames)

  stores : (r : Reached) (v : Value) → Same (stored true r v)
  stores (Component p k) v s =
      ap (λ r. (lift r >>= given_names true p.holder) (brought x s))
      (written_same p k v s.situation s.frames)
      ∙ bind (lift (names_written p k v s.situation s.frames)) (given_names true p.holder)
      (lifts (names_written p k v s.situation s.frames)) (λ f. helds p.holder f) s
  stores (Module p zs) v s = refl

  frames_same : (f : Frame) (m : Does) → Same m → Same (framed f m)
  frames_same f m h = both (opened f) (m >> closed) (λ s. refl) (both m closed h (λ s. refl))

  asks : (site : Site) (e : Expr) → Blind x site.deeper → Same (ordinal_of e site)
  asks site e b = looks site (λ v. value_of e v >>= ordinal)
      (λ v h i. value_blind x e v h i >>= ordinal) b

  turns_same : (n : ℕ) (c : State → Outcome State ℤ) (turn : Does) → Same c → Same turn
      → Same (turns n c turn)
  turns_same zero c turn h g = λ s. refl
  turns_same (suc n) c turn h g =
      bind (turn_of c turn) (λ more. if more then turns n c turn else idle)
      (bind c (λ z. choose z (enter >> (turn >> give true)) (give false)) h
      (λ z. chooses z (enter >> (turn >> give true)) (give false)
      (both enter (turn >> give true) enters (both turn (give true) g (gives true)))
      (gives false)))
      (λ more. one_arm more (turns n c turn) idle (turns_same n c turn h g) idles)

  repeats_same : (n : ℕ) (turn : Does) (c : State → Outcome State ℤ) → Same turn → Same c
      → Same (repeats n turn c)
  repeats_same zero turn c g h = λ s. refl
  repeats_same (suc n) turn c g h =
      both (enter >> turn) (c >>= λ z. choose z idle (repeats n turn c))
      (both enter turn enters g)
      (bind c (λ z. choose z idle (repeats n turn c)) h
      (λ z. chooses z idle (repeats n turn c) idles (repeats_same n turn c g h)))

  counts_same : (n : ℕ) (z step : ℤ) (turn : ℤ → Does) → ((y : ℤ) → Same (turn y))
      → Same (counts n z step turn)
  counts_same zero z step turn h = idles
  counts_same (suc n) z step turn h =
      both (enter >> turn z) (counts n (z +ℤ step) step turn) (both enter (turn z) enters (h z))
      (counts_same n (z +ℤ step) step turn h)

  turn_same : (p : ℕ) (y : Slot) (turn : Does) → Same turn → Same (turn_for p y turn)
  turn_same p y turn h =
      both enter (framed (naming p y) turn) enters (frames_same (naming p y) turn h)

  for_each_same : (p : ℕ) (zs : List ℤ) (turn : Does) → Same turn → Same (for_each p zs turn)
  for_each_same p [] turn h = idles
  for_each_same p (z ∷ zs) turn h =
      both (turn_for p (slot.Value (value.Ordinal z)) turn) (for_each p zs turn)
      (turn_same p (slot.Value (value.Ordinal z)) turn h) (for_each_same p zs turn h)

  for_child_same : (p n : ℕ) (turn : Does) → Same turn → Same (for_child p n turn)
  for_child_same p n turn h s =
      one_arm (lives s.situation n) (turn_for p (slot.Instance n) turn) idle
      (turn_same p (slot.Instance n) turn h) idles s

  for_children_same : (p : ℕ) (ns : List ℕ) (turn : Does) → Same turn
      → Same (for_children p ns turn)
  for_children_same p [] turn h = idles
  for_children_same p (n ∷ ns) turn h = both (for_child p n turn) (for_children p ns turn)
      (for_child_same p n turn h) (for_children_same p ns turn h)

  over_children_same : (p : ℕ) (header : Option ℕ) (turn : Does) (site : Site) → Same turn
      → Same (over_children p header turn site)
  over_children_same p None turn site h = λ s. refl
  over_children_same p (Some header) turn site h = λ s. for_children_same p
      (children_of site.text.outline s.situation site.instance header) turn h s

  over_same : (y : Head) (turn : Does) (site : Site) → Same turn → Same (over y turn site)
  over_same (Variable p k) turn site h = for_each_same p (ordinals_of k) turn h
  over_same (Modules p) turn site h =
      over_children_same p (header_at site.text.outline p) turn site h
  over_same Nothing turn site h = λ s. refl
  over_same (Constant z) turn site h = λ s. refl
  over_same (Function p k) turn site h = λ s. refl

  -- the statements of a function of an instance
  abbrev at : Text → ℕ → Deeper → Site
  at t n d = record { text = t; instance = n; function = true; deeper = d }

  mutual
    body_same : (y : Statement) (t : Text) (n : ℕ) (d : Deeper) → Blind x d
        → Same (body_of y (at t n d))
    body_same (statement.Empty place) t n d b = idles
    body_same (statement.Compound' a turn place) t n d b = row_same turn t n d b
    body_same (statement.Assign target path e place) t n d b =
        bind (evaluated (at t n d) (variable_of target path)) _
        (looks (at t n d) (variable_of target path) (λ v h. variable_blind x target path v h) b)
        (λ r. bind (evaluated (at t n d) (value_of e)) _
        (looks (at t n d) (value_of e) (λ v h. value_blind x e v h) b) (λ v. stores r v))
    body_same (statement.Call name arguments place) t n d b = λ s. refl
    body_same (statement.If' e a first second place) t n d b =
        bind (ordinal_of e (at t n d)) _ (asks (at t n d) e b)
        (λ z. chooses z (row_statement first (at t n d)) (held_statement second (at t n d))
        (boxed_same first t n d b) (held_same second t n d b))
    body_same (statement.Case' e a arms place) t n d b =
        bind (ordinal_of e (at t n d)) _ (asks (at t n d) e b) (λ z. arms_same arms z t n d b)
    body_same (statement.While' e a turn place) t n d b = λ s.
        turns_same (s.left + 1) (ordinal_of e (at t n d)) (row_statement turn (at t n d))
        (asks (at t n d) e b) (boxed_same turn t n d b) s
    body_same (statement.Repeat' a turn until place) t n d b = λ s.
        repeats_same (s.left + 1) (row_statements turn (at t n d)) (ordinal_of until (at t n d))
        (row_same turn t n d b) (asks (at t n d) until b) s
    body_same (statement.For' name first down last a turn place) t n d b =
        bind (evaluated (at t n d) (variable_of name [])) _
        (looks (at t n d) (variable_of name []) (λ v h. variable_blind x name [] v h) b)
        (λ r. bind (ordinal_of first (at t n d)) _ (asks (at t n d) first b)
        (λ y. bind (ordinal_of last (at t n d)) _ (asks (at t n d) last b)
        (λ z. both (counts (distance down y z) y (step down)
        (λ w. stored true r (value.Ordinal w) >> row_statement turn (at t n d)))
        (stored true r value.Undefined)
        (counts_same (distance down y z) y (step down)
        (λ w. stored true r (value.Ordinal w) >> row_statement turn (at t n d))
        (λ w. both (stored true r (value.Ordinal w)) (row_statement turn (at t n d))
        (stores r (value.Ordinal w)) (boxed_same turn t n d b)))
        (stores r value.Undefined))))
    body_same (statement.All' name text a turn place) t n d b =
        over_same (head_in name.place (entry_at t.outline name.place))
        (row_statement turn (at t n d)) (at t n d) (boxed_same turn t n d b)
    body_same (statement.Output sendings place) t n d b = λ s. refl
    body_same (statement.Init target body arguments place) t n d b = λ s. refl
    body_same (statement.Release target place) t n d b = λ s. refl
    body_same (statement.Connect one other place) t n d b = λ s. refl
    body_same (statement.Disconnect end place) t n d b = λ s. refl
    body_same (statement.Attach own target point place) t n d b = λ s. refl
    body_same (statement.Detach end place) t n d b = λ s. refl

    boxed_same : {m : _} (row : Row_of-Statement m) (t : Text) (n : ℕ) (d : Deeper) → Blind x d
        → Same (row_statement row (at t n d))
    boxed_same end_of-Statement t n d b = idles
    boxed_same (more_of-Statement y rest) t n d b =
        both enter (body_of y (at t n d)) enters (body_same y t n d b)

    held_same : (y : Held-Statement-If-2) (t : Text) (n : ℕ) (d : Deeper) → Blind x d
        → Same (held_statement y (at t n d))
    held_same block.None' t n d b = idles
    held_same (block.Some' a row) t n d b = boxed_same row t n d b

    row_same : {m : _} (row : Row_of-Statement m) (t : Text) (n : ℕ) (d : Deeper) → Blind x d
        → Same (row_statements row (at t n d))
    row_same end_of-Statement t n d b = idles
    row_same (more_of-Statement y rest) t n d b =
        both (enter >> body_of y (at t n d)) (row_statements rest (at t n d))
        (both enter (body_of y (at t n d)) enters (body_same y t n d b)) (row_same rest t n d b)

    arms_same : {m : _} (row : Row_of-Arm m) (z : ℤ) (t : Text) (n : ℕ) (d : Deeper) → Blind x d
        → Same (row_arms row z (at t n d))
    arms_same end_of-Arm z t n d b = λ s. refl
    arms_same (more_of-Arm constants y rest) z t n d b =
        one_arm (is_chosen t.outline constants z) (enter >> body_of y (at t n d))
        (row_arms rest z (at t n d))
        (both enter (body_of y (at t n d)) enters (body_same y t n d b))
        (arms_same rest z t n d b)

  list_same : (xs : List Statement) (t : Text) (n : ℕ) (d : Deeper) → Blind x d
      → Same (statements_in xs (at t n d))
  list_same [] t n d b = idles
  list_same (y ∷ ys) t n d b =
      both (enter >> body_of y (at t n d)) (statements_in ys (at t n d))
      (both enter (body_of y (at t n d)) enters (body_same y t n d b)) (list_same ys t n d b)

  -- within so many levels
  pub within_blind : (k : ℕ) (t : Text) → Blind x (within k t)
  within_blind zero t n xs s = refl
  within_blind (suc k) t n xs s = list_same xs t n (within k t) (within_blind k t) s

-- a situation with the rows of another one
same_rows : (s u : Situation) → u.rows ≡ s.rows → u ≡ elsewhere u s
same_rows s u h = λ i. record u { rows = h i }

-- what expressions see there
pub values_see_rows : (t : Text) (n : ℕ) (function : Bool) (levels : ℕ) (s u : Situation)
    (fs : List Frame) (e : Expr) → u.rows ≡ s.rows
    → value_of e (sight t n function levels u fs) ≡ value_of e (sight t n function levels s fs)
values_see_rows t n function levels s u fs e h =
    ap (λ x. value_of e (sight t n function levels x fs)) (same_rows s u h)
    ∙ value_blind u e (sight t n function levels s fs) (within_blind u levels t)

-- and variables
pub variables_see_rows : (t : Text) (n : ℕ) (function : Bool) (levels : ℕ) (s u : Situation)
    (fs : List Frame) (name : Used) (path : List Selector) → u.rows ≡ s.rows
    → variable_of name path (sight t n function levels u fs)
    ≡ variable_of name path (sight t n function levels s fs)
variables_see_rows t n function levels s u fs name path h =
    ap (λ x. variable_of name path (sight t n function levels x fs)) (same_rows s u h)
    ∙ variable_blind u name path (sight t n function levels s fs) (within_blind u levels t)
