-- What statements do (ISO 7185, 6.8; ISO 9074, statements).
use Rattle.std.specs.Prelude.{ℕ, ◌+◌, ℤ, Bool, false, List, [], ◌∷◌, map, Option, Some, None}
use Rattle.std.specs.Prelude.{Result, Ok, option_and_then, if◌then◌else◌}
use Rattle.std.specs.List.{list_any}
use Rattle.std.specs.Option.{option_map_or}
use Rattle.std.specs.Ordering.{int_eq}
use Rattle.est_syntax.specs.declared.body.Body.{out-Body}
use Rattle.est_syntax.specs.declared.body.FirstPart.{FirstPart, out-FirstPart}
use Rattle.est_syntax.specs.declared.constant.Constant.{Constant}
use Rattle.est_syntax.specs.declared.expression.Access.{Access}
use Rattle.est_syntax.specs.declared.expression.EndPoint.{EndPoint}
use Rattle.est_syntax.specs.declared.expression.Expr.{Expr}
use Rattle.est_syntax.specs.declared.name.Used.{Used}
use Rattle.est_syntax.specs.declared.statement.Arm.{Arm}
use Rattle.est_syntax.specs.declared.statement.Sending.{Sending}
use Rattle.est_syntax.specs.declared.statement.Statement.{Statement, Row_of-Statement}
use Rattle.est_syntax.specs.declared.statement.Statement.{end_of-Statement, more_of-Statement}
use Rattle.est_syntax.specs.declared.statement.Statement.{Held-Statement-If-2}
use Rattle.est_syntax.specs.declared.statement.Statement.{Row_of-Arm, end_of-Arm, more_of-Arm}
use Rattle.est_syntax.specs.declared.statement.Statement.TheBlock as held
use Rattle.est_syntax.specs.declared.statement.Statement.TheVariants as statement
use Rattle.est_values.specs.declared.value.Value.{Value}
use Rattle.est_values.specs.declared.value.Value.TheVariants as value
use Rattle.rule_declares.specs.rule_scope.declared.declaration.Sort.TheVariants as sort
use Rattle.rule_declares.specs.rule_scope.Outline.{Outline, entry_at}
use Rattle.rule_declares.specs.rule_kinds.declared.value.Valued.{Valued}
use Rattle.rule_declares.specs.rule_kinds.Constants.{constant_value}
use Rattle.mean_blocks.specs.declared.fault.BlockFault.{BlockFault}
use Rattle.mean_blocks.specs.declared.fault.BlockFault.TheVariants.{NoCase}
use Rattle.mean_blocks.specs.declared.frame.Binding.{Binding}
use Rattle.mean_blocks.specs.declared.frame.Slot.{Slot}
use Rattle.mean_blocks.specs.declared.frame.Slot.TheVariants as slot
use Rattle.mean_blocks.specs.declared.situation.Element.{Element}
use Rattle.mean_blocks.specs.declared.situation.InteractionPoint.{InteractionPoint}
use Rattle.mean_blocks.specs.declared.situation.Item.{Item}
use Rattle.mean_blocks.specs.Outcome.{Done, ◌>>=◌, ◌>>◌, give, fault, lift, known, on_ok}
use Rattle.mean_blocks.specs.TextByPlace.{routine_at, statements_of, body_at, first_region}
use Rattle.mean_blocks.specs.TextByPlace.{first_statements}
use Rattle.mean_blocks.specs.GlobalSituation.{Situation, with_row}
use Rattle.mean_blocks.specs.NamesInRuns.{head_in, declared_at, interaction_of, places_of}
use Rattle.mean_blocks.specs.WorkingState.{Site, View, Counts, Does, evaluated, enter}
use Rattle.mean_blocks.specs.WorkingState.{changes}
use Rattle.mean_blocks.specs.ValueOperators.{choose}
use Rattle.mean_blocks.specs.FunctionCalls.{routine_frame, frame_of}
use Rattle.mean_blocks.specs.ExpressionValues.{values_in, arguments_in}
use Rattle.mean_blocks.specs.InstancePoints.{own_point, child, child_point, end_of, ends_of}
use Rattle.mean_blocks.specs.InstancePoints.{accessed}
use Rattle.mean_blocks.specs.OutputEffects.{sent}
use Rattle.mean_blocks.specs.LinkEffects.{connected, attached, disconnected, detached_end, each}
use Rattle.mean_blocks.specs.InstanceEffects.{born, in_state, released}
use Rattle.mean_blocks.specs.WriteEffects.{acts, ordinal_of, framed, assigned}
use Rattle.mean_blocks.specs.LoopEffects.{turns, repeats, controlled, over}

-- PROCEDURES

-- A call of a procedure: the arguments, their ranges, and its statements one level deeper (ISO
-- 7185, 6.8.2.3; the order is profile).
abbrev pub performed : Used → List Expr → Site → Does
performed name arguments site = known (declared_at site.text.outline name) >>= λ p.
    evaluated site (arguments_in arguments p []) >>= λ xs.
    known (routine_at site.text p) >>= λ r.
    lift (routine_frame site.text.outline p xs) >>= λ f.
    framed f (site.deeper site.instance false (statements_of r))

-- CASE

-- whether one of these constants is an ordinal (ISO 7185, 6.8.3.5)
abbrev pub is_chosen : Outline → List Constant → ℤ → Bool
is_chosen o cs z = list_any
    (λ c. option_map_or (λ (v : Valued). int_eq z v.ordinal) (constant_value o c) false) cs

-- OUTPUT

-- the value in a slot
abbrev pub slot_value : Slot → Value
slot_value (slot.Value v) = v
slot_value _ = value.Undefined

-- the values of the parameters of an interaction that is declared at a place
abbrev pub values_of : Outline → ℕ → List Slot → Result (List Value) BlockFault
values_of o d xs = on_ok (frame_of o (places_of o sort.Variable d) xs)
    (λ f. Ok (map (λ (b : Binding). slot_value b.slot) f))

-- the item of an output: its interaction point, its arguments and their ranges
abbrev pub item_of : Sending → View → Counts Item
item_of x v = own_point x.at v >>= λ p. values_in x.arguments [] v >>= λ xs.
    known (interaction_of v.site.text.outline p.declared x.signal) >>= λ d.
    lift (values_of v.site.text.outline d xs) >>= λ vs.
    give (record { at = p; signal = d; values = vs })

-- an item is sent
abbrev pub delivered : Site → Item → Does
delivered site i = λ s.
    let x = sent site.text i (record { situation = s.situation; outs = s.outs }) in
    Done tt (record s { situation = x.situation; outs = x.outs })

-- the interactions of an output, in order
abbrev pub all_sent : List Sending → Site → Does
all_sent [] site = give tt
all_sent (x ∷ xs) site = (evaluated site (item_of x) >>= delivered site) >> all_sent xs site

-- INSTANCES AND LINKS

-- the state that an initialize part names, if it names one
abbrev pub first_state : Outline → FirstPart → Option ℕ
first_state o f = option_and_then (declared_at o) (out-FirstPart f).to

-- an instance gets the state that its initialize part names
abbrev pub first_reached : Outline → ℕ → FirstPart → Situation → Situation
first_reached o n f s = with_row n (in_state (first_state o f)) s

-- the initialize part of an instance, if its body has one: its statements one level deeper, and
-- then the first state (ISO 9074, initialization-part)
abbrev pub initialized : ℕ → Option FirstPart → Site → Does
initialized n None site = give tt
initialized n (Some f) site = lift (frame_of site.text.outline
    (places_of site.text.outline sort.Variable (first_region f)) []) >>= λ frame.
    framed frame (site.deeper n false (first_statements f))
    >> changes (λ s. Ok (first_reached site.text.outline n f s))

-- an element of a module variable
abbrev pub element_of : Access → View → Counts Element
element_of a v = accessed a (λ p zs. give (record { declared = p; index = zs })) v

-- An `init`, in this order: the subscripts of the module variable, the arguments, whether there are
-- too many instances, the ranges of the arguments, and the initialize part of the new instance one
-- level deeper (ISO 9074, init-statement; the order is profile).
abbrev pub init_done : Access → Used → List Expr → Site → Does
init_done target body arguments site = evaluated site (element_of target) >>= λ e.
    evaluated site (values_in arguments []) >>= λ xs.
    known (declared_at site.text.outline body) >>= λ b.
    known (body_at site.text b) >>= λ x.
    λ s. (changes (born site.text site.instance e b xs)
    >> initialized s.situation.next (out-Body x).first site) s

-- a `release`: the child, and then all that goes with it (ISO 9074, release-statement)
abbrev pub let_go : Access → Site → Does
let_go target site =
    evaluated site (child target) >>= λ n. changes (λ s. Ok (released site.text n s))

-- a link of two ends: the first end, the second, the refusals
abbrev pub linked : (View → Counts InteractionPoint) → (View → Counts InteractionPoint)
    → (InteractionPoint → InteractionPoint → Situation → Result Situation BlockFault) → Site → Does
linked first second link site =
    evaluated site first >>= λ p. evaluated site second >>= λ q. changes (link p q)

-- links of these ends are undone
abbrev pub unlinked : EndPoint → (InteractionPoint → Situation → Situation) → Site → Does
unlinked e change site =
    evaluated site (ends_of e.first e.second) >>= λ ps. changes (λ s. Ok (each change ps s))

-- STATEMENTS

-- What a statement does once it is entered.
abbrev mutual
  pub body_of : Statement → Site → Does
  body_of (statement.Empty place) site = give tt
  body_of (statement.Compound' a turn place) site = row_statements turn site
  body_of (statement.Assign target path e place) site = assigned target path e site
  body_of (statement.Call name arguments place) site =
      acts site.function (performed name arguments site)
  body_of (statement.If' condition a first second place) site = ordinal_of condition site >>= λ z.
      choose z (row_statement first site) (held_statement second site)
  body_of (statement.Case' e a arms place) site = ordinal_of e site >>= λ z. row_arms arms z site
  body_of (statement.While' condition a turn place) site = λ s.
      turns (s.left + 1) (ordinal_of condition site) (row_statement turn site) s
  body_of (statement.Repeat' a turn until place) site = λ s.
      repeats (s.left + 1) (row_statements turn site) (ordinal_of until site) s
  body_of (statement.For' name first down last a turn place) site =
      controlled name first down last (row_statement turn site) site
  body_of (statement.All' name text a turn place) site =
      over (head_in name.place (entry_at site.text.outline name.place)) (row_statement turn site)
      site
  body_of (statement.Output sendings place) site = acts site.function (all_sent sendings site)
  body_of (statement.Init target body arguments place) site =
      acts site.function (init_done target body arguments site)
  body_of (statement.Release target place) site = acts site.function (let_go target site)
  body_of (statement.Connect one other place) site =
      acts site.function (linked (end_of one) (end_of other) (connected site.text) site)
  body_of (statement.Disconnect end place) site =
      acts site.function (unlinked end disconnected site)
  body_of (statement.Attach own target point place) site = acts site.function
      (linked (own_point own) (child_point target point) (attached site.text) site)
  body_of (statement.Detach end place) site =
      acts site.function (unlinked end (detached_end site.text site.instance) site)

  -- of the statement in a box, if there is one
  pub row_statement : {n : _} → Row_of-Statement n → Site → Does
  row_statement end_of-Statement site = give tt
  row_statement (more_of-Statement x rest) site = enter >> body_of x site

  pub held_statement : Held-Statement-If-2 → Site → Does
  held_statement held.None' site = give tt
  held_statement (held.Some' a row) site = row_statement row site

  -- of statements in order
  pub row_statements : {n : _} → Row_of-Statement n → Site → Does
  row_statements end_of-Statement site = give tt
  row_statements (more_of-Statement x rest) site =
      (enter >> body_of x site) >> row_statements rest site

  -- of the first choice of a `case` that has the ordinal among its constants
  pub row_arms : {n : _} → Row_of-Arm n → ℤ → Site → Does
  row_arms end_of-Arm z site = fault NoCase
  row_arms (more_of-Arm constants x rest) z site =
      if is_chosen site.text.outline constants z then enter >> body_of x site
      else row_arms rest z site

-- a statement counts, and then does what it is
abbrev pub statement_of : Statement → Site → Does
statement_of x site = enter >> body_of x site

-- statements in order
abbrev pub statements_in : List Statement → Site → Does
statements_in [] site = give tt
statements_in (x ∷ xs) site = statement_of x site >> statements_in xs site

-- what else an `if` does
abbrev pub else_in : Option Statement → Site → Does
else_in None site = give tt
else_in (Some x) site = statement_of x site

-- the first choice of a `case` that has an ordinal among its constants
abbrev pub arms_in : List Arm → ℤ → Site → Does
arms_in [] z site = fault NoCase
arms_in (a ∷ rest) z site =
    if is_chosen site.text.outline a.constants z then statement_of a.turn site
    else arms_in rest z site
