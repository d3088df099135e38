-- An outline grows by what bodies, routines, transitions and statements declare.
use Rattle.std.proofs.Common.{ℕ, suc, ◌<◌, ◌≤◌, ◌^◌, Bool, List, [], ◌∷◌}
use Rattle.std.proofs.Common.{refl, Option, Some, None, inr, arith}
use Rattle.est_syntax.specs.declared.name.Used.{Used}
use Rattle.est_syntax.specs.declared.constant.Constant.{Constant}
use Rattle.est_syntax.specs.declared.constant.Constant.TheVariants as constant
use Rattle.est_syntax.specs.declared.statement.Statement.{Statement, Row_of-Statement}
use Rattle.est_syntax.specs.declared.statement.Statement.{end_of-Statement, more_of-Statement}
use Rattle.est_syntax.specs.declared.statement.Statement.{Row_of-Arm, end_of-Arm, more_of-Arm}
use Rattle.est_syntax.specs.declared.statement.Statement.{Held-Statement-If-2}
use Rattle.est_syntax.specs.declared.statement.Statement.TheVariants as statement
use Rattle.est_syntax.specs.declared.statement.Statement.TheBlock as held
use Rattle.est_syntax.specs.declared.transition.Clause.{Clause}
use Rattle.est_syntax.specs.declared.transition.Clause.TheVariants as clauses
use Rattle.est_syntax.specs.declared.body.Part.{Part, out-Part, Row_of-Part}
use Rattle.est_syntax.specs.declared.body.Part.{end_of-Part, more_of-Part}
use Rattle.est_syntax.specs.declared.body.Part.TheVariants as part
use Rattle.est_syntax.specs.declared.body.Body.{Body', Row_of-Group, end_of-Group}
use Rattle.est_syntax.specs.declared.body.Body.{more_of-Group, Held-Body-first}
use Rattle.est_syntax.specs.declared.body.Part.TheBlock as first
use Rattle.est_syntax.specs.declared.transition.Group.{Group', Row_of-Transition}
use Rattle.est_syntax.specs.declared.transition.Group.{end_of-Transition, more_of-Transition}
use Rattle.rule_scope.specs.declared.declaration.Section.TheVariants as section
use Rattle.rule_scope.specs.declared.declaration.Sort.TheVariants as sort
use Rattle.rule_scope.specs.declared.declaration.Within.{Within}
use Rattle.rule_scope.specs.Outline.{Outline}
use Rattle.rule_scope.specs.Declaring.{with_kind, with_closed, with_header, lying}
use Rattle.rule_kinds.specs.Constants.{constant_place}
use Rattle.rule_kinds.specs.TypeTexts.{named_type}
use Rattle.rule_declares.specs.declared.context.ClauseKind.TheVariants as kind
use Rattle.rule_declares.specs.declared.context.Given.{Given}
use Rattle.rule_declares.specs.Contexts.{dropped, given, under}
use Rattle.rule_declares.specs.Entries.{plain, inner, in_region, in_section}
use Rattle.rule_declares.specs.Lasts.{text_last}
use Rattle.rule_declares.specs.Declares.{formals_declare}
use Rattle.rule_declares.specs.Bodies.{Clausal, statement_place, expr_place, all_by, over_header}
use Rattle.rule_declares.specs.Bodies.{all_named, arm_lying, within_declares, row_statements}
use Rattle.rule_declares.specs.Bodies.{held_declares, row_arms, statement_declares}
use Rattle.rule_declares.specs.Bodies.{statements_declare, clause_declares, clauses_declare}
use Rattle.rule_declares.specs.Bodies.{body_named, body_header, header_given, inside, routine_sort}
use Rattle.rule_declares.specs.Bodies.{routine_named, result_given, head_declares, to_lying}
use Rattle.rule_declares.specs.Bodies.{closed_by, part_declares, row_parts, first_declares}
use Rattle.rule_declares.specs.Bodies.{row_groups, row_transitions, parts_declare}
use Rattle.law_places.specs.Growth.{IsOpen, Grows, g_not, g_then, g_declared, g_amended, g_lying}
use Rattle.law_places.proofs.Placed.{ConstantPlaced, constant_within, text_from, short_text}
use Rattle.law_places.proofs.PlacedParts.{InOrder, FormalPlaced}
use Rattle.law_places.proofs.PlacedBodies.{NamePlaced, StatementPlaced, StatementsPlaced}
use Rattle.law_places.proofs.PlacedBodies.{SecondPlaced, ArmsPlaced, ClausePlaced, PartPlaced}
use Rattle.law_places.proofs.PlacedBodies.{PartsPlaced, FirstPlaced, GroupsPlaced}
use Rattle.law_places.proofs.PlacedBodies.{TransitionsPlaced}
use Rattle.law_places.proofs.Declaring.{short_on}
use Rattle.law_places.proofs.Declaring.{order_on, formal_on, vars_on, consts_grow, types_grow}
use Rattle.law_places.proofs.Declaring.{vars_grow, channel_grows, header_grows, modvars_grow}
use Rattle.law_places.proofs.Declaring.{points_grow, states_grow, statesets_grow, formals_grow}
use Rattle.law_places.proofs.BodiesGoOn.{name_on, one_constant_on, statement_on, statements_on}
use Rattle.law_places.proofs.BodiesGoOn.{arms_on, turn_on, clause_on, clauses_on, part_on, parts_on}
use Rattle.law_places.proofs.BodiesGoOn.{first_on, groups_on, transitions_on, second_on}

-- a statement begins after what it stands after
pub statement_begins : (i j : ℕ) (s : Statement) → StatementPlaced i j s → i ≤ statement_place s
statement_begins i j (statement.Compound' a turn place) h = h.0
statement_begins i j (statement.If' condition a first second place) h = h.2
statement_begins i j (statement.Case' value a arms place) h = h.1
statement_begins i j (statement.While' condition a turn place) h = h.1
statement_begins i j (statement.Repeat' a turn until place) h = h.1
statement_begins i j (statement.For' name from down to a turn place) h = h.1
statement_begins i j (statement.All' name over a turn place) h = h.1
statement_begins i j _ h = h.0

pub statement_ends : (i j : ℕ) (s : Statement) → StatementPlaced i j s → statement_place s ≤ j
statement_ends i j (statement.Compound' a turn place) h = statements_on place j turn h.1
statement_ends i j (statement.If' condition a first second place) h =
    let e = statements_on h.0 h.1 first h.4 in
    let f = second_on h.1 j second h.5 in
    let l = h.3 in omega arith
statement_ends i j (statement.Case' value a arms place) h =
    let e = arms_on h.0 j arms h.3 in let l = h.2 in omega arith
statement_ends i j (statement.While' condition a turn place) h =
    let e = statements_on h.0 j turn h.3 in let l = h.2 in omega arith
statement_ends i j (statement.Repeat' a turn until place) h =
    let e = statements_on place h.0 turn h.2 in
    let l = h.3 in
    let m = h.4 in omega arith
statement_ends i j (statement.For' name from down to a turn place) h =
    let e = statements_on h.0 j turn h.3 in let l = h.2 in omega arith
statement_ends i j (statement.All' name over a turn place) h =
    let e = short_on (suc name.place) h.0 over h.3 in
    let f = statements_on h.0 j turn h.4 in
    let l = h.2 in omega arith
statement_ends i j (statement.Attach own child point place) h =
    let l = h.1 in let m = h.2 in omega arith
statement_ends i j _ h = h.1

constant_begins : (i j : ℕ) (c : Constant) → ConstantPlaced i j c → i ≤ constant_place c
constant_begins i j (constant.Number sign n place) h = h.0
constant_begins i j (constant.Named sign name place) h = h.0
constant_begins i j (constant.Character code place) h = h.0

module _ (R : ℕ → Type 0) (unfinished : Bool) (a b : ℕ) (fits : b ≤ 2 ^ 32) where
  -- statements
  pub arm_grows : (w : Within) (cs : List Constant) (o : Outline) (i j : ℕ)
      → InOrder ConstantPlaced i j cs → a ≤ i → j ≤ b
      → Grows R unfinished a b o (arm_lying w cs o)
  arm_grows w [] o i j h l m = g_not
  arm_grows w (c ∷ cs) o i j h l m =
      let e = constant_begins i h.0 c h.1 in
      let f = constant_within i h.0 c h.1 in
      let g = order_on ConstantPlaced one_constant_on h.0 j cs h.2 in
      g_lying w (constant_place c) (omega arith) (omega arith)

  mutual
    pub within_grows : (w : Within) (own : IsOpen R a w.region) (s : Statement) (o : Outline)
        (i j : ℕ) → StatementPlaced i j s → a ≤ i → j ≤ b
        → Grows R unfinished a b o (within_declares w s o)
    within_grows w own (statement.Compound' x turn place) o i j h l m =
        let q = h.0 in row_grows w own turn o place j h.1 (omega arith) m
    within_grows w own (statement.If' condition x first second place) o i j h l m =
        let p = h.2 in
        let q = h.3 in
        let e = statements_on h.0 h.1 first h.4 in
        let f = second_on h.1 j second h.5 in
        g_then (row_grows w own first o h.0 h.1 h.4 (omega arith) (omega arith))
        (second_grows w own second (row_statements w first o) h.1 j h.5 (omega arith) m)
    within_grows w own (statement.Case' value x arms place) o i j h l m =
        let p = h.1 in let q = h.2 in arms_grow w own arms o h.0 j h.3 (omega arith) m
    within_grows w own (statement.While' condition x turn place) o i j h l m =
        let p = h.1 in let q = h.2 in row_grows w own turn o h.0 j h.3 (omega arith) m
    within_grows w own (statement.Repeat' x turn until place) o i j h l m =
        let p = h.1 in
        let q = h.3 in
        let r = h.4 in
        let e = statements_on place h.0 turn h.2 in
        g_then (row_grows w own turn o place h.0 h.2 (omega arith) (omega arith))
        (g_lying w (expr_place until) (omega arith) (omega arith))
    within_grows w own (statement.For' name from down to x turn place) o i j h l m =
        let p = h.1 in let q = h.2 in row_grows w own turn o h.0 j h.3 (omega arith) m
    within_grows w own (statement.All' name over x turn place) o i j h l m =
        let p = h.1 in
        let q = h.2 in
        let e = short_on (suc name.place) h.0 over h.3 in
        let f = statements_on h.0 j turn h.4 in
        let g = text_from (suc name.place) h.0 over (omega arith)
        (short_text (suc name.place) h.0 over h.3) in
        let v = inner w place in
        let u = in_section section.All v in
        g_then (g_declared v (inr (omega arith)) name (text_last over) (all_by u o over (over_header
        o over))
        (omega arith) (omega arith) (omega arith))
        (row_grows v (inr (omega arith)) turn (all_named v name over o) h.0 j h.4 (omega arith) m)
    within_grows w own _ o i j h l m = g_not

    pub row_grows : (w : Within) (own : IsOpen R a w.region) {n : _} (row : Row_of-Statement n)
        (o : Outline) (i j : ℕ) → StatementsPlaced i j row → a ≤ i → j ≤ b
        → Grows R unfinished a b o (row_statements w row o)
    row_grows w own end_of-Statement o i j h l m = g_not
    row_grows w own (more_of-Statement s rest) o i j h l m =
        let o1 = lying w (statement_place s) o in
        let p = statement_begins i h.0 s h.1 in
        let r = statement_ends i h.0 s h.1 in
        let e = statement_on i h.0 s h.1 in
        let f = statements_on h.0 j rest h.2 in
        g_then (g_lying w (statement_place s) (omega arith) (omega arith))
        (g_then (within_grows w own s o1 i h.0 h.1 l (omega arith))
        (row_grows w own rest (within_declares w s o1) h.0 j h.2 (omega arith) m))

    pub second_grows : (w : Within) (own : IsOpen R a w.region) (s : Held-Statement-If-2)
        (o : Outline) (i j : ℕ) → SecondPlaced i j s → a ≤ i → j ≤ b
        → Grows R unfinished a b o (held_declares w s o)
    second_grows w own held.None' o i j h l m = g_not
    second_grows w own (held.Some' x second) o i j h l m = row_grows w own second o i j h l m

    pub arms_grow : (w : Within) (own : IsOpen R a w.region) {n : _} (row : Row_of-Arm n)
        (o : Outline) (i j : ℕ) → ArmsPlaced i j row → a ≤ i → j ≤ b
        → Grows R unfinished a b o (row_arms w row o)
    arms_grow w own end_of-Arm o i j h l m = g_not
    arms_grow w own (more_of-Arm constants s rest) o i j h l m =
        let o1 = arm_lying w constants o in
        let o2 = lying w (statement_place s) o1 in
        let c = order_on ConstantPlaced one_constant_on i h.0 constants h.2 in
        let p = statement_begins h.0 h.1 s h.3 in
        let r = statement_ends h.0 h.1 s h.3 in
        let e = statement_on h.0 h.1 s h.3 in
        let f = arms_on h.1 j rest h.4 in
        g_then (arm_grows w constants o i h.0 h.2 l (omega arith))
        (g_then (g_lying w (statement_place s) (omega arith) (omega arith))
        (g_then (within_grows w own s o2 h.0 h.1 h.3 (omega arith) (omega arith))
        (arms_grow w own rest (within_declares w s o2) h.1 j h.4 (omega arith) m)))

  pub statements_grow : (w : Within) (own : IsOpen R a w.region) (ss : List Statement) (o : Outline)
      (i j : ℕ) → InOrder StatementPlaced i j ss → a ≤ i → j ≤ b
      → Grows R unfinished a b o (statements_declare w ss o)
  statements_grow w own [] o i j h l m = g_not
  statements_grow w own (s ∷ ss) o i j h l m =
      let p = statement_begins i h.0 s h.1 in
      let r = statement_ends i h.0 s h.1 in
      let e = statement_on i h.0 s h.1 in
      let f = turn_on h.0 j ss h.2 in
      g_then (g_lying w (statement_place s) (omega arith) (omega arith))
      (g_then (within_grows w own s (lying w (statement_place s) o) i h.0 h.1 l (omega arith))
      (statements_grow w own ss (statement_declares w s o) h.0 j h.2 (omega arith) m))

  -- clauses
  pub clause_grows : (w : Within) (own : IsOpen R a w.region) (c : Clause) (gs : List Given)
      (o : Outline) (i j : ℕ) → ClausePlaced i j c → a ≤ i → j ≤ b
      → Grows R unfinished a b o (clause_declares w c (gs, o)).1
  clause_grows w own (clauses.From states place) gs o i j h l m =
      let p = h.0 in
      let q = h.1 in
      g_lying (under w (dropped kind.From gs)) place (omega arith) (omega arith)
  clause_grows w own (clauses.To state place) gs o i j h l m =
      let p = h.0 in
      let q = h.1 in
      g_lying (under w (dropped kind.To gs)) place (omega arith) (omega arith)
  clause_grows w own (clauses.When at signal place) gs o i j h l m =
      let p = h.0 in
      let q = h.1 in
      g_lying (under w (dropped kind.When gs)) place (omega arith) (omega arith)
  clause_grows w own (clauses.Provided condition place) gs o i j h l m =
      let p = h.0 in
      let q = h.1 in
      g_lying (under w (dropped kind.Provided gs)) place (omega arith) (omega arith)
  clause_grows w own (clauses.Otherwise place) gs o i j h l m =
      let p = h.0 in
      let q = h.1 in
      g_lying (under w (dropped kind.Provided gs)) place (omega arith) (omega arith)
  clause_grows w own (clauses.Any names place) gs o i j h l m =
      let p = h.0 in
      let e = vars_on place j names h.1 in
      let v = under w (given kind.Any (Some place) (dropped kind.Any gs)) in
      g_then (g_lying v place (omega arith) (omega arith))
      (vars_grow R unfinished a b fits (in_region section.Any v place) (inr (omega arith))
      names (lying v place o) place j
      h.1 (omega arith) m)
  clause_grows w own (clauses.Priority value place) gs o i j h l m =
      let p = h.0 in
      let q = h.1 in
      g_lying (under w (dropped kind.Priority gs)) place (omega arith) (omega arith)
  clause_grows w own (clauses.Delay least most place) gs o i j h l m =
      let p = h.0 in
      let q = h.1 in
      g_lying (under w (dropped kind.Delay gs)) place (omega arith) (omega arith)

  pub clauses_grow : (w : Within) (own : IsOpen R a w.region) (cs : List Clause) (s : Clausal)
      (i j : ℕ) → InOrder ClausePlaced i j cs → a ≤ i → j ≤ b
      → Grows R unfinished a b s.1 (clauses_declare w cs s).1
  clauses_grow w own [] s i j h l m = g_not
  clauses_grow w own (c ∷ cs) s i j h l m =
      let e = clause_on i h.0 c h.1 in
      let f = clauses_on h.0 j cs h.2 in
      g_then (clause_grows w own c s.0 s.1 i h.0 h.1 l (omega arith))
      (clauses_grow w own cs (clause_declares w c s) h.0 j h.2 (omega arith) m)

  -- bodies and routines
  pub body_named_grows : (w : Within) (own : IsOpen R a w.region) (name : Used) (o : Outline)
      → a ≤ name.place → name.place < b → Grows R unfinished a b o (body_named w name o)
  body_named_grows w own name o l m =
      g_then (g_lying w name.place l (omega arith))
      (g_declared w own name name.place (plain w sort.Body) l m (omega arith))

  pub named_grows : (w : Within) (own : IsOpen R a w.region) (name header : Used) (o : Outline)
      → a ≤ name.place → name.place < b
      → Grows R unfinished a b o (header_given name header (body_named w name o))
  named_grows w own name header o l m =
      let o2 = body_named w name o in
      g_then (g_lying w name.place l (omega arith))
      (g_then (g_declared w own name name.place (plain w sort.Body) l m (omega arith))
      (g_amended (with_header (body_header o2 header)) name.place l (λ e. refl)))

  pub routine_named_grows : (w : Within) (own : IsOpen R a w.region) (name : Used)
      (result : Option Used) (o : Outline) → a ≤ name.place → name.place < b
      → Grows R unfinished a b o (routine_named w name result o)
  routine_named_grows w own name result o l m =
      g_then (g_lying w name.place l (omega arith))
      (g_declared w own name name.place (plain w (routine_sort result)) l m (omega arith))

  pub result_grows : (w : Within) (name : Used) (result : Option Used) (o : Outline) (i j : ℕ)
      → NamePlaced i j result → a ≤ i → j ≤ b → a ≤ name.place
      → Grows R unfinished a b o (result_given w name result o)
  result_grows w name None o i j h l n m = g_not
  result_grows w name (Some u) o i j h l n m =
      let p = h.0 in
      let q = h.1 in
      let o1 = lying w u.place o in
      g_then (g_lying w u.place (omega arith) (omega arith))
      (g_amended (with_kind (named_type o1 u)) name.place m (λ e. refl))

  pub to_grows : (w : Within) (to : Option Used) (o : Outline) (i j : ℕ) → NamePlaced i j to → a ≤ i
      → j ≤ b → Grows R unfinished a b o (to_lying w to o)
  to_grows w None o i j h l m = g_not
  to_grows w (Some u) o i j h l m =
      let p = h.0 in let q = h.1 in g_lying w u.place (omega arith) (omega arith)

  pub closed_grows : (x : Part) (o : Outline) (i j : ℕ) → PartPlaced i j x → a ≤ i
      → Grows R unfinished a b o (closed_by x o)
  unfolding out-Part denote.Hole.Carrier.out
  closed_grows (part.Routine' name formals result x parts statements place) o i j h l =
      let p = h.3 in g_amended (with_closed _) name.place (omega arith) (λ e. refl)
  closed_grows _ o i j h l = g_not

  mutual
    pub part_grows : (w : Within) (own : IsOpen R a w.region) (x : Part) (o : Outline) (i j : ℕ)
        → PartPlaced i j x → a ≤ i → j ≤ b → Grows R unfinished a b o (part_declares w x o)
    part_grows w own (part.Consts cs) o i j h l m = consts_grow R unfinished a b fits w own cs o i j
        h l m
    part_grows w own (part.Types ts) o i j h l m = types_grow R unfinished a b fits w own ts o i j h
        l m
    part_grows w own (part.Channel c) o i j h l m = channel_grows R unfinished a b fits w own c o i
        j h l m
    part_grows w own (part.Header x) o i j h l m = header_grows R unfinished a b fits w own x o i j
        h l m
    part_grows w own (part.Body (Body' name header x parts f y groups)) o i j h l m =
        let p = h.2 in
        let q = h.3 in
        let c = parts_on (suc header.place) h.0 parts h.4 in
        let d = first_on h.0 h.1 f h.5 in
        let e = groups_on h.1 j groups h.6 in
        let o1 = body_named w name o in
        let v = inside w name header o1 in
        let o2 = header_given name header o1 in
        let o3 = row_parts v parts o2 in
        g_then (named_grows w own name header o (omega arith) (omega arith))
        (g_then (parts_grow v (inr (omega arith)) parts o2 (suc header.place) h.0 h.4 (omega arith)
        (omega arith))
        (g_then (first_grows v (inr (omega arith)) f o3 h.0 h.1 h.5 (omega arith) (omega arith))
        (groups_grow v (inr (omega arith)) groups (first_declares v f o3) h.1 j h.6 (omega arith)
        m)))
    part_grows w own (part.Modvars ms) o i j h l m = modvars_grow R unfinished a b fits w own ms o i
        j h l m
    part_grows w own (part.Points ps) o i j h l m = points_grow R unfinished a b fits w own ps o i j
        h l m
    part_grows w own (part.Vars vs) o i j h l m = vars_grow R unfinished a b fits w own vs o i j h l
        m
    part_grows w own (part.States us) o i j h l m = states_grow R unfinished a b fits w own us o i j
        h l m
    part_grows w own (part.StateSets ss) o i j h l m =
        statesets_grow R unfinished a b fits w own ss o i j h l m
    part_grows w own (part.Routine' name formals result x parts statements place) o i j h l m =
        let p = h.3 in
        let q = h.7 in
        let c = order_on FormalPlaced formal_on (suc name.place) h.0 formals h.4 in
        let d = name_on h.0 h.1 result h.5 in
        let e = parts_on h.1 h.2 parts h.6 in
        let f = turn_on place j statements h.8 in
        let v = inner w name.place in
        let o1 = routine_named w name result o in
        let o2 = formals_declare v formals o1 in
        let o3 = head_declares v name formals result o1 in
        g_then (routine_named_grows w own name result o (omega arith) (omega arith))
        (g_then (formals_grow R unfinished a b fits v (inr (omega arith)) formals o1 (suc
        name.place) h.0 h.4 (omega arith)
        (omega arith))
        (g_then (result_grows v name result o2 h.0 h.1 h.5 (omega arith) (omega arith)
        (omega arith))
        (g_then (parts_grow v (inr (omega arith)) parts o3 h.1 h.2 h.6 (omega arith) (omega arith))
        (statements_grow v (inr (omega arith)) statements (row_parts v parts o3) place j h.8 (omega
        arith) m))))

    pub parts_grow : (w : Within) (own : IsOpen R a w.region) {n : _} (row : Row_of-Part n)
        (o : Outline) (i j : ℕ) → PartsPlaced i j row → a ≤ i → j ≤ b
        → Grows R unfinished a b o (row_parts w row o)
    parts_grow w own end_of-Part o i j h l m = g_not
    parts_grow w own (more_of-Part x rest) o i j h l m =
        let e = part_on i h.0 x h.1 in
        let f = parts_on h.0 j rest h.2 in
        let o1 = part_declares w x o in
        g_then (part_grows w own x o i h.0 h.1 l (omega arith))
        (g_then (closed_grows x o1 i h.0 h.1 l)
        (parts_grow w own rest (closed_by x o1) h.0 j h.2 (omega arith) m))

    pub first_grows : (w : Within) (own : IsOpen R a w.region) (f : Held-Body-first) (o : Outline)
        (i j : ℕ) → FirstPlaced i j f → a ≤ i → j ≤ b
        → Grows R unfinished a b o (first_declares w f o)
    first_grows w own first.None' o i j h l m = g_not
    first_grows w own (first.Some' to x parts statements place) o i j h l m =
        let c = name_on i h.0 to h.2 in
        let d = parts_on h.0 h.1 parts h.3 in
        let e = h.4 in
        let f = turn_on place j statements h.5 in
        let v = inner w place in
        let o1 = to_lying w to o in
        g_then (to_grows w to o i h.0 h.2 l (omega arith))
        (g_then (parts_grow v (inr (omega arith)) parts o1 h.0 h.1 h.3 (omega arith) (omega arith))
        (statements_grow v (inr (omega arith)) statements (row_parts v parts o1) place j h.5 (omega
        arith) m))

    pub groups_grow : (w : Within) (own : IsOpen R a w.region) {n : _} (row : Row_of-Group n)
        (o : Outline) (i j : ℕ) → GroupsPlaced i j row → a ≤ i → j ≤ b
        → Grows R unfinished a b o (row_groups w row o)
    groups_grow w own end_of-Group o i j h l m = g_not
    groups_grow w own (more_of-Group (Group' x transitions) rest) o i j h l m =
        let e = transitions_on i h.0 transitions h.1 in
        let f = groups_on h.0 j rest h.2 in
        g_then (transitions_grow w own transitions ([], o) i h.0 h.1 l (omega arith))
        (groups_grow w own rest (row_transitions w transitions ([], o)).1 h.0 j h.2 (omega arith) m)

    pub transitions_grow : (w : Within) (own : IsOpen R a w.region) {n : _}
        (row : Row_of-Transition n) (s : Clausal) (i j : ℕ) → TransitionsPlaced i j row → a ≤ i
        → j ≤ b → Grows R unfinished a b s.1 (row_transitions w row s).1
    transitions_grow w own end_of-Transition s i j h l m = g_not
    transitions_grow w own (more_of-Transition cs name x parts statements place rest) s i j h l m =
        let c = clauses_on i h.0 cs h.4 in
        let p = h.5 in
        let q = h.7 in
        let d = parts_on h.1 h.2 parts h.6 in
        let e = turn_on place h.3 statements h.8 in
        let f = transitions_on h.3 j rest h.9 in
        let s1 = clauses_declare w cs s in
        let v = inner (under w s1.0) place in
        let o1 = row_parts v parts s1.1 in
        g_then (clauses_grow w own cs s i h.0 h.4 l (omega arith))
        (g_then (parts_grow v (inr (omega arith)) parts s1.1 h.1 h.2 h.6 (omega arith) (omega
        arith))
        (g_then (statements_grow v (inr (omega arith)) statements o1 place h.3 h.8 (omega arith)
        (omega arith))
        (transitions_grow w own rest (s1.0, statements_declare v statements o1) h.3 j h.9 (omega
        arith)
        m)))

  pub listed_parts_grow : (w : Within) (own : IsOpen R a w.region) (xs : List Part) (o : Outline)
      (i j : ℕ) → InOrder PartPlaced i j xs → a ≤ i → j ≤ b
      → Grows R unfinished a b o (parts_declare w xs o)
  listed_parts_grow w own [] o i j h l m = g_not
  listed_parts_grow w own (x ∷ xs) o i j h l m =
      let e = part_on i h.0 x h.1 in
      let f = order_on PartPlaced part_on h.0 j xs h.2 in
      let o1 = part_declares w x o in
      g_then (part_grows w own x o i h.0 h.1 l (omega arith))
      (g_then (closed_grows x o1 i h.0 h.1 l)
      (listed_parts_grow w own xs (closed_by x o1) h.0 j h.2 (omega arith) m))
