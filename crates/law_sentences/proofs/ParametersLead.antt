-- Parameters stand first in their regions in the outline of every tree whose places ascend.
use Rattle.std.specs.Map.{lookup}
use Rattle.std.specs.Prelude.{if◌then◌else◌, unwrap_or, nat_eq, option_and_then, slice_get}
use Rattle.std.proofs.Common.{◌≡◌, ℕ, suc, ◌<◌, ◌≤◌, Bool, true, false, List, [], ◌∷◌, refl, Option}
use Rattle.std.proofs.Common.{Some, None, arith, sym, ap, subst, ◌∙◌, true≢false, inl, inr}
use Rattle.std.proofs.lemmas.Option.{none-some, cond_some}
use Rattle.est_syntax.specs.declared.body.Body.{Body', Row_of-Group, end_of-Group, more_of-Group}
use Rattle.est_syntax.specs.declared.body.Body.{Held-Body-first}
use Rattle.est_syntax.specs.declared.body.Part.{Part, out-Part, Row_of-Part, end_of-Part}
use Rattle.est_syntax.specs.declared.body.Part.{more_of-Part}
use Rattle.est_syntax.specs.declared.body.Part.TheBlock as first
use Rattle.est_syntax.specs.declared.body.Part.TheVariants as part
use Rattle.est_syntax.specs.declared.constant.Constant.{Constant}
use Rattle.est_syntax.specs.declared.name.Used.{Used}
use Rattle.est_syntax.specs.declared.specification.Spec.{Spec}
use Rattle.est_syntax.specs.declared.statement.Statement.{Statement, Row_of-Statement}
use Rattle.est_syntax.specs.declared.statement.Statement.{end_of-Statement, more_of-Statement}
use Rattle.est_syntax.specs.declared.statement.Statement.{Row_of-Arm, end_of-Arm, more_of-Arm}
use Rattle.est_syntax.specs.declared.statement.Statement.{Held-Statement-If-2}
use Rattle.est_syntax.specs.declared.statement.Statement.TheBlock as held
use Rattle.est_syntax.specs.declared.statement.Statement.TheVariants as statement
use Rattle.est_syntax.specs.declared.transition.Clause.{Clause}
use Rattle.est_syntax.specs.declared.transition.Clause.TheVariants as clauses
use Rattle.est_syntax.specs.declared.transition.Group.{Group', Row_of-Transition, end_of-Transition}
use Rattle.est_syntax.specs.declared.transition.Group.{more_of-Transition}
use Rattle.est_syntax.specs.declared.type_text.TypeText.{TypeText}
use Rattle.rule_scope.specs.Declaring.{with_kind, with_closed, with_header, lying, empty}
use Rattle.rule_scope.specs.Outline.{Outline, Region, names_of, entry_at, nth_in, place_of}
use Rattle.rule_scope.specs.declared.declaration.Entry.{Entry}
use Rattle.rule_scope.specs.declared.declaration.Section.TheVariants as section
use Rattle.rule_scope.specs.declared.declaration.Sort.TheVariants as sort
use Rattle.rule_scope.specs.declared.declaration.Within.{Within}
use Rattle.rule_kinds.specs.Constants.{constant_place}
use Rattle.rule_kinds.specs.TypeTexts.{named_type}
use Rattle.rule_declares.specs.Bodies.{Clausal, statement_place, expr_place, all_by, over_header}
use Rattle.rule_declares.specs.Bodies.{all_named, arm_lying, within_declares, row_statements}
use Rattle.rule_declares.specs.Bodies.{held_declares, row_arms, statement_declares}
use Rattle.rule_declares.specs.Bodies.{statements_declare, clause_declares, clauses_declare}
use Rattle.rule_declares.specs.Bodies.{body_named, body_header, header_given, inside, routine_sort}
use Rattle.rule_declares.specs.Bodies.{routine_named, result_given, head_declares, to_lying}
use Rattle.rule_declares.specs.Bodies.{closed_by, part_declares, row_parts, first_declares}
use Rattle.rule_declares.specs.Bodies.{row_groups, row_transitions, parts_declare, outline_of}
use Rattle.rule_declares.specs.Contexts.{dropped, given, under}
use Rattle.rule_declares.specs.Declares.{formals_declare, vars_declare}
use Rattle.rule_declares.specs.Entries.{plain, inner, in_region, in_section, outermost}
use Rattle.rule_declares.specs.Lasts.{text_last}
use Rattle.rule_declares.specs.declared.context.ClauseKind.TheVariants as kind
use Rattle.rule_declares.specs.declared.context.Given.{Given}
use Rattle.law_places.proofs.BodiesGoOn.{name_on, one_constant_on, statement_on, statements_on}
use Rattle.law_places.proofs.BodiesGoOn.{arms_on, turn_on, clause_on, clauses_on, part_on, parts_on}
use Rattle.law_places.proofs.BodiesGoOn.{first_on, transitions_on, second_on}
use Rattle.law_places.proofs.Declaring.{order_on, formal_on, vars_on, short_on}
use Rattle.law_places.proofs.Placed.{ConstantPlaced}
use Rattle.law_places.proofs.PlacedBodies.{NamePlaced, StatementPlaced, StatementsPlaced}
use Rattle.law_places.proofs.PlacedBodies.{SecondPlaced, ArmsPlaced, ClausePlaced, PartPlaced}
use Rattle.law_places.proofs.PlacedBodies.{PartsPlaced, FirstPlaced, GroupsPlaced}
use Rattle.law_places.proofs.PlacedBodies.{TransitionsPlaced}
use Rattle.law_places.proofs.PlacedParts.{InOrder, FormalPlaced}
use Rattle.rule_expressions.specs.Selections.{is_parameter, parameter_in, parameter_at, parameter}
use Rattle.law_sentences.specs.Full.{IsThere}
use Rattle.law_sentences.specs.FullExpressions.{ParametersStandFirst, ParametersHaveKinds}
use Rattle.law_sentences.proofs.FullOperators.{nowhere}
use Rattle.law_sentences.proofs.Leading.{leads_at}
use Rattle.law_sentences.proofs.ParametersDeclared.{ByPartsApart, opened, formals_add}
use Rattle.law_sentences.proofs.ParametersDeclared.{channel_leads}
use Rattle.law_sentences.proofs.ParametersDeclared.{header_leads}
use Rattle.law_sentences.proofs.ParametersKept.{Item, is_parameter_entry, is_parameter_item}
use Rattle.law_sentences.proofs.ParametersKept.{Leading}
use Rattle.law_sentences.proofs.ParametersKept.{IsBefore, before_later, leading_later}
use Rattle.law_sentences.proofs.ParametersKept.{declared_keeps, amended_keeps, lying_keeps}
use Rattle.law_sentences.proofs.ParametersStay.{Fits, consts_keep, types_keep, vars_keep}
use Rattle.law_sentences.proofs.ParametersStay.{modvars_keep, points_keep, states_keep}
use Rattle.law_sentences.proofs.ParametersStay.{statesets_keep}

-- statements
module _ (B : ℕ → Type 0) (a b : ℕ) where
  all_other : (w : Within) (o : Outline) (over : TypeText) (h : Option ℕ)
      → is_parameter w.section ≡ false → is_parameter (all_by w o over h).section ≡ false
  all_other w o over None is = is
  all_other w o over (Some header) is = is

  arm_keeps : (w : Within) (cs : List Constant) (o : Outline) → Leading B a b o
      → Leading B a b (arm_lying w cs o)
  arm_keeps w [] o k = k
  arm_keeps w (c ∷ cs) o k = lying_keeps a b o w (constant_place c) k

  mutual
    within_keeps : (w : Within) (s : Statement) (o : Outline) (i j : ℕ) → StatementPlaced i j s
        → a ≤ i → j ≤ b → Fits B a b w → Leading B a b o → Leading B a b (within_declares w s o)
    within_keeps w (statement.Compound' x turn place) o i j h l m fit k =
        let q = h.0 in row_keeps w turn o place j h.1 (omega arith) m fit k
    within_keeps w (statement.If' condition x first second place) o i j h l m fit k =
        let p = h.2 in
        let q = h.3 in
        let e = statements_on h.0 h.1 first h.4 in
        let f = second_on h.1 j second h.5 in
        second_keeps w second (row_statements w first o) h.1 j h.5 (omega arith) m fit
        (row_keeps w first o h.0 h.1 h.4 (omega arith) (omega arith) fit k)
    within_keeps w (statement.Case' value x arms place) o i j h l m fit k =
        let p = h.1 in
        let q = h.2 in arms_keep w arms o h.0 j h.3 (omega arith) m fit k
    within_keeps w (statement.While' condition x turn place) o i j h l m fit k =
        let p = h.1 in
        let q = h.2 in row_keeps w turn o h.0 j h.3 (omega arith) m fit k
    within_keeps w (statement.Repeat' x turn until place) o i j h l m fit k =
        let p = h.1 in
        let q = h.3 in
        let r = h.4 in
        lying_keeps a b (row_statements w turn o) w (expr_place until)
        (row_keeps w turn o place h.0 h.2 (omega arith) (omega arith) fit k)
    within_keeps w (statement.For' name from down to x turn place) o i j h l m fit k =
        let p = h.1 in
        let q = h.2 in row_keeps w turn o h.0 j h.3 (omega arith) m fit k
    within_keeps w (statement.All' name over x turn place) o i j h l m fit k =
        let p = h.1 in
        let q = h.2 in
        let e = short_on (suc name.place) h.0 over h.3 in
        let f = statements_on h.0 j turn h.4 in
        let v = inner w place in
        let u = in_section section.All v in
        let d = all_by u o over (over_header o over) in
        let n : place < b = omega arith in
        row_keeps v turn (all_named v name over o) h.0 j h.4 (omega arith) m (λ r y z. inl n, refl)
        (declared_keeps a b o v name (text_last over) d (omega arith) (omega arith)
        (inl n, all_other u o over (over_header o over) refl) k)
    within_keeps w _ o i j h l m fit k = k

    row_keeps : (w : Within) {n : _} (row : Row_of-Statement n) (o : Outline) (i j : ℕ)
        → StatementsPlaced i j row → a ≤ i → j ≤ b → Fits B a b w → Leading B a b o
        → Leading B a b (row_statements w row o)
    row_keeps w end_of-Statement o i j h l m fit k = k
    row_keeps w (more_of-Statement s rest) o i j h l m fit k =
        let o1 = lying w (statement_place s) o in
        let e = statement_on i h.0 s h.1 in
        let f = statements_on h.0 j rest h.2 in
        row_keeps w rest (within_declares w s o1) h.0 j h.2 (omega arith) m fit
        (within_keeps w s o1 i h.0 h.1 l (omega arith) fit
        (lying_keeps a b o w (statement_place s) k))

    second_keeps : (w : Within) (s : Held-Statement-If-2) (o : Outline) (i j : ℕ)
        → SecondPlaced i j s → a ≤ i → j ≤ b → Fits B a b w → Leading B a b o
        → Leading B a b (held_declares w s o)
    second_keeps w held.None' o i j h l m fit k = k
    second_keeps w (held.Some' x second) o i j h l m fit k = row_keeps w second o i j h l m fit k

    arms_keep : (w : Within) {n : _} (row : Row_of-Arm n) (o : Outline) (i j : ℕ)
        → ArmsPlaced i j row → a ≤ i → j ≤ b → Fits B a b w → Leading B a b o
        → Leading B a b (row_arms w row o)
    arms_keep w end_of-Arm o i j h l m fit k = k
    arms_keep w (more_of-Arm constants s rest) o i j h l m fit k =
        let o1 = arm_lying w constants o in
        let o2 = lying w (statement_place s) o1 in
        let c = order_on ConstantPlaced one_constant_on i h.0 constants h.2 in
        let e = statement_on h.0 h.1 s h.3 in
        let f = arms_on h.1 j rest h.4 in
        arms_keep w rest (within_declares w s o2) h.1 j h.4 (omega arith) m fit
        (within_keeps w s o2 h.0 h.1 h.3 (omega arith) (omega arith) fit
        (lying_keeps a b o1 w (statement_place s) (arm_keeps w constants o k)))

  statements_keep : (w : Within) (ss : List Statement) (o : Outline) (i j : ℕ)
      → InOrder StatementPlaced i j ss → a ≤ i → j ≤ b → Fits B a b w → Leading B a b o
      → Leading B a b (statements_declare w ss o)
  statements_keep w [] o i j h l m fit k = k
  statements_keep w (s ∷ ss) o i j h l m fit k =
      let e = statement_on i h.0 s h.1 in
      let f = turn_on h.0 j ss h.2 in
      statements_keep w ss (statement_declares w s o) h.0 j h.2 (omega arith) m fit
      (within_keeps w s (lying w (statement_place s) o) i h.0 h.1 l (omega arith) fit
      (lying_keeps a b o w (statement_place s) k))

-- no routine, header or interaction has its name at the place of a block
abbrev mutual
  pub PartApart : (ℕ → Type 0) → Part → Type 0
  PartApart B (part.Channel c) = ByPartsApart B c.by
  PartApart B (part.Header x) = B x.name.place → ⊥
  PartApart B (part.Body (Body' name header x parts f y groups)) =
      RowApart B parts × FirstApart B f × GroupsApart B groups
  PartApart B (part.Routine' name formals result x parts statements place) =
      (B name.place → ⊥) × RowApart B parts
  PartApart B _ = Unit {0}

  pub RowApart : (ℕ → Type 0) → {n : _} → Row_of-Part n → Type 0
  RowApart B end_of-Part = Unit {0}
  RowApart B (more_of-Part x rest) = PartApart B x × RowApart B rest

  pub FirstApart : (ℕ → Type 0) → Held-Body-first → Type 0
  FirstApart B first.None' = Unit {0}
  FirstApart B (first.Some' to x parts statements place) = B place × RowApart B parts

  pub GroupsApart : (ℕ → Type 0) → {n : _} → Row_of-Group n → Type 0
  GroupsApart B end_of-Group = Unit {0}
  GroupsApart B (more_of-Group (Group' x transitions) rest) =
      TransitionsApart B transitions × GroupsApart B rest

  pub TransitionsApart : (ℕ → Type 0) → {n : _} → Row_of-Transition n → Type 0
  TransitionsApart B end_of-Transition = Unit {0}
  TransitionsApart B (more_of-Transition cs name x parts statements place rest) =
      B place × RowApart B parts × TransitionsApart B rest

-- what declares in a region before a place, by a section without parameters
abbrev pub IsOpen : (ℕ → Type 0) → ℕ → Within → Type 0
IsOpen B i w = IsBefore B i w.region × (is_parameter w.section ≡ false)

fits : (B : ℕ → Type 0) (i j : ℕ) (w : Within) → IsOpen B i w → Fits B i j w
fits B i j w is = (λ q l m. before_later B i j w.region (omega arith) is.0, is.1)

open_later : (B : ℕ → Type 0) (i j : ℕ) (w : Within) → i ≤ j → IsOpen B i w → IsOpen B j w
open_later B i j w l is = (before_later B i j w.region l is.0, is.1)

-- what is kept between two places leads at the second
module _ {B : ℕ → Type 0} (i j : ℕ) (o p : Outline) (l : i ≤ j)
    (keeps : Leading B i j o → Leading B i j p) where
  lead_on : Leading B i i o → Leading B j j p
  lead_on k =
      leading_later i j j j p l (omega arith) (keeps (leading_later i i i j o (omega arith) l k))

pub statements_lead : {B : ℕ → Type 0} (w : Within) (ss : List Statement) (o : Outline) (i j : ℕ)
    → InOrder StatementPlaced i j ss → IsOpen B i w → Leading B i i o
    → Leading B j j (statements_declare w ss o)
statements_lead {B} w ss o i j h is =
    lead_on i j o (statements_declare w ss o) (turn_on i j ss h)
    (statements_keep B i j w ss o i j h (omega arith) (omega arith) (fits B i j w is))

-- clauses
pub clause_leads : {B : ℕ → Type 0} (w : Within) (c : Clause) (gs : List Given) (o : Outline)
    (i j : ℕ) → ClausePlaced i j c → Leading B i i o → Leading B j j (clause_declares w c (gs, o)).1
clause_leads w (clauses.From states place) gs o i j h k =
    let e = clause_on i j (clauses.From states place) h in
    lying_keeps j j o (under w (dropped kind.From gs)) place (leading_later i i j j o e e k)
clause_leads w (clauses.To state place) gs o i j h k =
    let e = clause_on i j (clauses.To state place) h in
    lying_keeps j j o (under w (dropped kind.To gs)) place (leading_later i i j j o e e k)
clause_leads w (clauses.When at signal place) gs o i j h k =
    let e = clause_on i j (clauses.When at signal place) h in
    lying_keeps j j o (under w (dropped kind.When gs)) place (leading_later i i j j o e e k)
clause_leads w (clauses.Provided condition place) gs o i j h k =
    let e = clause_on i j (clauses.Provided condition place) h in
    lying_keeps j j o (under w (dropped kind.Provided gs)) place (leading_later i i j j o e e k)
clause_leads w (clauses.Otherwise place) gs o i j h k =
    let e = clause_on i j (clauses.Otherwise place) h in
    lying_keeps j j o (under w (dropped kind.Provided gs)) place (leading_later i i j j o e e k)
clause_leads {B} w (clauses.Any names place) gs o i j h k =
    let p = h.0 in
    let e = vars_on place j names h.1 in
    let v = under w (given kind.Any (Some place) (dropped kind.Any gs)) in
    let u = in_region section.Any v place in
    lead_on place j (lying v place o) (vars_declare u names (lying v place o)) e
    (vars_keep B place j u names (lying v place o) place j h.1 (omega arith) (omega arith)
    (λ q l m. inl (omega arith), refl))
    (lying_keeps place place o v place (leading_later i i place place o p p k))
clause_leads w (clauses.Priority value place) gs o i j h k =
    let e = clause_on i j (clauses.Priority value place) h in
    lying_keeps j j o (under w (dropped kind.Priority gs)) place (leading_later i i j j o e e k)
clause_leads w (clauses.Delay least most place) gs o i j h k =
    let e = clause_on i j (clauses.Delay least most place) h in
    lying_keeps j j o (under w (dropped kind.Delay gs)) place (leading_later i i j j o e e k)

pub clauses_lead : {B : ℕ → Type 0} (w : Within) (cs : List Clause) (s : Clausal) (i j : ℕ)
    → InOrder ClausePlaced i j cs → Leading B i i s.1 → Leading B j j (clauses_declare w cs s).1
clauses_lead w [] s i j h k = leading_later i i j j s.1 h h k
clauses_lead w (c ∷ cs) s i j h k =
    clauses_lead w cs (clause_declares w c s) h.0 j h.2 (clause_leads w c s.0 s.1 i h.0 h.1 k)

-- bodies and routines
pub named_leads : {B : ℕ → Type 0} (w : Within) (name header : Used) (o : Outline) (i : ℕ)
    → i ≤ name.place
    → IsOpen B i w → Leading B i i o
    → Leading B (suc name.place) (suc name.place) (header_given name header (body_named w name o))
named_leads {B} w name header o i l is k =
    let c = suc name.place in
    let o1 = lying w name.place o in
    let o2 = body_named w name o in
    leading_later i c c c (header_given name header o2) (omega arith) (omega arith)
    (amended_keeps i c o2 (with_header (body_header o2 header)) name.place (λ e. (refl, refl))
    (declared_keeps i c o1 w name name.place (plain w sort.Body) l (omega arith)
    (before_later B i c w.region (omega arith) is.0, is.1)
    (lying_keeps i c o w name.place (leading_later i i i c o (omega arith) (omega arith) k))))

result_leads : {B : ℕ → Type 0} (w : Within) (name : Used) (result : Option Used) (o : Outline)
    (i j : ℕ)
    → NamePlaced i j result → Leading B i i o → Leading B j j (result_given w name result o)
result_leads w name None o i j h k = leading_later i i j j o h h k
result_leads w name (Some u) o i j h k =
    let e = name_on i j (Some u) h in
    let o1 = lying w u.place o in
    amended_keeps j j o1 (with_kind (named_type o1 u)) name.place (λ e. (refl, refl))
    (lying_keeps j j o w u.place (leading_later i i j j o e e k))

to_leads : {B : ℕ → Type 0} (w : Within) (to : Option Used) (o : Outline) (i j : ℕ)
    → NamePlaced i j to
    → Leading B i i o → Leading B j j (to_lying w to o)
to_leads w None o i j h k = leading_later i i j j o h h k
to_leads w (Some u) o i j h k =
    let e = name_on i j (Some u) h in
    lying_keeps j j o w u.place (leading_later i i j j o e e k)

pub closed_leads : {B : ℕ → Type 0} (x : Part) (o : Outline) (j : ℕ) → Leading B j j o
    → Leading B j j (closed_by x o)
unfolding out-Part denote.Hole.Carrier.out
closed_leads (part.Routine' name formals result x parts statements place) o j k =
    amended_keeps j j o (with_closed _) name.place (λ e. (refl, refl)) k
closed_leads _ o j k = k

mutual
  pub part_leads : {B : ℕ → Type 0} (w : Within) (x : Part) (o : Outline) (i j : ℕ)
      → PartPlaced i j x → IsOpen B i w → PartApart B x → Leading B i i o
      → Leading B j j (part_declares w x o)
  part_leads {B} w (part.Consts cs) o i j h is out k =
      lead_on i j o (part_declares w (part.Consts cs) o) (part_on i j (part.Consts cs) h)
      (consts_keep B i j w cs o i j h (omega arith) (omega arith) (fits B i j w is)) k
  part_leads {B} w (part.Types ts) o i j h is out k =
      lead_on i j o (part_declares w (part.Types ts) o) (part_on i j (part.Types ts) h)
      (types_keep B i j w ts o i j h (omega arith) (omega arith) (fits B i j w is)) k
  part_leads w (part.Channel c) o i j h is out k = channel_leads w c o i j h is.0 is.1 out k
  part_leads w (part.Header x) o i j h is out k = header_leads w x o i j h is.0 is.1 out k
  part_leads w (part.Body (Body' name header x parts f y groups)) o i j h is out k =
      let q = h.3 in
      let o1 = body_named w name o in
      let v = inside w name header o1 in
      let o2 = header_given name header o1 in
      let o3 = row_parts v parts o2 in
      let d = parts_on (suc header.place) h.0 parts h.4 in
      let e = first_on h.0 h.1 f h.5 in
      groups_lead v groups (first_declares v f o3) h.1 j h.6 (inl (omega arith), refl) out.2
      (first_leads v f o3 h.0 h.1 h.5 (inl (omega arith), refl) out.1
      (parts_lead v parts o2 (suc header.place) h.0 h.4 (inl (omega arith), refl) out.0
      (leading_later (suc name.place) (suc name.place) (suc header.place) (suc header.place) o2
      (omega arith) (omega arith) (named_leads w name header o i h.2 is k))))
  part_leads {B} w (part.Modvars ms) o i j h is out k =
      lead_on i j o (part_declares w (part.Modvars ms) o) (part_on i j (part.Modvars ms) h)
      (modvars_keep B i j w ms o i j h (omega arith) (omega arith) (fits B i j w is)) k
  part_leads {B} w (part.Points ps) o i j h is out k =
      lead_on i j o (part_declares w (part.Points ps) o) (part_on i j (part.Points ps) h)
      (points_keep B i j w ps o i j h (omega arith) (omega arith) (fits B i j w is)) k
  part_leads {B} w (part.Vars vs) o i j h is out k =
      lead_on i j o (part_declares w (part.Vars vs) o) (part_on i j (part.Vars vs) h)
      (vars_keep B i j w vs o i j h (omega arith) (omega arith) (fits B i j w is)) k
  part_leads {B} w (part.States us) o i j h is out k =
      lead_on i j o (part_declares w (part.States us) o) (part_on i j (part.States us) h)
      (states_keep B i j w us o i j h (omega arith) (omega arith) (fits B i j w is)) k
  part_leads {B} w (part.StateSets ss) o i j h is out k =
      lead_on i j o (part_declares w (part.StateSets ss) o) (part_on i j (part.StateSets ss) h)
      (statesets_keep B i j w ss o i j h (omega arith) (omega arith) (fits B i j w is)) k
  part_leads w (part.Routine' name formals result x parts statements place) o i j h is out k =
      let q = h.7 in
      let c = order_on FormalPlaced formal_on (suc name.place) h.0 formals h.4 in
      let d = name_on h.0 h.1 result h.5 in
      let e = parts_on h.1 h.2 parts h.6 in
      let v = inner w name.place in
      let o1 = routine_named w name result o in
      let o2 = formals_declare v formals o1 in
      let o3 = head_declares v name formals result o1 in
      let s = plain w (routine_sort result) in
      let k1 = opened i (lying w name.place o) w name name.place s h.3 is.0 out.0 is.1
      (lying_keeps i i o w name.place k) in
      let k2 = (formals_add name.place v formals o1 (suc name.place) h.0 h.4 refl k1).leading in
      let k3 = parts_lead v parts o3 h.1 h.2 h.6 (inl (omega arith), refl) out.1
      (result_leads v name result o2 h.0 h.1 h.5 k2) in
      statements_lead v statements (row_parts v parts o3) place j h.8 (inl (omega arith), refl)
      (leading_later h.2 h.2 place place (row_parts v parts o3) q q k3)

  pub parts_lead : {B : ℕ → Type 0} (w : Within) {n : _} (row : Row_of-Part n) (o : Outline)
      (i j : ℕ) → PartsPlaced i j row → IsOpen B i w → RowApart B row → Leading B i i o
      → Leading B j j (row_parts w row o)
  parts_lead w end_of-Part o i j h is out k = leading_later i i j j o h h k
  parts_lead {B} w (more_of-Part x rest) o i j h is out k =
      let o1 = part_declares w x o in
      parts_lead w rest (closed_by x o1) h.0 j h.2
      (open_later B i h.0 w (part_on i h.0 x h.1) is) out.1
      (closed_leads x o1 h.0 (part_leads w x o i h.0 h.1 is out.0 k))

  pub first_leads : {B : ℕ → Type 0} (w : Within) (f : Held-Body-first) (o : Outline) (i j : ℕ)
      → FirstPlaced i j f → IsOpen B i w → FirstApart B f → Leading B i i o
      → Leading B j j (first_declares w f o)
  first_leads w first.None' o i j h is out k = leading_later i i j j o h h k
  first_leads w (first.Some' to x parts statements place) o i j h is out k =
      let v = inner w place in
      let o1 = to_lying w to o in
      statements_lead v statements (row_parts v parts o1) place j h.5 (inr out.0, refl)
      (leading_later h.1 h.1 place place (row_parts v parts o1) h.4 h.4
      (parts_lead v parts o1 h.0 h.1 h.3 (inr out.0, refl) out.1 (to_leads w to o i h.0 h.2 k)))

  groups_lead : {B : ℕ → Type 0} (w : Within) {n : _} (row : Row_of-Group n) (o : Outline)
      (i j : ℕ) → GroupsPlaced i j row → IsOpen B i w → GroupsApart B row → Leading B i i o
      → Leading B j j (row_groups w row o)
  groups_lead w end_of-Group o i j h is out k = leading_later i i j j o h h k
  groups_lead {B} w (more_of-Group (Group' x transitions) rest) o i j h is out k =
      let e = transitions_on i h.0 transitions h.1 in
      groups_lead w rest (row_transitions w transitions ([], o)).1 h.0 j h.2
      (open_later B i h.0 w e is) out.1
      (transitions_lead w transitions ([], o) i h.0 h.1 is out.0 k)

  pub transitions_lead : {B : ℕ → Type 0} (w : Within) {n : _} (row : Row_of-Transition n)
      (s : Clausal) (i j : ℕ) → TransitionsPlaced i j row → IsOpen B i w
      → TransitionsApart B row → Leading B i i s.1 → Leading B j j (row_transitions w row s).1
  transitions_lead w end_of-Transition s i j h is out k = leading_later i i j j s.1 h h k
  transitions_lead {B} w (more_of-Transition cs name x parts statements place rest) s i j h is out
      k =
      let c = clauses_on i h.0 cs h.4 in
      let p = h.5 in
      let q = h.7 in
      let d = parts_on h.1 h.2 parts h.6 in
      let e = turn_on place h.3 statements h.8 in
      let s1 = clauses_declare w cs s in
      let v = inner (under w s1.0) place in
      let o1 = row_parts v parts s1.1 in
      transitions_lead w rest (s1.0, statements_declare v statements o1) h.3 j h.9
      (open_later B i h.3 w (omega arith) is) out.2
      (statements_lead v statements o1 place h.3 h.8 (inr out.0, refl)
      (leading_later h.2 h.2 place place o1 q q
      (parts_lead v parts s1.1 h.1 h.2 h.6 (inr out.0, refl) out.1
      (leading_later h.0 h.0 h.1 h.1 s1.1 p p (clauses_lead w cs s i h.0 h.4 k)))))

-- the parts of a specification
abbrev pub AllApart : (ℕ → Type 0) → List Part → Type 0
AllApart B [] = Unit {0}
AllApart B (x ∷ xs) = PartApart B x × AllApart B xs

listed_lead : {B : ℕ → Type 0} (w : Within) (xs : List Part) (o : Outline) (i j : ℕ)
    → InOrder PartPlaced i j xs → IsOpen B i w → AllApart B xs → Leading B i i o
    → Leading B j j (parts_declare w xs o)
listed_lead w [] o i j h is out k = leading_later i i j j o h h k
listed_lead {B} w (x ∷ xs) o i j h is out k =
    let o1 = part_declares w x o in
    listed_lead w xs (closed_by x o1) h.0 j h.2 (open_later B i h.0 w (part_on i h.0 x h.1) is)
    out.1 (closed_leads x o1 h.0 (part_leads w x o i h.0 h.1 is out.0 k))

pub nothing_leads : (B : ℕ → Type 0) (i : ℕ) → Leading B i i empty
nothing_leads B i = record {
  parameters = λ q e h p. absurd (none-some e h);
  items = λ r. tt;
  fresh = λ r n m. refl;
  leads = λ r. tt;
}

pub outline_leads : {B : ℕ → Type 0} (s : Spec) (i j : ℕ) → 0 < i → InOrder PartPlaced i j s.parts
    → AllApart B s.parts → Leading B j j (outline_of s)
outline_leads {B} s i j l h out =
    lying_keeps j j (parts_declare outermost s.parts empty) outermost (statement_place s.first)
    (listed_lead outermost s.parts empty i j h (inl l, refl) out (nothing_leads B i))

-- what leads stands first
shown : (d : Option Entry) → IsThere (option_and_then parameter_in d)
    → is_parameter_entry d ≡ true
shown None h = nowhere h
shown (Some e) h = (cond_some (is_parameter e.section) e h.0 h.1).0

there : (d : Option Entry) → is_parameter_entry d ≡ true
    → IsThere (option_and_then parameter_in d)
there None h = absurd (true≢false (sym h))
there (Some e) h = (e, ap (λ (b : Bool). if b then Some e else None) h)

nth_names : (x : Option Region) (n : ℕ) → nth_in x n ≡ place_of (slice_get (unwrap_or x []) n)
nth_names None n = refl
nth_names (Some names) n = refl

pub leading_first : {B : ℕ → Type 0} (a b : ℕ) (o : Outline) → Leading B a b o
    → ParametersStandFirst o
leading_first a b o k r i n l h =
    by (slice_get (names_of o r) n) refl
    (subst (λ (p : Option ℕ). IsThere (parameter_at o p))
    (nth_names (lookup (nat_eq r) o.regions) n)
    h)
  where
    by : (x : Option Item) → slice_get (names_of o r) n ≡ x
        → IsThere (parameter_at o (place_of x)) → IsThere (parameter o r i)
    by None is h = nowhere h
    by (Some y) is h =
        let s = leads_at (is_parameter_item o) (names_of o r) i n y (k.leads r) l is
        (shown (entry_at o y.1.place) h) in
        subst (λ (p : Option ℕ). IsThere (parameter_at o p))
        (sym (nth_names (lookup (nat_eq r) o.regions) i ∙ ap place_of s.1))
        (there (entry_at o s.0.1.place) s.2)

pub leading_kinds : {B : ℕ → Type 0} (a b : ℕ) (o : Outline) → Leading B a b o
    → ParametersHaveKinds o
leading_kinds a b o k place e is p = (k.parameters place e is p).1
