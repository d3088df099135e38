-- The bodies of a specification that breaks no rule lack nothing.
use Rattle.std.specs.Prelude.{flat_map}
use Rattle.std.proofs.Common.{◌≡◌, ℕ, List, [], ◌∷◌, ◌++◌, Option, Some, None, subst, length}
use Rattle.est_syntax.specs.declared.body.Body.{Body', Row_of-Group, end_of-Group, more_of-Group}
use Rattle.est_syntax.specs.declared.body.Body.{Held-Body-first}
use Rattle.est_syntax.specs.declared.body.Part.{Part, Row_of-Part, end_of-Part, more_of-Part}
use Rattle.est_syntax.specs.declared.body.Part.TheBlock as first
use Rattle.est_syntax.specs.declared.body.Part.TheVariants as part
use Rattle.est_syntax.specs.declared.constant.Constant.{Constant}
use Rattle.est_syntax.specs.declared.name.Used.{Used}
use Rattle.est_syntax.specs.declared.ports.Direction.TheVariants.{Receives}
use Rattle.est_syntax.specs.declared.rule.Rule.TheVariants as rule
use Rattle.est_syntax.specs.declared.specification.Spec.{Spec}
use Rattle.est_syntax.specs.declared.statement.Statement.{Statement, out-Statement}
use Rattle.est_syntax.specs.declared.statement.Statement.TheVariants as statement
use Rattle.est_syntax.specs.declared.transition.Clause.{Clause}
use Rattle.est_syntax.specs.declared.transition.Clause.TheVariants as clause
use Rattle.est_syntax.specs.declared.transition.Group.{Group', Row_of-Transition, end_of-Transition}
use Rattle.est_syntax.specs.declared.transition.Group.{more_of-Transition}
use Rattle.est_syntax.specs.declared.transition.Most.{Most}
use Rattle.est_syntax.specs.declared.transition.Most.TheVariants as most
use Rattle.est_syntax.specs.declared.type_text.VarDef.{VarDef}
use Rattle.text_reader.specs.Shown.{node}
use Rattle.text_productions.specs.Nodes.{a_specification, first_statement, layer}
use Rattle.rule_scope.specs.Outline.{Outline, entry_at}
use Rattle.rule_scope.specs.Uses.{meaning, use_faults}
use Rattle.rule_scope.specs.declared.declaration.Meant.{Meant}
use Rattle.rule_scope.specs.declared.declaration.Meant.TheVariants as meant
use Rattle.rule_scope.specs.declared.declaration.Sort.TheVariants as sort
use Rattle.rule_kinds.specs.Constants.{constant_value, constant_faults, constant_place}
use Rattle.rule_kinds.specs.declared.value.Valued.{Valued}
use Rattle.rule_declares.specs.Bodies.{outline_of}
use Rattle.rule_declares.specs.declared.context.Given.{Given}
use Rattle.law_places.specs.PlaceOrder.{Stands, o_node, o_pair}
use Rattle.law_places.specs.Said.{Each}
use Rattle.law_places.proofs.Ascending.{specification_stands}
use Rattle.est_types.specs.Scalars.{row_scalars, scalars_faults}
use Rattle.est_types.specs.DeclarationFaults.{declaration_faults}
use Rattle.rule_expressions.specs.declared.operators.Wanted.TheVariants as wanted
use Rattle.rule_statements.specs.Statements.{wanted_faults, statement_faults}
use Rattle.est_check.specs.BlockFaults.{function_of, block_faults, part_faults, row_faults}
use Rattle.est_check.specs.BlockFaults.{first_faults, row_groups_faults, row_transitions_faults}
use Rattle.est_check.specs.BlockFaults.{bodies_faults}
use Rattle.est_check.specs.Clauses.{is_state_sort, state_used, state_faults}
use Rattle.est_check.specs.Clauses.{next_faults, most_faults, clause_faults}
use Rattle.est_check.specs.Clauses.{domain_faults}
use Rattle.rule_ports.specs.GivenClauses.{with_clauses, delay_faults}
use Rattle.est_check.specs.Clauses.{tuples, tuples_faults, is_priority, priority_faults}
use Rattle.law_sentences.specs.Full.{AreFull}
use Rattle.law_sentences.specs.FullExpressions.{IsWhole}
use Rattle.law_sentences.specs.WholeBodies.{IsState, AreStates, IsNext, MostLacksNothing}
use Rattle.law_sentences.specs.WholeBodies.{ClauseLacksNothing, ClausesLackNothing}
use Rattle.law_sentences.specs.WholeBodies.{TextLacksNothing}
use Rattle.law_sentences.specs.WholeBodies.{PartLacksNothing, RowOfPartsLacksNothing}
use Rattle.law_sentences.specs.WholeBodies.{FirstLacksNothing, GroupsLackNothing}
use Rattle.law_sentences.specs.WholeBodies.{TransitionsLackNothing, PartsLackNothing, AreDomains}
use Rattle.law_sentences.specs.WholeBodies.{IsPriority, SpecificationsLackNothing}
use Rattle.law_sentences.specs.WholeBodies.{SentencesLackNothing}
use Rattle.law_sentences.specs.WrittenParts.{VarDefWritten, StatementWritten, ClauseWritten}
use Rattle.law_sentences.specs.WrittenParts.{FirstWritten, TransitionsWritten, GroupsWritten}
use Rattle.law_sentences.specs.WrittenParts.{PartWritten, PartsWritten}
use Rattle.law_sentences.proofs.FullStatements.{signals_full}
use Rattle.law_sentences.proofs.FullTexts.{constant_there, ordinal_kind}
use Rattle.law_sentences.proofs.NoFaults.{parted, unbroken}
use Rattle.law_sentences.proofs.NotBroken.{not_broken, three}
use Rattle.law_sentences.proofs.ParameterOrder.{parameters_first}
use Rattle.law_sentences.proofs.SeenUses.{use_seen}
use Rattle.law_sentences.proofs.Sentences.{sentence_written}
use Rattle.law_sentences.proofs.WholeStatements.{wanted_full, statement_whole}

-- clauses
state_seen : (o : Outline) (m : Meant) (place : ℕ) → state_used o place m ≡ [] → IsState o m
state_seen o meant.Nothing place h = not_broken place rule.UnknownName h
state_seen o (meant.Predeclared n) place h = not_broken place rule.WrongSort h
state_seen o (meant.Unseen p) place h = not_broken place rule.NotSeenHere h
state_seen o (meant.Seen p) place h = unbroken (is_state_sort (entry_at o p)) place rule.WrongSort h

states_seen : (o : Outline) (us : List Used) → flat_map (state_faults o) us ≡ [] → AreStates o us
states_seen o [] h = tt
states_seen o (u ∷ us) h =
    let s = parted (state_faults o u) (flat_map (state_faults o) us) h in
    (state_seen o (meaning o u) u.place s.0, states_seen o us s.1)

next_there : (o : Outline) (u : Option Used) → next_faults o u ≡ [] → IsNext o u
next_there o None h = tt
next_there o (Some u) h = use_seen o sort.State u h

most_whole : (o : Outline) (m : Most) → IsWhole o → most_faults o m ≡ [] → MostLacksNothing o m
most_whole o (most.Value e) w h = wanted_full o wanted.Integer e w h
most_whole o _ w h = tt

domains_whole : (o : Outline) (vs : List VarDef) → AreFull o → Each VarDefWritten vs
    → flat_map (domain_faults o) vs ≡ [] → AreDomains o vs
domains_whole o [] full c h = tt
domains_whole o (v ∷ vs) full c h =
    let s = parted (domain_faults o v) (flat_map (domain_faults o) vs) h in
    (ordinal_kind o v.text full c.0 s.0, domains_whole o vs full c.1 s.1)

priority_whole : (o : Outline) (c : Constant) → AreFull o
    → constant_faults o c ++ priority_faults (constant_value o c) (constant_place c) ≡ []
    → IsPriority o c
priority_whole o c full h =
    let s = parted (constant_faults o c) (priority_faults (constant_value o c) (constant_place c)) h
    in
    let v = constant_there o c full s.0 in (
      v.0,
      v.1,
      unbroken (is_priority v.0) (constant_place c) rule.WrongKind
          (subst (λ (k : Option Valued). priority_faults k (constant_place c) ≡ []) v.1 s.1),
    )

clause_whole : (o : Outline) (c : Clause) → IsWhole o → ClauseWritten c → clause_faults o c ≡ []
    → ClauseLacksNothing o c
clause_whole o (clause.From states place) w c h = states_seen o states h
clause_whole o (clause.To state place) w c h = next_there o state h
clause_whole o (clause.When at signal place) w c h = signals_full o Receives at signal w h
clause_whole o (clause.Provided condition place) w c h = wanted_full o wanted.Boolean condition w h
clause_whole o (clause.Delay least most place) w c h =
    let s = parted (wanted_faults o wanted.Integer least) (most_faults o most) h in
    (wanted_full o wanted.Integer least w s.0, most_whole o most w s.1)
clause_whole o (clause.Any names place) w c h =
    domains_whole o names w.full c
    (parted (flat_map (domain_faults o) names) (tuples_faults (tuples o (Some 1) names) place) h).0
clause_whole o (clause.Priority value place) w c h = priority_whole o value w.full h
clause_whole o (clause.Otherwise place) w c h = tt

clauses_whole : (o : Outline) (cs : List Clause) → IsWhole o → Each ClauseWritten cs
    → flat_map (clause_faults o) cs ≡ []
    → ClausesLackNothing o cs
clauses_whole o [] w d h = tt
clauses_whole o (c ∷ cs) w d h =
    let s = parted (clause_faults o c) (flat_map (clause_faults o) cs) h in
    (clause_whole o c w d.0 s.0, clauses_whole o cs w d.1 s.1)

-- statements
text_whole : (o : Outline) (f : Option ℕ) (ss : List Statement) → IsWhole o
    → Each StatementWritten ss → flat_map (statement_faults o f []) ss ≡ [] → TextLacksNothing o f ss
text_whole o f [] w c h = tt
text_whole o f (s ∷ ss) w c h =
    let q = parted (statement_faults o f [] s) (flat_map (statement_faults o f []) ss) h in
    (statement_whole o f [] s w c.0 q.0, text_whole o f ss w c.1 q.1)

block_whole : (o : Outline) (place scalars : ℕ) (ss : List Statement) → IsWhole o
    → Each StatementWritten ss → block_faults o place scalars ss ≡ [] → TextLacksNothing o None ss
block_whole o place scalars ss w c h =
    text_whole o None ss w c
    (parted (scalars_faults scalars place) (flat_map (statement_faults o None []) ss) h).1

-- parts
mutual
  part_whole : (o : Outline) (p : Part) → IsWhole o → PartWritten p → part_faults o p ≡ []
      → PartLacksNothing o p
  part_whole o (part.Body (Body' name header a parts f b groups)) w c h =
      let s = three (use_faults o sort.Header header ++ row_faults o parts) (first_faults o f)
      (row_groups_faults o groups) h in
      let q = parted (use_faults o sort.Header header) (row_faults o parts) s.0 in (
        use_seen o sort.Header header q.0,
        row_whole o parts w c.0 q.1,
        first_whole o f w c.1 s.1,
        groups_whole o groups w c.2 s.2,
      )
  part_whole o (part.Routine' name formals result a parts statements place) w c h =
      text_whole o (function_of name result) statements w c.1 h
  part_whole o _ w c h = tt

  row_whole : (o : Outline) {n : _} (row : Row_of-Part n) → IsWhole o → PartsWritten row
      → row_faults o row ≡ [] → RowOfPartsLacksNothing o row
  row_whole o end_of-Part w c h = tt
  row_whole o (more_of-Part p rest) w c h =
      let s = parted (part_faults o p) (row_faults o rest) h in
      (part_whole o p w c.0 s.0, row_whole o rest w c.1 s.1)

  first_whole : (o : Outline) (f : Held-Body-first) → IsWhole o → FirstWritten f
      → first_faults o f ≡ [] → FirstLacksNothing o f
  first_whole o first.None' w c h = tt
  first_whole o (first.Some' to a parts statements place) w c h =
      let s = parted (next_faults o to)
      (block_faults o place (row_scalars o 0 parts) statements) h in (
        next_there o to s.0,
        block_whole o place (row_scalars o 0 parts) statements w c.1 s.1,
      )

  groups_whole : (o : Outline) {n : _} (row : Row_of-Group n) → IsWhole o → GroupsWritten row
      → row_groups_faults o row ≡ [] → GroupsLackNothing o row
  groups_whole o end_of-Group w c h = tt
  groups_whole o (more_of-Group (Group' a transitions) rest) w c h =
      let s = parted (row_transitions_faults o [] transitions) (row_groups_faults o rest) h in
      (transitions_whole o [] transitions w c.0 s.0, groups_whole o rest w c.1 s.1)

  transitions_whole : (o : Outline) (gs : List Given) {n : _} (row : Row_of-Transition n)
      → IsWhole o → TransitionsWritten row → row_transitions_faults o gs row ≡ []
      → TransitionsLackNothing o row
  transitions_whole o gs end_of-Transition w c h = tt
  transitions_whole o gs (more_of-Transition cs name a parts statements place rest) w c h =
      let block = block_faults o place (row_scalars o 0 parts) statements in
      let s = parted (flat_map (clause_faults o) cs ++ delay_faults (with_clauses gs cs) ++ block)
      (row_transitions_faults o (with_clauses gs cs) rest) h in
      let q = three (flat_map (clause_faults o) cs) (delay_faults (with_clauses gs cs)) block s.0 in (
        (
          clauses_whole o cs w c.0 q.0,
          block_whole o place (row_scalars o 0 parts) statements w c.2 q.2,
        ),
        transitions_whole o (with_clauses gs cs) rest w c.3 s.1,
      )

pub parts_whole : (o : Outline) (ps : List Part) → IsWhole o → Each PartWritten ps
    → flat_map (part_faults o) ps ≡ [] → PartsLackNothing o ps
parts_whole o [] w c h = tt
parts_whole o (p ∷ ps) w c h =
    let s = parted (part_faults o p) (flat_map (part_faults o) ps) h in
    (part_whole o p w c.0 s.0, parts_whole o ps w c.1 s.1)

pub specification_whole : SpecificationsLackNothing
specification_whole s w c d h =
    let o = outline_of s in
    let b = parted (flat_map (part_faults o) s.parts) (statement_faults o None [] s.first)
    (parted (declaration_faults s) (bodies_faults s) h).1 in
    (parts_whole o s.parts w c b.0, statement_whole o None [] s.first w d b.1)

-- sentences begin with an `init`
first_written : (s : Statement) (i j : ℕ)
    → Stands layer (first_statement (out-Statement s)) i j → StatementWritten s
unfolding out-Statement denote.Hole.Carrier.out
first_written (statement.Init target body arguments place) i j h = tt
first_written (statement.Compound' a turn place) i j h = elim h [ ]
first_written (statement.If' condition a one second place) i j h = elim h [ ]
first_written (statement.Case' value a arms place) i j h = elim h [ ]
first_written (statement.While' condition a turn place) i j h = elim h [ ]
first_written (statement.Repeat' a turn until place) i j h = elim h [ ]
first_written (statement.For' name from down to a turn place) i j h = elim h [ ]
first_written (statement.All' name over a turn place) i j h = elim h [ ]
first_written _ i j h = tt

specification_written : (s : Spec) (n : ℕ) → Stands layer (node (a_specification s)) 0 n
    → StatementWritten s.first
specification_written s n (o_node (o_pair x (o_pair q (o_pair t (o_pair y (o_pair f z)))))) =
    first_written s.first _ _ f

pub sentence_whole : SentencesLackNothing
sentence_whole text tokens s few tree full none =
    let p = parameters_first text tokens s tree in
    specification_whole s record { full = full; first = p.0; kinds = p.1 }
    (sentence_written text tokens s few tree)
    (specification_written s (length tokens) (specification_stands text tokens s tree)) none
