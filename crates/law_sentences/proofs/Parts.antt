-- Each name that the parts of a specification declare is full, and so is its outline.
use Rattle.std.specs.Option.{option_map_or}
use Rattle.std.specs.Prelude.{flat_map}
use Rattle.std.proofs.Common.{◌≡◌, refl, subst, ℕ, suc, List, [], ◌∷◌, ◌++◌}
use Rattle.std.proofs.Common.{Option, Some, None, arith}
use Rattle.est_syntax.specs.declared.name.Used.{Used}
use Rattle.est_syntax.specs.declared.type_text.TypeText.{TypeText}
use Rattle.est_syntax.specs.declared.type_text.TypeText.TheVariants as text
use Rattle.est_syntax.specs.declared.type_text.VarDef.{VarDef}
use Rattle.est_syntax.specs.declared.statement.Statement.{Statement, Row_of-Statement}
use Rattle.est_syntax.specs.declared.statement.Statement.{end_of-Statement, more_of-Statement}
use Rattle.est_syntax.specs.declared.statement.Statement.{Row_of-Arm, end_of-Arm, more_of-Arm}
use Rattle.est_syntax.specs.declared.statement.Statement.{Held-Statement-If-2}
use Rattle.est_syntax.specs.declared.statement.Statement.TheBlock as held
use Rattle.est_syntax.specs.declared.statement.Statement.TheBlock.{shape-the_row-Statement-1}
use Rattle.est_syntax.specs.declared.statement.Statement.TheVariants as statement
use Rattle.est_syntax.specs.declared.transition.Clause.{Clause}
use Rattle.est_syntax.specs.declared.transition.Clause.TheVariants as clauses
use Rattle.est_syntax.specs.declared.body.Part.{Part, Row_of-Part, end_of-Part, more_of-Part}
use Rattle.est_syntax.specs.declared.body.Part.TheBlock as first
use Rattle.est_syntax.specs.declared.body.Part.TheVariants as part
use Rattle.est_syntax.specs.declared.body.Body.{Body', Row_of-Group, end_of-Group}
use Rattle.est_syntax.specs.declared.body.Body.{more_of-Group, Held-Body-first}
use Rattle.est_syntax.specs.declared.transition.Group.{Group', Row_of-Transition}
use Rattle.est_syntax.specs.declared.transition.Group.{end_of-Transition, more_of-Transition}
use Rattle.rule_scope.specs.declared.declaration.Sort.TheVariants as sort
use Rattle.rule_scope.specs.Outline.{Outline}
use Rattle.rule_scope.specs.Uses.{use_faults, twice_faults}
use Rattle.rule_kinds.specs.TypeTexts.{text_type, text_faults, named_type, text_place, type_faults}
use Rattle.rule_kinds.specs.Dims.{ordinal_faults}
use Rattle.rule_declares.specs.declared.context.Given.{Given}
use Rattle.rule_declares.specs.Lasts.{text_last}
use Rattle.rule_declares.specs.Bodies.{over_header, body_header, outline_of}
use Rattle.est_types.specs.declared.modules.Owner.{Owner}
use Rattle.est_types.specs.declared.modules.Owner.TheVariants as owners
use Rattle.est_types.specs.Scalars.{row_scalars, scalars_faults}
use Rattle.est_types.specs.DeclarationFaults as types
use Rattle.est_types.specs.DeclarationFaults.{declaration_faults}
use Rattle.rule_statements.specs.Statements.{over_by, over_faults, statement_faults}
use Rattle.rule_statements.specs.Statements.{held_statement, row_statements, row_arms}
use Rattle.est_check.specs.Clauses.{domain_faults, clause_faults}
use Rattle.est_check.specs.Clauses.{next_faults}
use Rattle.rule_ports.specs.GivenClauses.{with_clauses, delay_faults}
use Rattle.est_check.specs.BlockFaults as blocks
use Rattle.est_check.specs.BlockFaults.{function_of, block_faults, bodies_faults}
use Rattle.law_sentences.specs.Full.{IsFullAt}
use Rattle.law_sentences.specs.FullOutlines.{OutlinesAreFull}
use Rattle.law_places.specs.Said.{Each, IsSaid, VarDefSaid, RoutineSaid, AllSaid, StatementSaid}
use Rattle.law_places.specs.Said.{StatementsSaid, SecondSaid, ArmsSaid, ClauseSaid, PartSaid}
use Rattle.law_places.specs.Said.{BodySaid, PartsSaid, FirstSaid, GroupsSaid, TransitionsSaid}
use Rattle.law_sentences.specs.WrittenExpressions.{HasConstants}
use Rattle.law_sentences.specs.WrittenParts.{VarDefWritten, StatementWritten, StatementsWritten}
use Rattle.law_sentences.specs.WrittenParts.{SecondWritten, ArmsWritten, ClauseWritten}
use Rattle.law_sentences.specs.WrittenParts.{BlockPartWritten, BlockWritten, FirstWritten}
use Rattle.law_sentences.specs.WrittenParts.{TransitionsWritten, GroupsWritten, PartWritten}
use Rattle.law_sentences.specs.WrittenParts.{PartsWritten}
use Rattle.law_sentences.proofs.NoFaults.{parted}
use Rattle.law_sentences.proofs.SeenUses.{use_seen}
use Rattle.law_sentences.proofs.InForce.{place_by_place}
use Rattle.law_sentences.proofs.TypeKinds.{named_there}
use Rattle.law_sentences.proofs.Declarations.{same_there, of_sort}
use Rattle.law_sentences.proofs.Walk.{OfVarDef, OfStatement, OfStatements, OfSecond, OfArms}
use Rattle.law_sentences.proofs.Walk.{OfClause, OfPart, OfParts, OfFirst, OfGroups, OfTransitions}
use Rattle.law_sentences.proofs.Tables.{each_stands, each_declared}
use Rattle.law_sentences.proofs.Names.{IsSoAt, IsAMember, InTime, InTheEnd, late, consts_full}
use Rattle.law_sentences.proofs.Names.{types_full, text_kind, vardef_full, vars_full, channel_full}
use Rattle.law_sentences.proofs.Names.{points_full, modvars_full, header_full, states_full}
use Rattle.law_sentences.proofs.Names.{statesets_full, formals_full}

module _ (o : Outline) where
  -- the name of an `all`
  over_text : (over : TypeText) → over_header o over ≡ None → over_faults o over ≡ []
      → text_faults o over ≡ []
  over_text (text.Named u) none h =
      let t = text.Named u in
      (parted (text_faults o t) (ordinal_faults (text_type o t) (text_place t))
      (subst (λ x. over_by o t x ≡ []) none h)).0
  over_text (text.Range low high) none h =
      let t = text.Range low high in
      (parted (text_faults o t) (ordinal_faults (text_type o t) (text_place t)) h).0
  over_text (text.Names names place) none h =
      let t = text.Names names place in
      (parted (text_faults o t) (ordinal_faults (text_type o t) (text_place t)) h).0
  over_text (text.Array' x index y of place) none h =
      let t = text.Array' x index y of place in
      (parted (text_faults o t) (ordinal_faults (text_type o t) (text_place t)) h).0
  over_text (text.Fields' x defs place) none h =
      let t = text.Fields' x defs place in
      (parted (text_faults o t) (ordinal_faults (text_type o t) (text_place t)) h).0
  over_text (text.Set' x of place) none h =
      let t = text.Set' x of place in
      (parted (text_faults o t) (ordinal_faults (text_type o t) (text_place t)) h).0

  all_full : (u : Used) (over : TypeText) (k : Option ℕ) → over_header o over ≡ k
      → IsSaid o (AllSaid o over k) u → HasConstants over → over_faults o over ≡ []
      → IsSoAt o u (text_last over)
  all_full u over None is said c h =
      late o sort.Variable (AllSaid o over None) u (text_last over) said (λ e. tt) (λ e q. q.0)
      (λ e q all. of_sort sort.Variable e q.0
      (same_there e.kind (text_type o over) q.1 (text_kind o over c (over_text over is h) all)))
  all_full u over (Some header) is said c h =
      late o sort.ModuleVariable (AllSaid o over (Some header)) u (text_last over) said (λ e. tt)
      (λ e q. q.0)
      (λ e q all. of_sort sort.ModuleVariable e q.0 (([], q.1), (header, q.2)))

  -- statements
  mutual
    unfolding shape-the_row-Statement-1

    statement_full : (f : Option ℕ) (loops : List ℕ) (s : Statement) → StatementSaid o s
        → StatementWritten s → statement_faults o f loops s ≡ []
        → OfStatement (IsSoAt o) (IsAMember o) s
    statement_full f loops (statement.Compound' a turn place) said w h =
        row_full f loops turn said w h
    statement_full f loops (statement.If' condition a (more_of-Statement one end_of-Statement)
        second place) said w h =
        let k = parted _ (held_statement o f loops second) h in
        let l = parted _ (statement_faults o f loops one) k.0 in (
          (statement_full f loops one said.0.0 w.0.0 l.1, tt),
          second_full f loops second said.1 w.1 k.1,
        )
    statement_full f loops (statement.Case' value a arms place) said w h =
        arms_full f loops _ [] arms said w (parted _ (row_arms o f loops _ [] arms) h).1
    statement_full f loops (statement.While' condition a
        (more_of-Statement turn end_of-Statement) place) said w h =
        let k = parted _ (statement_faults o f loops turn) h in
        (statement_full f loops turn said.0 w.0 k.1, tt)
    statement_full f loops (statement.Repeat' a turn until place) said w h =
        row_full f loops turn said w (parted (row_statements o f loops turn) _ h).0
    statement_full f loops (statement.For' name from down to a
        (more_of-Statement turn end_of-Statement) place) said w h =
        let k = parted _ (statement_faults o f _ turn) h in
        (statement_full f _ turn said.0 w.0 k.1, tt)
    statement_full f loops (statement.All' name over a
        (more_of-Statement turn end_of-Statement) place) said w h =
        let k = parted (over_faults o over) (statement_faults o f loops turn) h in (
          all_full name over (over_header o over) refl said.0 w.0 k.0,
          (statement_full f loops turn said.1.0 w.1.0 k.1, tt),
        )
    statement_full f loops _ said w h = tt

    row_full : (f : Option ℕ) (loops : List ℕ) {n : _} (row : Row_of-Statement n)
        → StatementsSaid o row → StatementsWritten row → row_statements o f loops row ≡ []
        → OfStatements (IsSoAt o) (IsAMember o) row
    row_full f loops end_of-Statement said w h = tt
    row_full f loops (more_of-Statement s rest) said w h =
        let k = parted (statement_faults o f loops s) (row_statements o f loops rest) h in
        (statement_full f loops s said.0 w.0 k.0, row_full f loops rest said.1 w.1 k.1)

    second_full : (f : Option ℕ) (loops : List ℕ) (s : Held-Statement-If-2) → SecondSaid o s
        → SecondWritten s → held_statement o f loops s ≡ [] → OfSecond (IsSoAt o) (IsAMember o) s
    second_full f loops held.None' said w h = tt
    second_full f loops (held.Some' a (more_of-Statement s end_of-Statement)) said w h =
        (statement_full f loops s said.0 w.0 h, tt)

    arms_full : (f : Option ℕ) (loops : List ℕ) (host : _) (seen : _) {n : _} (row : Row_of-Arm n)
        → ArmsSaid o row → ArmsWritten row → row_arms o f loops host seen row ≡ []
        → OfArms (IsSoAt o) (IsAMember o) row
    arms_full f loops host seen end_of-Arm said w h = tt
    arms_full f loops host seen (more_of-Arm constants s rest) said w h =
        let k = parted _ (row_arms o f loops host _ rest) h in
        let l = parted _ (statement_faults o f loops s) k.0 in
        (statement_full f loops s said.0 w.0 l.1, arms_full f loops host _ rest said.1 w.1 k.1)

  turn_full : (f : Option ℕ) (ss : List Statement) → Each (StatementSaid o) ss
      → Each StatementWritten ss → flat_map (statement_faults o f []) ss ≡ []
      → Each (OfStatement (IsSoAt o) (IsAMember o)) ss
  turn_full f [] said w h = tt
  turn_full f (s ∷ ss) said w h =
      let k = parted (statement_faults o f [] s) (flat_map (statement_faults o f []) ss) h in
      (statement_full f [] s said.0 w.0 k.0, turn_full f ss said.1 w.1 k.1)

  -- clauses
  domains_full : (vs : List VarDef) → Each (VarDefSaid o) vs → Each VarDefWritten vs
      → flat_map (domain_faults o) vs ≡ [] → Each (OfVarDef (IsSoAt o) (IsAMember o)) vs
  domains_full [] said w h = tt
  domains_full (v ∷ vs) said w h =
      let k = parted (domain_faults o v) (flat_map (domain_faults o) vs) h in
      let l = parted (text_faults o v.text)
      (ordinal_faults (text_type o v.text) (text_place v.text)) k.0 in
      (vardef_full o v said.0 w.0 l.0, domains_full vs said.1 w.1 k.1)

  clause_full : (c : Clause) → ClauseSaid o c → ClauseWritten c → clause_faults o c ≡ []
      → OfClause (IsSoAt o) (IsAMember o) c
  clause_full (clauses.Any names place) said w h =
      domains_full names said w (parted (flat_map (domain_faults o) names) _ h).0
  clause_full _ said w h = tt

  clauses_full : (cs : List Clause) → Each (ClauseSaid o) cs → Each ClauseWritten cs
      → flat_map (clause_faults o) cs ≡ [] → Each (OfClause (IsSoAt o) (IsAMember o)) cs
  clauses_full [] said w h = tt
  clauses_full (c ∷ cs) said w h =
      let k = parted (clause_faults o c) (flat_map (clause_faults o) cs) h in
      (clause_full c said.0 w.0 k.0, clauses_full cs said.1 w.1 k.1)

  -- blocks
  block_part_full : (owner : Owner) (x : Part) → PartSaid o x → BlockPartWritten x
      → types.part_faults o owner x ≡ [] → OfPart (IsSoAt o) (IsAMember o) x
  block_part_full owner (part.Consts cs) said w h = consts_full o cs said h
  block_part_full owner (part.Types ts) said w h = types_full o ts said w h
  block_part_full owner (part.Vars vs) said w h = vars_full o vs said w h
  block_part_full owner _ said w h = absurd w

  block_full : (owner : Owner) {n : _} (row : Row_of-Part n) → PartsSaid o row → BlockWritten row
      → types.row_faults o owner row ≡ [] → OfParts (IsSoAt o) (IsAMember o) row
  block_full owner end_of-Part said w h = tt
  block_full owner (more_of-Part x rest) said w h =
      let k = parted (types.part_faults o owner x) (types.row_faults o owner rest) h in
      (block_part_full owner x said.0 w.0 k.0, block_full owner rest said.1 w.1 k.1)

  first_full : (f : Held-Body-first) → FirstSaid o f → FirstWritten f
      → types.first_faults o f ≡ [] → blocks.first_faults o f ≡ []
      → OfFirst (IsSoAt o) (IsAMember o) f
  first_full first.None' said w h g = tt
  first_full (first.Some' to a parts statements place) said w h g =
      let n = row_scalars o 0 parts in
      let k = parted (next_faults o to) (block_faults o place n statements) g in
      let l = parted (scalars_faults n place)
      (flat_map (statement_faults o None []) statements) k.1 in (
        block_full owners.Body parts said.0 w.0 h,
        turn_full None statements said.1 w.1 l.1,
      )

  -- transitions
  transitions_full : (gs : List Given) {n : _} (row : Row_of-Transition n) → TransitionsSaid o row
      → TransitionsWritten row → types.row_transitions_faults o row ≡ []
      → blocks.row_transitions_faults o gs row ≡ [] → OfTransitions (IsSoAt o) (IsAMember o) row
  transitions_full gs end_of-Transition said w h g = tt
  transitions_full gs (more_of-Transition cs name a parts statements place rest) said w h g =
      let names = flat_map (types.clause_faults o) cs in
      let declared = types.row_faults o owners.Body parts in
      let k = parted (names ++ declared) (types.row_transitions_faults o rest) h in
      let l = parted names declared k.0 in
      let hs = with_clauses gs cs in
      let x = row_scalars o 0 parts in
      let y = block_faults o place x statements in
      let z = flat_map (clause_faults o) cs ++ delay_faults hs in
      let m = parted (z ++ y) (blocks.row_transitions_faults o hs rest) g in
      let n = parted z y m.0 in
      let q = parted (flat_map (clause_faults o) cs) (delay_faults hs) n.0 in
      let r = parted (scalars_faults x place)
      (flat_map (statement_faults o None []) statements) n.1 in (
        clauses_full cs said.0 w.0 q.0,
        block_full owners.Body parts said.1 w.1 l.1,
        turn_full None statements said.2 w.2 r.1,
        transitions_full (with_clauses gs cs) rest said.3 w.3 k.1 m.1,
      )

  groups_full : {n : _} (row : Row_of-Group n) → GroupsSaid o row → GroupsWritten row
      → types.row_groups_faults o row ≡ [] → blocks.row_groups_faults o row ≡ []
      → OfGroups (IsSoAt o) (IsAMember o) row
  groups_full end_of-Group said w h g = tt
  groups_full (more_of-Group (Group' a transitions) rest) said w h g =
      let k = parted (types.row_transitions_faults o transitions)
      (types.row_groups_faults o rest) h in
      let l = parted (blocks.row_transitions_faults o [] transitions)
      (blocks.row_groups_faults o rest) g in (
        transitions_full [] transitions said.0 w.0 k.0 l.0,
        groups_full rest said.1 w.1 k.1 l.1,
      )

  -- bodies and routines
  body_name : (name header : Used) → IsSaid o (BodySaid o header) name
      → use_faults o sort.Header header ≡ [] → IsSoAt o name name.place
  body_name name header said h =
      late o sort.Body (BodySaid o header) name name.place said (λ e. tt) (λ e q. q.0)
      (λ e q all. of_sort sort.Body e q.0
      (same_there e.header (body_header o header) q.1 (use_seen o sort.Header header h)))

  routine_name : (name : Used) (result : Option Used) → IsSaid o (RoutineSaid o result) name
      → option_map_or (type_faults o) result [] ≡ [] → IsSoAt o name name.place
  routine_name name None said h =
      late o sort.Procedure (RoutineSaid o None) name name.place said (λ e. tt) (λ e q. q.0)
      (λ e q all. of_sort sort.Procedure e q.0 tt)
  routine_name name (Some u) said h =
      late o sort.Function (RoutineSaid o (Some u)) name name.place said (λ e. tt) (λ e q. q.0)
      (λ e q all. of_sort sort.Function e q.0
      (same_there e.kind (named_type o u) q.1 (named_there o u (all u) h)))

  -- parts
  mutual
    part_full : (owner : Owner) (x : Part) → PartSaid o x → PartWritten x
        → types.part_faults o owner x ≡ [] → blocks.part_faults o x ≡ []
        → OfPart (IsSoAt o) (IsAMember o) x
    part_full owner (part.Consts cs) said w h g = consts_full o cs said h
    part_full owner (part.Types ts) said w h g = types_full o ts said w h
    part_full owner (part.Channel c) said w h g = channel_full o c said w h
    part_full owner (part.Header x) said w h g = header_full o x said w h
    part_full owner (part.Body (Body' name header a parts f b groups)) said w h g =
        let t1 = twice_faults o name in
        let t2 = types.row_faults o owners.Body parts in
        let t3 = types.first_faults o f in
        let t4 = types.row_groups_faults o groups in
        let t5 = types.first_state_faults (types.row_has_states parts) (types.names_first f)
        name.place in
        let t6 = scalars_faults (row_scalars o 0 parts) name.place in
        let k1 = parted (t1 ++ t2 ++ t3 ++ t4 ++ t5) t6 h in
        let k2 = parted (t1 ++ t2 ++ t3 ++ t4) t5 k1.0 in
        let k3 = parted (t1 ++ t2 ++ t3) t4 k2.0 in
        let k4 = parted (t1 ++ t2) t3 k3.0 in
        let k5 = parted t1 t2 k4.0 in
        let b1 = use_faults o sort.Header header in
        let b2 = blocks.row_faults o parts in
        let b3 = blocks.first_faults o f in
        let l1 = parted (b1 ++ b2 ++ b3) (blocks.row_groups_faults o groups) g in
        let l2 = parted (b1 ++ b2) b3 l1.0 in
        let l3 = parted b1 b2 l2.0 in (
          body_name name header said.0 l3.0,
          parts_full owners.Body parts said.1 w.0 k5.1 l3.1,
          first_full f said.2 w.1 k4.1 l2.1,
          groups_full groups said.3 w.2 k3.1 l1.1,
        )
    part_full owner (part.Modvars ms) said w h g = modvars_full o owner ms said w h
    part_full owner (part.Points ps) said w h g = points_full o ps said w h
    part_full owner (part.Vars vs) said w h g = vars_full o vs said w h
    part_full owner (part.States us) said w h g = states_full o us said
    part_full owner (part.StateSets ss) said w h g = statesets_full o ss said
    part_full owner (part.Routine' name formals result a parts statements place) said w h g =
        let t1 = twice_faults o name in
        let t2 = flat_map (types.formal_faults o result) formals in
        let t3 = option_map_or (type_faults o) result [] in
        let t4 = types.row_faults o owners.Body parts in
        let t5 = scalars_faults (row_scalars o 0 parts) name.place in
        let k1 = parted (t1 ++ t2 ++ t3 ++ t4) t5 h in
        let k2 = parted (t1 ++ t2 ++ t3) t4 k1.0 in
        let k3 = parted (t1 ++ t2) t3 k2.0 in
        let k4 = parted t1 t2 k3.0 in (
          routine_name name result said.0 k3.1,
          formals_full o result formals said.1 k4.1,
          block_full owners.Body parts said.2 w.0 k2.1,
          turn_full (function_of name result) statements said.3 w.1 g,
        )

    parts_full : (owner : Owner) {n : _} (row : Row_of-Part n) → PartsSaid o row
        → PartsWritten row → types.row_faults o owner row ≡ [] → blocks.row_faults o row ≡ []
        → OfParts (IsSoAt o) (IsAMember o) row
    parts_full owner end_of-Part said w h g = tt
    parts_full owner (more_of-Part x rest) said w h g =
        let k = parted (types.part_faults o owner x) (types.row_faults o owner rest) h in
        let l = parted (blocks.part_faults o x) (blocks.row_faults o rest) g in
        (part_full owner x said.0 w.0 k.0 l.0, parts_full owner rest said.1 w.1 k.1 l.1)

  all_parts : (owner : Owner) (xs : List Part) → Each (PartSaid o) xs → Each PartWritten xs
      → flat_map (types.part_faults o owner) xs ≡ [] → flat_map (blocks.part_faults o) xs ≡ []
      → Each (OfPart (IsSoAt o) (IsAMember o)) xs
  all_parts owner [] said w h g = tt
  all_parts owner (x ∷ xs) said w h g =
      let k = parted (types.part_faults o owner x) (flat_map (types.part_faults o owner) xs) h in
      let l = parted (blocks.part_faults o x) (flat_map (blocks.part_faults o) xs) g in
      (part_full owner x said.0 w.0 k.0 l.0, all_parts owner xs said.1 w.1 k.1 l.1)

-- the outline of a specification
pub outline_full : OutlinesAreFull
outline_full s said written h place e is =
    let o = outline_of s in
    let k = parted (declaration_faults s) (bodies_faults s) h in
    let g = parted (flat_map (blocks.part_faults o) s.parts) (statement_faults o None [] s.first) k.1 in
    let tree = all_parts o owners.Specification s.parts said written k.0 g.0 in
    let all : (u : Used) → IsFullAt o u =
    λ u. place_by_place o
    (λ region name x d stands there full. each_stands (InTime o) (InTheEnd o) s tree region name x
    stands d there full) (suc u.place) u (omega arith) in
    each_declared (InTime o) (InTheEnd o) s tree place e is e is all
