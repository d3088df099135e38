-- Each name that the parts of a specification declare is sound, and so is what its outline has.
use Rattle.std.proofs.Common.{ℕ, List, [], ◌∷◌, Option, Some, None}
use Rattle.est_syntax.specs.declared.name.Used.{Used}
use Rattle.est_syntax.specs.declared.type_text.TypeText.{TypeText}
use Rattle.est_syntax.specs.declared.statement.Statement.{Statement, Row_of-Statement}
use Rattle.est_syntax.specs.declared.statement.Statement.{end_of-Statement, more_of-Statement}
use Rattle.est_syntax.specs.declared.statement.Statement.{Row_of-Arm, end_of-Arm, more_of-Arm}
use Rattle.est_syntax.specs.declared.statement.Statement.{Held-Statement-If-2}
use Rattle.est_syntax.specs.declared.statement.Statement.TheBlock as held
use Rattle.est_syntax.specs.declared.statement.Statement.TheVariants as statement
use Rattle.est_syntax.specs.declared.transition.Clause.{Clause}
use Rattle.est_syntax.specs.declared.transition.Clause.TheVariants as clauses
use Rattle.est_syntax.specs.declared.body.Part.{Part, Row_of-Part, end_of-Part, more_of-Part}
use Rattle.est_syntax.specs.declared.body.Part.TheBlock as first
use Rattle.est_syntax.specs.declared.body.Part.TheVariants as part
use Rattle.est_syntax.specs.declared.body.Body.{Body', Row_of-Group, end_of-Group}
use Rattle.est_syntax.specs.declared.body.Body.{more_of-Group, Held-Body-first}
use Rattle.est_syntax.specs.declared.transition.Group.{Group', Row_of-Transition}
use Rattle.est_syntax.specs.declared.transition.Group.{end_of-Transition, more_of-Transition}
use Rattle.rule_scope.specs.declared.declaration.Sort.TheVariants as sort
use Rattle.rule_scope.specs.Outline.{Outline}
use Rattle.rule_kinds.specs.TypeTexts.{named_type, text_type}
use Rattle.rule_declares.specs.Lasts.{text_last}
use Rattle.rule_declares.specs.Bodies.{over_header}
use Rattle.law_places.specs.Said.{Each, IsSaid, RoutineSaid, AllSaid, StatementSaid, StatementsSaid}
use Rattle.law_places.specs.Said.{SecondSaid, ArmsSaid, ClauseSaid, PartSaid, PartsSaid, FirstSaid}
use Rattle.law_places.specs.Said.{BodySaid, GroupsSaid, TransitionsSaid}
use Rattle.law_sentences.specs.WrittenParts.{ClauseWritten, BlockPartWritten, BlockWritten}
use Rattle.law_sentences.specs.WrittenParts.{FirstWritten, TransitionsWritten, GroupsWritten}
use Rattle.law_sentences.specs.WrittenParts.{PartWritten, PartsWritten}
use Rattle.law_sentences.proofs.Walk.{OfStatement, OfStatements, OfSecond, OfArms, OfClause, OfPart}
use Rattle.law_sentences.proofs.Walk.{OfParts, OfFirst, OfGroups, OfTransitions}
use Rattle.law_texts.proofs.Spelt.{ShortSpelt, StatementSpelt, StatementsSpelt, SecondSpelt}
use Rattle.law_texts.proofs.Spelt.{ArmsSpelt, ClauseSpelt, PartSpelt, PartsSpelt, FirstSpelt}
use Rattle.law_texts.proofs.Spelt.{GroupsSpelt, TransitionsSpelt}
use Rattle.law_texts.proofs.SoundTexts.{named_sound}
use Rattle.law_texts.proofs.SoundNames.{IsSoAt, IsAMember, of_sort, has_neither, has_kind, has_dims}
use Rattle.law_texts.proofs.SoundNames.{consts_sound, types_sound, vars_sound, short_sound}
use Rattle.law_texts.proofs.SoundNames.{channel_sound, points_sound, modvars_sound, header_sound}
use Rattle.law_texts.proofs.SoundNames.{states_sound}
use Rattle.law_texts.proofs.SoundNames.{statesets_sound, formals_sound}

module _ (o : Outline) where
  -- the name of an `all`
  all_sound : (u : Used) (over : TypeText) (k : Option ℕ) → IsSaid o (AllSaid o over k) u
      → ShortSpelt over → IsSoAt o u (text_last over)
  all_sound u over None said plain =
      of_sort o sort.Variable (AllSaid o over None) u (text_last over) said (λ e q. q.0)
      (λ e q before. tt) (λ e q all. has_kind o e (text_type o over) q.1 q.2
      (λ m h. short_sound o over m plain all h))
  all_sound u over (Some header) said plain =
      of_sort o sort.ModuleVariable (AllSaid o over (Some header)) u (text_last over) said
      (λ e q. q.0) (λ e q before. tt) (λ e q all. has_dims o e [] q.3 q.1 tt all)

  -- statements
  mutual
    statement_sound : (s : Statement) → StatementSaid o s → StatementSpelt s
        → OfStatement (IsSoAt o) (IsAMember o) s
    statement_sound (statement.Compound' a turn place) said plain = row_sound turn said plain
    statement_sound (statement.If' condition a one second place) said plain =
        (row_sound one said.0 plain.0, second_sound second said.1 plain.1)
    statement_sound (statement.Case' value a arms place) said plain = arms_sound arms said plain
    statement_sound (statement.While' condition a turn place) said plain =
        row_sound turn said plain
    statement_sound (statement.Repeat' a turn until place) said plain = row_sound turn said plain
    statement_sound (statement.For' name from down to a turn place) said plain =
        row_sound turn said plain
    statement_sound (statement.All' name over a turn place) said plain = (
      all_sound name over (over_header o over) said.0 plain.1,
      row_sound turn said.1 plain.2,
    )
    statement_sound _ said plain = tt

    row_sound : {n : _} (row : Row_of-Statement n) → StatementsSaid o row → StatementsSpelt row
        → OfStatements (IsSoAt o) (IsAMember o) row
    row_sound end_of-Statement said plain = tt
    row_sound (more_of-Statement s rest) said plain =
        (statement_sound s said.0 plain.0, row_sound rest said.1 plain.1)

    second_sound : (s : Held-Statement-If-2) → SecondSaid o s → SecondSpelt s
        → OfSecond (IsSoAt o) (IsAMember o) s
    second_sound held.None' said plain = tt
    second_sound (held.Some' a second) said plain = row_sound second said plain

    arms_sound : {n : _} (row : Row_of-Arm n) → ArmsSaid o row → ArmsSpelt row
        → OfArms (IsSoAt o) (IsAMember o) row
    arms_sound end_of-Arm said plain = tt
    arms_sound (more_of-Arm constants s rest) said plain =
        (statement_sound s said.0 plain.0, arms_sound rest said.1 plain.1)

  turn_sound : (ss : List Statement) → Each (StatementSaid o) ss → Each StatementSpelt ss
      → Each (OfStatement (IsSoAt o) (IsAMember o)) ss
  turn_sound [] said plain = tt
  turn_sound (s ∷ ss) said plain =
      (statement_sound s said.0 plain.0, turn_sound ss said.1 plain.1)

  -- clauses
  clause_sound : (c : Clause) → ClauseSaid o c → ClauseSpelt c → ClauseWritten c
      → OfClause (IsSoAt o) (IsAMember o) c
  clause_sound (clauses.Any names place) said plain written = vars_sound o names said plain written
  clause_sound _ said plain written = tt

  clauses_sound : (cs : List Clause) → Each (ClauseSaid o) cs → Each ClauseSpelt cs
      → Each ClauseWritten cs → Each (OfClause (IsSoAt o) (IsAMember o)) cs
  clauses_sound [] said plain written = tt
  clauses_sound (c ∷ cs) said plain written =
      (clause_sound c said.0 plain.0 written.0, clauses_sound cs said.1 plain.1 written.1)

  -- blocks
  block_part_sound : (x : Part) → PartSaid o x → PartSpelt x → BlockPartWritten x
      → OfPart (IsSoAt o) (IsAMember o) x
  block_part_sound (part.Consts cs) said plain written = consts_sound o cs said plain
  block_part_sound (part.Types ts) said plain written = types_sound o ts said plain written
  block_part_sound (part.Vars vs) said plain written = vars_sound o vs said plain written
  block_part_sound _ said plain written = absurd written

  block_sound : {n : _} (row : Row_of-Part n) → PartsSaid o row → PartsSpelt row
      → BlockWritten row → OfParts (IsSoAt o) (IsAMember o) row
  block_sound end_of-Part said plain written = tt
  block_sound (more_of-Part x rest) said plain written =
      (block_part_sound x said.0 plain.0 written.0, block_sound rest said.1 plain.1 written.1)

  first_sound : (f : Held-Body-first) → FirstSaid o f → FirstSpelt f → FirstWritten f
      → OfFirst (IsSoAt o) (IsAMember o) f
  first_sound first.None' said plain written = tt
  first_sound (first.Some' to a parts statements place) said plain written =
      (block_sound parts said.0 plain.0 written.0, turn_sound statements said.1 plain.1)

  -- transitions
  transitions_sound : {n : _} (row : Row_of-Transition n) → TransitionsSaid o row
      → TransitionsSpelt row → TransitionsWritten row
      → OfTransitions (IsSoAt o) (IsAMember o) row
  transitions_sound end_of-Transition said plain written = tt
  transitions_sound (more_of-Transition cs name a parts statements place rest) said plain
      written = (
        clauses_sound cs said.0 plain.0 written.0,
        block_sound parts said.1 plain.1 written.1,
        turn_sound statements said.2 plain.2,
        transitions_sound rest said.3 plain.3 written.3,
      )

  groups_sound : {n : _} (row : Row_of-Group n) → GroupsSaid o row → GroupsSpelt row
      → GroupsWritten row → OfGroups (IsSoAt o) (IsAMember o) row
  groups_sound end_of-Group said plain written = tt
  groups_sound (more_of-Group (Group' a transitions) rest) said plain written = (
    transitions_sound transitions said.0 plain.0 written.0,
    groups_sound rest said.1 plain.1 written.1,
  )

  -- the name of a routine
  routine_sound : (name : Used) (result : Option Used) → IsSaid o (RoutineSaid o result) name
      → IsSoAt o name name.place
  routine_sound name None said =
      of_sort o sort.Procedure (RoutineSaid o None) name name.place said (λ e q. q.0)
      (λ e q before. tt) (λ e q all. has_neither o e q.1 q.2)
  routine_sound name (Some u) said =
      of_sort o sort.Function (RoutineSaid o (Some u)) name name.place said (λ e q. q.0)
      (λ e q before. tt) (λ e q all. has_kind o e (named_type o u) q.1 q.2
      (λ m h. named_sound o u m (all u) h))

  -- parts
  mutual
    part_sound : (x : Part) → PartSaid o x → PartSpelt x → PartWritten x
        → OfPart (IsSoAt o) (IsAMember o) x
    part_sound (part.Consts cs) said plain written = consts_sound o cs said plain
    part_sound (part.Types ts) said plain written = types_sound o ts said plain written
    part_sound (part.Channel c) said plain written = channel_sound o c said plain written
    part_sound (part.Header x) said plain written = header_sound o x said plain written
    part_sound (part.Body (Body' name header a parts f b groups)) said plain written = (
      of_sort o sort.Body (BodySaid o header) name name.place said.0 (λ e q. q.0)
          (λ e q before. tt) (λ e q all. has_neither o e q.2 q.3),
      parts_sound parts said.1 plain.1 written.0,
      first_sound f said.2 plain.2 written.1,
      groups_sound groups said.3 plain.3 written.2,
    )
    part_sound (part.Modvars ms) said plain written = modvars_sound o ms said plain
    part_sound (part.Points ps) said plain written = points_sound o ps said plain
    part_sound (part.Vars vs) said plain written = vars_sound o vs said plain written
    part_sound (part.States us) said plain written = states_sound o us said
    part_sound (part.StateSets ss) said plain written = statesets_sound o ss said
    part_sound (part.Routine' name formals result a parts statements place) said plain written = (
      routine_sound name result said.0,
      formals_sound o formals said.1,
      block_sound parts said.2 plain.2 written.0,
      turn_sound statements said.3 plain.3,
    )

    parts_sound : {n : _} (row : Row_of-Part n) → PartsSaid o row → PartsSpelt row
        → PartsWritten row → OfParts (IsSoAt o) (IsAMember o) row
    parts_sound end_of-Part said plain written = tt
    parts_sound (more_of-Part x rest) said plain written =
        (part_sound x said.0 plain.0 written.0, parts_sound rest said.1 plain.1 written.1)

  pub all_sound_parts : (xs : List Part) → Each (PartSaid o) xs → Each PartSpelt xs
      → Each PartWritten xs → Each (OfPart (IsSoAt o) (IsAMember o)) xs
  all_sound_parts [] said plain written = tt
  all_sound_parts (x ∷ xs) said plain written =
      (part_sound x said.0 plain.0 written.0, all_sound_parts xs said.1 plain.1 written.1)
