-- Whether each routine of a specification is closed is what the whole outline says.
use Rattle.std.proofs.Common.{inl, ◌≡◌, ℕ, suc, ◌<◌, ◌≤◌, ◌^◌, false, List, [], ◌∷◌}
use Rattle.std.proofs.Common.{◌++◌, sym, subst, ap, ◌∙◌, Option, Some, None, arith}
use Rattle.est_syntax.specs.declared.name.Used.{Used}
use Rattle.est_syntax.specs.declared.statement.Statement.{Statement}
use Rattle.est_syntax.specs.declared.body.Part.{Part, out-Part, Row_of-Part}
use Rattle.est_syntax.specs.declared.body.Part.{end_of-Part, more_of-Part, items-the_row-Part}
use Rattle.est_syntax.specs.declared.body.Part.{items_shown-the_row-Part-0}
use Rattle.est_syntax.specs.declared.body.Part.TheBlock.{shown-the_row-Part-0}
use Rattle.est_syntax.specs.declared.body.Part.TheVariants as part
use Rattle.est_syntax.specs.declared.body.Body.{Body'}
use Rattle.est_syntax.specs.declared.routine.Formal.{Formal}
use Rattle.est_syntax.specs.declared.routine.Routine.{Routine, out-Routine}
use Rattle.rule_scope.specs.declared.declaration.Entry.{Entry}
use Rattle.rule_scope.specs.declared.declaration.Within.{Within}
use Rattle.rule_scope.specs.Outline.{Outline}
use Rattle.rule_scope.specs.Declaring.{empty, amended, with_closed}
use Rattle.rule_uses.specs.NamesInStatements.{statements_names}
use Rattle.rule_uses.specs.Routines.{part_names, parts_names, formals_names, result_names}
use Rattle.rule_uses.specs.Routines.{routine_names}
use Rattle.rule_uses.specs.Closed.{is_closed}
use Rattle.rule_declares.specs.Entries.{inner, outermost}
use Rattle.rule_declares.specs.Declares.{formals_declare}
use Rattle.rule_declares.specs.Bodies.{statement_place, statements_declare, body_named}
use Rattle.rule_declares.specs.Bodies.{header_given}
use Rattle.rule_declares.specs.Bodies.{inside, routine_named, result_given, closed_by}
use Rattle.rule_declares.specs.Bodies.{part_declares}
use Rattle.rule_declares.specs.Bodies.{row_parts, first_declares, row_groups, parts_declare}
use Rattle.rule_declares.specs.Bodies.{outline_of}
use Rattle.law_places.specs.Growth.{Anywhere, is_completed, IsOfCompleted, Grows, g_then, g_lying}
use Rattle.law_places.specs.Growth.{IsBefore}
use Rattle.law_places.specs.Said.{Each, IsSaid}
use Rattle.law_places.specs.ClosedSaid.{ClosedSaid, WithinClosed, RowClosed, RoutinesAreClosed}
use Rattle.law_places.proofs.Lasting.{before_grown, before_later, grows_on}
use Rattle.law_places.proofs.Declared.{amended_here}
use Rattle.law_places.proofs.PlacedParts.{InOrder, FormalPlaced}
use Rattle.law_places.proofs.PlacedBodies.{NamePlaced, StatementPlaced, PartPlaced, PartsPlaced}
use Rattle.law_places.proofs.PlacedBodies.{IsOfBlock, AreOfBlock}
use Rattle.law_places.proofs.Declaring.{order_on, formal_on, formals_grow}
use Rattle.law_places.proofs.BodiesGoOn.{name_on, turn_on, part_on, parts_on, first_on, groups_on}
use Rattle.law_places.proofs.DeclaringBodies.{statements_grow, named_grows, part_grows, parts_grow}
use Rattle.law_places.proofs.DeclaringBodies.{closed_grows, first_grows, groups_grow}
use Rattle.law_places.proofs.DeclaringBodies.{listed_parts_grow}
use Rattle.law_places.proofs.UsesInExpressions.{AreBefore, both_before}
use Rattle.law_places.proofs.UsesInStatements.{constdefs_before, typedefs_before, vardefs_before}
use Rattle.law_places.proofs.Closing.{all_free_stay}
use Rattle.law_places.proofs.SaidTexts.{entry_was}
use Rattle.law_places.proofs.SaidWholes.{routine_is, routine_completed, completed_grown}
use Rattle.law_places.proofs.SaidWholes.{completed_result, as_it_was, before_empty}
use Rattle.law_places.proofs.Wholes.{spec_placed}

-- the names that the head and the parts of a routine look up stand before its end
formals_before : (b : ℕ) (fs : List Formal) (i j : ℕ) → j ≤ b → InOrder FormalPlaced i j fs
    → AreBefore b (formals_names fs)
formals_before b [] i j l h = tt
formals_before b (f ∷ fs) i j l h =
    let e = order_on FormalPlaced formal_on h.0 j fs h.2 in
    let q = h.1.3 in (omega arith, formals_before b fs h.0 j l h.2)

result_before : (b : ℕ) (u : Option Used) (i j : ℕ) → j ≤ b → NamePlaced i j u
    → AreBefore b (result_names u)
result_before b None i j l h = tt
result_before b (Some u) i j l h = let q = h.1 in (omega arith, tt)

part_before : (b : ℕ) (x : Part) (i j : ℕ) → j ≤ b → PartPlaced i j x → IsOfBlock x
    → AreBefore b (part_names x)
part_before b (part.Consts cs) i j l h own = constdefs_before b cs i j l h
part_before b (part.Types ts) i j l h own = typedefs_before b ts i j l h
part_before b (part.Vars vs) i j l h own = vardefs_before b vs i j l h
part_before b _ i j l h own = absurd own

parts_before : (b : ℕ) {n : _} (row : Row_of-Part n) (i j : ℕ) → j ≤ b → PartsPlaced i j row
    → AreOfBlock row → AreBefore b (parts_names (items-the_row-Part n row))
parts_before b end_of-Part i j l h own = tt
parts_before b (more_of-Part x rest) i j l h own =
    let e = parts_on h.0 j rest h.2 in
    both_before b (part_names x) (parts_names (items-the_row-Part _ rest))
    (part_before b x i h.0 (omega arith) h.1 own.0) (parts_before b rest h.0 j l h.2 own.1)

module _ (b : ℕ) (fits : b ≤ 2 ^ 32) (p : Outline) where
  -- a routine at whose end the outline says whether it is closed
  closed_at : (r : Routine) (o : Outline) (j : ℕ) → (out-Routine r).name.place < j → IsBefore j o
      → IsOfCompleted o (out-Routine r).name.place → AreBefore j (routine_names r)
      → Grows Anywhere false j b (amended (with_closed (is_closed o r)) (out-Routine r).name.place
      o) p → IsSaid p (λ e. e.closed ≡ is_closed p r) (out-Routine r).name
  closed_at r o j l before own names rest f at =
      let place = (out-Routine r).name.place in
      let c = is_closed o r in
      let d = entry_was Anywhere false j b (amended (with_closed c) place o) p rest place l f at in
      let e = amended_here (with_closed c) place o d.0 d.1 in
      ap (λ (x : Entry). x.closed) (as_it_was d.0 f d.2 ∙ e.2)
      ∙ sym (all_free_stay j b place c o p l before own rest (routine_names r) names)

  -- at the end of a routine its name is of a sort that is completed
  own_end : (w : Within) (name : Used) (formals : List Formal) (result : Option Used) {n : _}
      (row : Row_of-Part n) (statements : List Statement) (place : ℕ) (o : Outline)
      (i k l m j : ℕ) → i ≤ name.place → InOrder FormalPlaced (suc name.place) k formals
      → NamePlaced k l result → PartsPlaced l m row → m ≤ place
      → InOrder StatementPlaced place j statements → j ≤ b → IsBefore i o
      → IsOfCompleted (statements_declare (inner w name.place) statements
      (row_parts (inner w name.place) row (result_given (inner w name.place) name result
      (formals_declare (inner w name.place) formals (routine_named w name result o))))) name.place
  own_end w name formals result row statements place o i k l m j q fs r ps t ss few before =
      let v = inner w name.place in
      let d = order_on FormalPlaced formal_on (suc name.place) k formals fs in
      let e = name_on k l result r in
      let f = parts_on l m row ps in
      let g = turn_on place j statements ss in
      let o1 = routine_named w name result o in
      let o2 = formals_declare v formals o1 in
      let o3 = result_given v name result o2 in
      let o4 = row_parts v row o3 in
      let o5 = statements_declare v statements o4 in
      let own1 : IsOfCompleted o1 name.place =
      λ x y. ap (λ (z : Entry). is_completed z.declared.sort) (routine_is w name result o x
      (before_later i name.place o q before) y) ∙ routine_completed w result in
      let own2 : IsOfCompleted o2 name.place =
      completed_grown false (suc name.place) k o1 o2 name.place (omega arith)
      (formals_grow Anywhere false (suc name.place) k (omega arith) v (inl tt) formals o1
      (suc name.place) k fs (omega arith) (omega arith)) own1 in
      completed_grown false l j o3 o5 name.place (omega arith)
      (g_then (parts_grow Anywhere false l j (omega arith) v (inl tt) row o3 l m ps (omega arith)
      (omega arith))
      (statements_grow Anywhere false l j (omega arith) v (inl tt) statements o4 place j ss
      (omega arith) (omega arith))) (completed_result v name result o2 own2)

  -- parts
  mutual
    unfolding out-Part denote.Hole.Carrier.out

    closed_part : (w : Within) (x : Part) (o : Outline) (i j : ℕ) → PartPlaced i j x → j ≤ b
        → IsBefore i o → Grows Anywhere false j b (closed_by x (part_declares w x o)) p
        → ClosedSaid p x × WithinClosed p x
    closed_part w (part.Body (Body' name header a parts f c groups)) o i j h l before rest =
        let k = h.0 in
        let m = h.1 in
        let q = h.2 in
        let r = h.3 in
        let till = suc header.place in
        let d = parts_on till k parts h.4 in
        let e = first_on k m f h.5 in
        let g = groups_on m j groups h.6 in
        let o1 = body_named w name o in
        let v = inside w name header o1 in
        let o2 = header_given name header o1 in
        let o3 = row_parts v parts o2 in
        let o4 = first_declares v f o3 in
        let o5 = row_groups v groups o4 in
        let rest4 : Grows Anywhere false m b o4 p =
        grows_on Anywhere false m j b o4 o5 p g l
        (groups_grow Anywhere false m j (omega arith) v (inl tt) groups o4 m j h.6 (omega arith)
        (omega arith)) rest in
        let rest3 : Grows Anywhere false k b o3 p =
        grows_on Anywhere false k m b o3 o4 p e (omega arith)
        (first_grows Anywhere false k m (omega arith) v (inl tt) f o3 k m h.5 (omega arith)
        (omega arith)) rest4 in
        let before2 : IsBefore till o2 =
        before_grown Anywhere false i till o o2
        (named_grows Anywhere false i till (omega arith) w (inl tt) name header o q (omega arith))
        before (omega arith) in
        (tt, closed_parts v parts o2 till k h.4 (omega arith) before2 rest3)
    closed_part w (part.Routine' name formals result a parts statements place) o i j h l before
        rest =
        let q = h.3 in
        let c = order_on FormalPlaced formal_on (suc name.place) h.0 formals h.4 in
        let d = name_on h.0 h.1 result h.5 in
        let e = parts_on h.1 h.2 parts h.6 in
        let f = h.7 in
        let g = turn_on place j statements h.8 in
        let x = part.Routine' name formals result a parts statements place in
        let own = shown-the_row-Part-0 a parts in
        let r : Routine = record {
          name = name;
          formals = formals;
          result = result;
          block = record { parts = own; statements = statements; place = place };
        } in
        let names : AreBefore j (routine_names r) =
        both_before j (formals_names formals ++ result_names result)
        (parts_names own ++ statements_names statements)
        (both_before j (formals_names formals) (result_names result)
        (formals_before j formals (suc name.place) h.0 (omega arith) h.4)
        (result_before j result h.0 h.1 (omega arith) h.5))
        (both_before j (parts_names own) (statements_names statements)
        (subst (λ ps. AreBefore j (parts_names ps)) (sym (items_shown-the_row-Part-0 a parts))
        (parts_before j parts h.1 h.2 (omega arith) h.6 h.9)) h.10) in (
          closed_at r (part_declares w x o) j (omega arith) (before_grown Anywhere false i j o
              (part_declares w x o) (part_grows Anywhere false i j (omega arith) w (inl tt) x o i j
              h (omega arith) (omega arith)) before (omega arith))
              (own_end w name formals result parts statements place o i h.0 h.1 h.2 j q h.4 h.5 h.6
              f h.8 l before) names rest,
          tt,
        )
    closed_part w (part.Consts cs) o i j h l before rest = (tt, tt)
    closed_part w (part.Types ts) o i j h l before rest = (tt, tt)
    closed_part w (part.Channel c) o i j h l before rest = (tt, tt)
    closed_part w (part.Header x) o i j h l before rest = (tt, tt)
    closed_part w (part.Modvars ms) o i j h l before rest = (tt, tt)
    closed_part w (part.Points ps) o i j h l before rest = (tt, tt)
    closed_part w (part.Vars vs) o i j h l before rest = (tt, tt)
    closed_part w (part.States us) o i j h l before rest = (tt, tt)
    closed_part w (part.StateSets ss) o i j h l before rest = (tt, tt)

    closed_parts : (w : Within) {n : _} (row : Row_of-Part n) (o : Outline) (i j : ℕ)
        → PartsPlaced i j row → j ≤ b → IsBefore i o
        → Grows Anywhere false j b (row_parts w row o) p → RowClosed p row
    closed_parts w end_of-Part o i j h l before rest = tt
    closed_parts w (more_of-Part x more) o i j h l before rest =
        let e = part_on i h.0 x h.1 in
        let f = parts_on h.0 j more h.2 in
        let o1 = part_declares w x o in
        let o2 = closed_by x o1 in
        let grows : Grows Anywhere false i h.0 o o2 =
        g_then (part_grows Anywhere false i h.0 (omega arith) w (inl tt) x o i h.0 h.1 (omega arith)
        (omega arith)) (closed_grows Anywhere false i h.0 (omega arith) x o1 i h.0 h.1
        (omega arith)) in
        let r = closed_part w x o i h.0 h.1 (omega arith) before (grows_on Anywhere false h.0 j b o2
        (row_parts w more o2) p f l (parts_grow Anywhere false h.0 j (omega arith) w (inl tt) more
        o2 h.0 j h.2 (omega arith) (omega arith)) rest) in (
          r.0,
          r.1,
          closed_parts w more o2 h.0 j h.2 l (before_grown Anywhere false i h.0 o o2 grows before
              e) rest,
        )

  closed_list : (w : Within) (xs : List Part) (o : Outline) (i j : ℕ) → InOrder PartPlaced i j xs
      → j ≤ b → IsBefore i o → Grows Anywhere false j b (parts_declare w xs o) p
      → Each (λ x. ClosedSaid p x × WithinClosed p x) xs
  closed_list w [] o i j h l before rest = tt
  closed_list w (x ∷ xs) o i j h l before rest =
      let e = part_on i h.0 x h.1 in
      let f = order_on PartPlaced part_on h.0 j xs h.2 in
      let o1 = part_declares w x o in
      let o2 = closed_by x o1 in
      let grows : Grows Anywhere false i h.0 o o2 =
      g_then (part_grows Anywhere false i h.0 (omega arith) w (inl tt) x o i h.0 h.1 (omega arith)
      (omega arith)) (closed_grows Anywhere false i h.0 (omega arith) x o1 i h.0 h.1 (omega arith))
      in (
        closed_part w x o i h.0 h.1 (omega arith) before (grows_on Anywhere false h.0 j b o2
            (parts_declare w xs o2) p f l (listed_parts_grow Anywhere false h.0 j (omega arith) w
            (inl tt) xs o2 h.0 j h.2 (omega arith) (omega arith)) rest),
        closed_list w xs o2 h.0 j h.2 l (before_grown Anywhere false i h.0 o o2 grows before e)
            rest,
      )

pub routines_closed : RoutinesAreClosed
routines_closed s n fits h =
    let t = spec_placed s n h in
    let k = t.0 in
    let q = t.2 in
    let r = t.3 in
    closed_list n fits (outline_of s) outermost s.parts empty (suc s.name.place) k t.1 (omega arith)
    (before_empty (suc s.name.place)) (g_lying outermost (statement_place s.first) q r)
