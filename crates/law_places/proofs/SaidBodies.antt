-- What the whole outline says of the declarations in statements, transitions, bodies and routines.
use Rattle.std.proofs.Common.{inl, ◌≡◌, ℕ, suc, ◌<◌, ◌≤◌, ◌^◌, ◌-◌, min, Bool, false, List}
use Rattle.std.proofs.Common.{[], ◌∷◌, refl, sym, subst, Option, Some, None, arith}
use Rattle.est_syntax.specs.declared.name.Used.{Used}
use Rattle.est_syntax.specs.declared.type_text.TypeText.{TypeText}
use Rattle.est_syntax.specs.declared.type_text.TypeText.TheVariants as text
use Rattle.est_syntax.specs.declared.statement.Statement.{Statement, Row_of-Statement}
use Rattle.est_syntax.specs.declared.statement.Statement.{end_of-Statement, more_of-Statement}
use Rattle.est_syntax.specs.declared.statement.Statement.{Row_of-Arm, end_of-Arm, more_of-Arm}
use Rattle.est_syntax.specs.declared.statement.Statement.{Held-Statement-If-2}
use Rattle.est_syntax.specs.declared.statement.Statement.TheVariants as statement
use Rattle.est_syntax.specs.declared.statement.Statement.TheBlock as held
use Rattle.est_syntax.specs.declared.transition.Clause.{Clause}
use Rattle.est_syntax.specs.declared.transition.Clause.TheVariants as clauses
use Rattle.rule_scope.specs.declared.declaration.Section.TheVariants as section
use Rattle.rule_scope.specs.declared.declaration.Sort.TheVariants as sort
use Rattle.rule_scope.specs.declared.declaration.Within.{Within}
use Rattle.rule_scope.specs.Outline.{Outline}
use Rattle.rule_scope.specs.Declaring.{lying}
use Rattle.rule_kinds.specs.TypeTexts.{text_type}
use Rattle.rule_declares.specs.declared.context.ClauseKind.TheVariants as kind
use Rattle.rule_declares.specs.declared.context.Given.{Given}
use Rattle.rule_declares.specs.Contexts.{dropped, given, under}
use Rattle.rule_declares.specs.Entries.{inner, in_region, in_section}
use Rattle.rule_declares.specs.Lasts.{text_last}
use Rattle.rule_declares.specs.Bodies.{Clausal, statement_place, expr_place, all_by, over_header}
use Rattle.rule_declares.specs.Bodies.{all_named, arm_lying, within_declares, row_statements}
use Rattle.rule_declares.specs.Bodies.{held_declares, row_arms}
use Rattle.rule_declares.specs.Bodies.{statements_declare, clause_declares, clauses_declare}
use Rattle.law_places.specs.Growth.{is_completed, Grows, g_declared, g_lying, IsBefore}
use Rattle.law_places.specs.Later.{Later}
use Rattle.law_places.specs.Said.{Each, IsSaid, AllSaid, StatementSaid, StatementsSaid}
use Rattle.law_places.specs.Said.{SecondSaid, ArmsSaid, ClauseSaid}
use Rattle.law_places.specs.Growth.{Anywhere}
use Rattle.law_places.proofs.Lasting.{later_then, later_weaker, later_grown, before_grown}
use Rattle.law_places.proofs.Lasting.{before_later, before_lying, grows_on}
use Rattle.law_places.proofs.Meanings.{declaration_stays}
use Rattle.law_places.proofs.Declared.{later_names, names_entries}
use Rattle.law_places.proofs.Placed.{ConstantPlaced, ShortPlaced, short_text, text_from}
use Rattle.law_places.proofs.PlacedParts.{InOrder}
use Rattle.law_places.proofs.PlacedBodies.{StatementPlaced, StatementsPlaced, SecondPlaced}
use Rattle.law_places.proofs.PlacedBodies.{ArmsPlaced, ClausePlaced}
use Rattle.law_places.proofs.Staying.{short_stays}
use Rattle.law_places.proofs.Declaring.{order_on, short_on}
use Rattle.law_places.proofs.BodiesGoOn.{one_constant_on, statement_on, statements_on, second_on}
use Rattle.law_places.proofs.BodiesGoOn.{arms_on, turn_on, clause_on, clauses_on}
use Rattle.law_places.proofs.DeclaringBodies.{arm_grows, within_grows, row_grows}
use Rattle.law_places.proofs.DeclaringBodies.{second_grows, arms_grow, statements_grow}
use Rattle.law_places.proofs.DeclaringBodies.{clause_grows, clauses_grow}
use Rattle.law_places.proofs.SaidParts.{names_said, vars_said}

-- the header that an `all` goes over is the same in a later outline
over_stays : (a c : ℕ) (o p : Outline) (later : Later a c o p) (i j : ℕ) (t : TypeText)
    → ShortPlaced i j t → ((q : ℕ) → q < j → q ≤ text_last t → q ≤ c)
    → over_header p t ≡ over_header o t
over_stays a c o p later i j (text.Named u) h reach =
    declaration_stays a c o p later u (reach u.place h.1 (omega arith)) sort.Header refl
over_stays a c o p later i j (text.Range low high) h reach = refl
over_stays a c o p later i j (text.Names names place) h reach = refl
over_stays a c o p later i j (text.Array' x index y of place) h reach = refl
over_stays a c o p later i j (text.Fields' x defs place) h reach = refl
over_stays a c o p later i j (text.Set' x of place) h reach = refl

over_simple : (w : Within) (o : Outline) (t : TypeText) (h : Option ℕ)
    → is_completed (all_by w o t h).declared.sort ≡ false
over_simple w o t None = refl
over_simple w o t (Some h) = refl

over_is : (w : Within) (o p : Outline) (t : TypeText) (h : Option ℕ) → text_type p t ≡ text_type o t
    → AllSaid p t h (all_by w o t h)
over_is w o p t None stays = (refl, sym stays, refl)
over_is w o p t (Some h) stays = (refl, refl, refl, refl)

module _ (unfinished : Bool) (b : ℕ) (fits : b ≤ 2 ^ 32) (p : Outline) where
  -- the name of an `all`
  all_said : (w : Within) (u : Used) (over : TypeText) (o : Outline) (k : ℕ)
      → ShortPlaced (suc u.place) k over → k ≤ b → IsBefore u.place o
      → Grows Anywhere unfinished k b (all_named w u over o) p
      → IsSaid p (AllSaid p over (over_header p over)) u
  all_said w u over o k h l before rest =
      let place = u.place in
      let d = short_on (suc place) k over h in
      let g = text_from (suc place) k over (omega arith) (short_text (suc place) k over h) in
      let last = text_last over in
      let till = min last (k - 1) in
      let v = in_section section.All w in
      let e = all_by v o over (over_header o over) in
      let o1 = all_named w u over o in
      let before1 : IsBefore k o1 =
      before_grown Anywhere unfinished place k o o1
      (g_declared w (inl tt) u last e (omega arith) (omega arith) (omega arith)) before (omega
      arith) in
      let later : Later place till o p =
      later_then place till o o1 p
      (later_names w (u ∷ []) last e o place (suc place) till (omega arith, omega arith) before
      (omega arith))
      (later_weaker k till place till o1 p (omega arith) (omega arith)
      (later_grown Anywhere unfinished k b o1 p rest before1 till (omega arith))) in
      let stays : text_type p over ≡ text_type o over =
      short_stays place till o p later (suc place) k over (omega arith) h (λ q m n. omega arith) in
      let same : over_header p over ≡ over_header o over =
      over_stays place till o p later (suc place) k over h (λ q m n. omega arith) in
      let said : Each (IsSaid p (AllSaid p over (over_header p over))) (u ∷ []) =
      names_said unfinished b fits p w e (over_simple v o over (over_header o over))
      (AllSaid p over (over_header p over))
      (subst (λ x. AllSaid p over x e) (sym same) (over_is v o p over (over_header o over) stays))
      o1 (u ∷ []) place (suc place) k (omega arith, omega arith) (omega arith) rest
      (names_entries w (u ∷ []) last e o place (suc place) (omega arith, omega arith)
      (λ q n. before.declarations q n)) in
      said.0

  mutual
    within_said : (w : Within) (s : Statement) (o : Outline) (i j : ℕ) → StatementPlaced i j s
        → j ≤ b → IsBefore i o → Grows Anywhere unfinished j b (within_declares w s o) p
        → StatementSaid p s
    within_said w (statement.Compound' x turn place) o i j h l before rest =
        row_said w turn o place j h.1 l (before_later i place o h.0 before) rest
    within_said w (statement.If' condition x one other place) o i j h l before rest =
        let q = h.2 in
        let r = h.3 in
        let e = statements_on h.0 h.1 one h.4 in
        let f = second_on h.1 j other h.5 in
        let o1 = row_statements w one o in
        let o2 = held_declares w other o1 in
        let start : IsBefore h.0 o = before_later i h.0 o (omega arith) before in
        let before1 : IsBefore h.1 o1 =
        before_grown Anywhere unfinished h.0 h.1 o o1
        (row_grows Anywhere unfinished h.0 h.1 (omega arith) w (inl tt) one o h.0 h.1 h.4 (omega
        arith) (omega arith))
        start e in (
          row_said w one o h.0 h.1 h.4 (omega arith) start (grows_on Anywhere unfinished h.1 j b o1
              o2 p f l
              (second_grows Anywhere unfinished h.1 j (omega arith) w (inl tt) other o1 h.1 j h.5
              (omega arith)
              (omega arith)) rest),
          other_said w other o1 h.1 j h.5 l before1 rest,
        )
    within_said w (statement.Case' value x arms place) o i j h l before rest =
        let q = h.1 in
        let r = h.2 in
        arms_said w arms o h.0 j h.3 l (before_later i h.0 o (omega arith) before) rest
    within_said w (statement.While' condition x turn place) o i j h l before rest =
        let q = h.1 in
        let r = h.2 in
        row_said w turn o h.0 j h.3 l (before_later i h.0 o (omega arith) before) rest
    within_said w (statement.Repeat' x turn until place) o i j h l before rest =
        let q = h.3 in
        let r = h.4 in
        let o1 = row_statements w turn o in
        row_said w turn o place h.0 h.2 (omega arith) (before_later i place o h.1 before)
        (grows_on Anywhere unfinished h.0 j b o1 (lying w (expr_place until) o1) p (omega arith) l
        (g_lying w (expr_place until) q r) rest)
    within_said w (statement.For' name from down to x turn place) o i j h l before rest =
        let q = h.1 in
        let r = h.2 in
        row_said w turn o h.0 j h.3 l (before_later i h.0 o (omega arith) before) rest
    within_said w (statement.All' name over x turn place) o i j h l before rest =
        let q = h.1 in
        let r = h.2 in
        let e = short_on (suc name.place) h.0 over h.3 in
        let f = statements_on h.0 j turn h.4 in
        let g = text_from (suc name.place) h.0 over (omega arith)
        (short_text (suc name.place) h.0 over h.3) in
        let v = inner w place in
        let u = in_section section.All v in
        let o1 = all_named v name over o in
        let o2 = row_statements v turn o1 in
        let start : IsBefore name.place o = before_later i name.place o (omega arith) before in
        let before1 : IsBefore h.0 o1 =
        before_grown Anywhere unfinished name.place h.0 o o1
        (g_declared v (inl tt) name (text_last over) (all_by u o over (over_header o over)) (omega
        arith)
        (omega arith) (omega arith)) start (omega arith) in (
          all_said v name over o h.0 h.3 (omega arith) start (grows_on Anywhere unfinished h.0 j b
              o1 o2 p f
              l (row_grows Anywhere unfinished h.0 j (omega arith) v (inl tt) turn o1 h.0 j h.4
              (omega arith)
              (omega arith)) rest),
          row_said v turn o1 h.0 j h.4 l before1 rest,
        )
    within_said w (statement.Empty place) o i j h l before rest = tt
    within_said w (statement.Assign target path value place) o i j h l before rest = tt
    within_said w (statement.Call name arguments place) o i j h l before rest = tt
    within_said w (statement.Output sendings place) o i j h l before rest = tt
    within_said w (statement.Init target body arguments place) o i j h l before rest = tt
    within_said w (statement.Release target place) o i j h l before rest = tt
    within_said w (statement.Connect one other place) o i j h l before rest = tt
    within_said w (statement.Disconnect end place) o i j h l before rest = tt
    within_said w (statement.Attach own child point place) o i j h l before rest = tt
    within_said w (statement.Detach end place) o i j h l before rest = tt

    row_said : (w : Within) {n : _} (row : Row_of-Statement n) (o : Outline) (i j : ℕ)
        → StatementsPlaced i j row → j ≤ b → IsBefore i o
        → Grows Anywhere unfinished j b (row_statements w row o) p → StatementsSaid p row
    row_said w end_of-Statement o i j h l before rest = tt
    row_said w (more_of-Statement s more) o i j h l before rest =
        let o1 = lying w (statement_place s) o in
        let o2 = within_declares w s o1 in
        let e = statement_on i h.0 s h.1 in
        let f = statements_on h.0 j more h.2 in
        let start : IsBefore i o1 = before_lying i (statement_place s) w o before in
        let before2 : IsBefore h.0 o2 =
        before_grown Anywhere unfinished i h.0 o1 o2
        (within_grows Anywhere unfinished i h.0 (omega arith) w (inl tt) s o1 i h.0 h.1 (omega
        arith) (omega arith))
        start e in (
          within_said w s o1 i h.0 h.1 (omega arith) start (grows_on Anywhere unfinished h.0 j b o2
              (row_statements w more o2) p f l (row_grows Anywhere unfinished h.0 j (omega arith) w
              (inl tt) more o2
              h.0 j h.2 (omega arith) (omega arith)) rest),
          row_said w more o2 h.0 j h.2 l before2 rest,
        )

    other_said : (w : Within) (s : Held-Statement-If-2) (o : Outline) (i j : ℕ)
        → SecondPlaced i j s → j ≤ b → IsBefore i o
        → Grows Anywhere unfinished j b (held_declares w s o) p → SecondSaid p s
    other_said w held.None' o i j h l before rest = tt
    other_said w (held.Some' x other) o i j h l before rest =
        row_said w other o i j h l before rest

    arms_said : (w : Within) {n : _} (row : Row_of-Arm n) (o : Outline) (i j : ℕ)
        → ArmsPlaced i j row → j ≤ b → IsBefore i o → Grows Anywhere unfinished j b (row_arms w row
        o) p
        → ArmsSaid p row
    arms_said w end_of-Arm o i j h l before rest = tt
    arms_said w (more_of-Arm constants s more) o i j h l before rest =
        let o1 = arm_lying w constants o in
        let o2 = lying w (statement_place s) o1 in
        let o3 = within_declares w s o2 in
        let c = order_on ConstantPlaced one_constant_on i h.0 constants h.2 in
        let e = statement_on h.0 h.1 s h.3 in
        let f = arms_on h.1 j more h.4 in
        let before1 : IsBefore h.0 o1 =
        before_grown Anywhere unfinished i h.0 o o1
        (arm_grows Anywhere unfinished i h.0 (omega arith) w constants o i h.0 h.2 (omega arith)
        (omega arith))
        before c in
        let before2 : IsBefore h.0 o2 = before_lying h.0 (statement_place s) w o1 before1 in
        let before3 : IsBefore h.1 o3 =
        before_grown Anywhere unfinished h.0 h.1 o2 o3
        (within_grows Anywhere unfinished h.0 h.1 (omega arith) w (inl tt) s o2 h.0 h.1 h.3 (omega
        arith)
        (omega arith)) before2 e in (
          within_said w s o2 h.0 h.1 h.3 (omega arith) before2 (grows_on Anywhere unfinished h.1 j b
              o3
              (row_arms w more o3) p f l (arms_grow Anywhere unfinished h.1 j (omega arith) w (inl
              tt) more o3 h.1 j
              h.4 (omega arith) (omega arith)) rest),
          arms_said w more o3 h.1 j h.4 l before3 rest,
        )

  pub statements_said : (w : Within) (ss : List Statement) (o : Outline) (i j : ℕ)
      → InOrder StatementPlaced i j ss → j ≤ b → IsBefore i o
      → Grows Anywhere unfinished j b (statements_declare w ss o) p → Each (StatementSaid p) ss
  statements_said w [] o i j h l before rest = tt
  statements_said w (s ∷ ss) o i j h l before rest =
      let o1 = lying w (statement_place s) o in
      let o2 = within_declares w s o1 in
      let e = statement_on i h.0 s h.1 in
      let f = turn_on h.0 j ss h.2 in
      let start : IsBefore i o1 = before_lying i (statement_place s) w o before in
      let before2 : IsBefore h.0 o2 =
      before_grown Anywhere unfinished i h.0 o1 o2
      (within_grows Anywhere unfinished i h.0 (omega arith) w (inl tt) s o1 i h.0 h.1 (omega arith)
      (omega arith))
      start e in (
        within_said w s o1 i h.0 h.1 (omega arith) start (grows_on Anywhere unfinished h.0 j b o2
            (statements_declare w ss o2) p f l (statements_grow Anywhere unfinished h.0 j (omega
            arith) w (inl tt) ss
            o2 h.0 j h.2 (omega arith) (omega arith)) rest),
        statements_said w ss o2 h.0 j h.2 l before2 rest,
      )

  -- clauses
  clause_said : (w : Within) (c : Clause) (gs : List Given) (o : Outline) (i j : ℕ)
      → ClausePlaced i j c → j ≤ b → IsBefore i o
      → Grows Anywhere unfinished j b (clause_declares w c (gs, o)).1 p → ClauseSaid p c
  clause_said w (clauses.Any names place) gs o i j h l before rest =
      let v = under w (given kind.Any (Some place) (dropped kind.Any gs)) in
      vars_said unfinished b fits p (in_region section.Any v place) names (lying v place o) place j
      h.1 l (before_lying place place v o (before_later i place o h.0 before)) rest
  clause_said w (clauses.From states place) gs o i j h l before rest = tt
  clause_said w (clauses.To state place) gs o i j h l before rest = tt
  clause_said w (clauses.When at signal place) gs o i j h l before rest = tt
  clause_said w (clauses.Provided condition place) gs o i j h l before rest = tt
  clause_said w (clauses.Otherwise place) gs o i j h l before rest = tt
  clause_said w (clauses.Priority value place) gs o i j h l before rest = tt
  clause_said w (clauses.Delay least most place) gs o i j h l before rest = tt

  pub clauses_said : (w : Within) (cs : List Clause) (s : Clausal) (i j : ℕ)
      → InOrder ClausePlaced i j cs → j ≤ b → IsBefore i s.1
      → Grows Anywhere unfinished j b (clauses_declare w cs s).1 p → Each (ClauseSaid p) cs
  clauses_said w [] s i j h l before rest = tt
  clauses_said w (c ∷ cs) s i j h l before rest =
      let e = clause_on i h.0 c h.1 in
      let f = clauses_on h.0 j cs h.2 in
      let s1 = clause_declares w c s in
      let before1 : IsBefore h.0 s1.1 =
      before_grown Anywhere unfinished i h.0 s.1 s1.1
      (clause_grows Anywhere unfinished i h.0 (omega arith) w (inl tt) c s.0 s.1 i h.0 h.1 (omega
      arith)
      (omega arith)) before e in (
        clause_said w c s.0 s.1 i h.0 h.1 (omega arith) before (grows_on Anywhere unfinished h.0 j b
            s1.1
            (clauses_declare w cs s1).1 p f l (clauses_grow Anywhere unfinished h.0 j (omega arith)
            w (inl tt) cs s1
            h.0 j h.2 (omega arith) (omega arith)) rest),
        clauses_said w cs s1 h.0 j h.2 l before1 rest,
      )
