-- The names that constants, the texts of types and statements look up stand before their end.
use Rattle.std.proofs.Common.{ℕ, suc, ◌≤◌, List, [], ◌∷◌, ◌++◌, map, subst}
use Rattle.std.proofs.Common.{arith}
use Rattle.est_syntax.specs.declared.constant.Constant.{Constant}
use Rattle.est_syntax.specs.declared.constant.Constant.TheVariants as constant
use Rattle.est_syntax.specs.declared.constant.ConstDef.{ConstDef}
use Rattle.est_syntax.specs.declared.type_text.TypeText.{TypeText, Row_of-TypeText, end_of-TypeText}
use Rattle.est_syntax.specs.declared.type_text.TypeText.{more_of-TypeText, Row_of-VarDef}
use Rattle.est_syntax.specs.declared.type_text.TypeText.{end_of-VarDef, more_of-VarDef}
use Rattle.est_syntax.specs.declared.type_text.TypeText.TheVariants as text
use Rattle.est_syntax.specs.declared.type_text.TypeDef.{TypeDef}
use Rattle.est_syntax.specs.declared.type_text.VarDef.{VarDef}
use Rattle.est_syntax.specs.declared.expression.Expr.{Expr}
use Rattle.est_syntax.specs.declared.expression.Selector.{Selector}
use Rattle.est_syntax.specs.declared.statement.Sending.{Sending}
use Rattle.est_syntax.specs.declared.statement.Statement.{Statement, out-Statement}
use Rattle.est_syntax.specs.declared.statement.Statement.{Row_of-Statement, end_of-Statement}
use Rattle.est_syntax.specs.declared.statement.Statement.{more_of-Statement}
use Rattle.est_syntax.specs.declared.statement.Statement.{items-the_row-Statement}
use Rattle.est_syntax.specs.declared.statement.Statement.{items_shown-the_row-Statement-0}
use Rattle.est_syntax.specs.declared.statement.Statement.{Row_of-Arm, end_of-Arm, more_of-Arm}
use Rattle.est_syntax.specs.declared.statement.Statement.{items-the_row-Arm}
use Rattle.est_syntax.specs.declared.statement.Statement.{items_shown-the_row-Arm-2}
use Rattle.est_syntax.specs.declared.statement.Statement.{Held-Statement-If-2}
use Rattle.est_syntax.specs.declared.statement.Statement.TheBlock.{shape-the_row-Statement-1}
use Rattle.est_syntax.specs.declared.statement.Statement.TheBlock.{hidden-the_row-Statement-1}
use Rattle.est_syntax.specs.declared.statement.Statement.TheBlock.{shown-the_row-Statement-1}
use Rattle.est_syntax.specs.declared.statement.Statement.TheVariants as statement
use Rattle.est_syntax.specs.declared.statement.Statement.TheBlock as held
use Rattle.text_reader.specs.Shown.{node, nodes}
use Rattle.rule_uses.specs.NamesInExpressions.{expr_names, exprs_names, selectors_names}
use Rattle.rule_uses.specs.NamesInExpressions.{access_names, end_names}
use Rattle.rule_uses.specs.NamesInStatements.{sending_names, sendings_names, statement_names}
use Rattle.rule_uses.specs.NamesInStatements.{statements_row, second_held, arms_row}
use Rattle.rule_uses.specs.NamesInStatements.{statements_names}
use Rattle.rule_uses.specs.NamesInTexts.{constant_names, constants_names, text_names, text_box}
use Rattle.rule_uses.specs.NamesInTexts.{texts_row, fields_row, vardef_names, vardefs_names}
use Rattle.rule_uses.specs.Routines.{constdefs_names, typedefs_names}
use Rattle.text_productions.specs.Nodes as shown
use Rattle.text_productions.specs.Nodes.{a_constant, a_statement, an_arm, an_expr, a_sending, layer}
use Rattle.law_places.specs.PlaceOrder.{o_empty, o_kept, o_at, o_pair, o_first, o_second, o_given}
use Rattle.law_places.specs.PlaceOrder.{o_node}
use Rattle.law_places.specs.PlaceOrder.{o_more}
use Rattle.law_places.proofs.Standing.{goes_on}
use Rattle.law_places.proofs.Placed.{ConstantPlaced, TextPlaced, RowPlaced, FieldsPlaced}
use Rattle.law_places.proofs.Placed.{constant_on, row_on, fields_on, short_text}
use Rattle.law_places.proofs.PlacedParts.{InOrder, ConstDefPlaced, TypeDefPlaced, VarDefPlaced}
use Rattle.law_places.proofs.Declaring.{order_on, constdef_on, typedef_on, vars_on}
use Rattle.law_places.proofs.FromTexts.{Stand, constant_placed, short_placed}
use Rattle.law_places.proofs.UsesInExpressions.{AreBefore, both_before, expr_before, given_before}
use Rattle.law_places.proofs.UsesInExpressions.{exprs_list_before, selectors_before, access_before}
use Rattle.law_places.proofs.UsesInExpressions.{index_before, end_before}

module _ (b : ℕ) where
  -- constants
  constant_before : (c : Constant) (i j : ℕ) → j ≤ b → ConstantPlaced i j c
      → AreBefore b (constant_names c)
  constant_before (constant.Number sign n place) i j l h = tt
  constant_before (constant.Named sign name place) i j l h = let q = h.2 in (omega arith, tt)
  constant_before (constant.Character code place) i j l h = tt

  constants_before : (cs : List Constant) (i j : ℕ) → j ≤ b → Stand (nodes (map a_constant cs)) i j
      → AreBefore b (constants_names cs)
  constants_before [] i j l h = tt
  constants_before (c ∷ cs) i j l (o_more {k = k} x y) =
      let o = goes_on layer y in
      both_before b (constant_names c) (constants_names cs)
      (constant_before c i k (omega arith) (constant_placed c x)) (constants_before cs k j l y)

  -- the texts of types
  mutual
    pub text_before : (t : TypeText) (i j : ℕ) → j ≤ b → TextPlaced i j t
        → AreBefore b (text_names t)
    text_before (text.Named u) i j l h = let q = h.1 in (omega arith, tt)
    text_before (text.Range low high) i j l h =
        let e = constant_on h.0 j high h.2 in
        both_before b (constant_names low) (constant_names high)
        (constant_before low i h.0 (omega arith) h.1) (constant_before high h.0 j l h.2)
    text_before (text.Names names place) i j l h = tt
    text_before (text.Array' n index p of place) i j l h =
        let e = row_on h.0 j of h.3 in
        both_before b (texts_row index) (text_box of)
        (row_before index place h.0 (omega arith) h.2) (box_before of h.0 j l h.3)
    text_before (text.Fields' n fields place) i j l h = fields_before fields place j l h.1
    text_before (text.Set' p of place) i j l h = box_before of place j l h.1

    box_before : {n : _} (row : Row_of-TypeText n) (i j : ℕ) → j ≤ b → RowPlaced i j row
        → AreBefore b (text_box row)
    box_before end_of-TypeText i j l h = tt
    box_before (more_of-TypeText t rest) i j l h =
        let e = row_on h.0 j rest h.2 in text_before t i h.0 (omega arith) h.1

    row_before : {n : _} (row : Row_of-TypeText n) (i j : ℕ) → j ≤ b → RowPlaced i j row
        → AreBefore b (texts_row row)
    row_before end_of-TypeText i j l h = tt
    row_before (more_of-TypeText t rest) i j l h =
        let e = row_on h.0 j rest h.2 in
        both_before b (text_names t) (texts_row rest) (text_before t i h.0 (omega arith) h.1)
        (row_before rest h.0 j l h.2)

    fields_before : {n : _} (row : Row_of-VarDef n) (i j : ℕ) → j ≤ b → FieldsPlaced i j row
        → AreBefore b (fields_row row)
    fields_before end_of-VarDef i j l h = tt
    fields_before (more_of-VarDef names t rest) i j l h =
        let e = fields_on h.1 j rest h.4 in
        both_before b (text_names t) (fields_row rest) (text_before t h.0 h.1 (omega arith) h.3)
        (fields_before rest h.1 j l h.4)

  -- definitions
  pub constdefs_before : (cs : List ConstDef) (i j : ℕ) → j ≤ b → InOrder ConstDefPlaced i j cs
      → AreBefore b (constdefs_names cs)
  constdefs_before [] i j l h = tt
  constdefs_before (c ∷ cs) i j l h =
      let e = order_on ConstDefPlaced constdef_on h.0 j cs h.2 in
      both_before b (constant_names c.value) (constdefs_names cs)
      (constant_before c.value (suc c.name.place) h.0 (omega arith) h.1.1)
      (constdefs_before cs h.0 j l h.2)

  pub typedefs_before : (ts : List TypeDef) (i j : ℕ) → j ≤ b → InOrder TypeDefPlaced i j ts
      → AreBefore b (typedefs_names ts)
  typedefs_before [] i j l h = tt
  typedefs_before (t ∷ ts) i j l h =
      let e = order_on TypeDefPlaced typedef_on h.0 j ts h.2 in
      both_before b (text_names t.text) (typedefs_names ts)
      (text_before t.text (suc t.name.place) h.0 (omega arith) h.1.1)
      (typedefs_before ts h.0 j l h.2)

  pub vardefs_before : (vs : List VarDef) (i j : ℕ) → j ≤ b → InOrder VarDefPlaced i j vs
      → AreBefore b (vardefs_names vs)
  vardefs_before [] i j l h = tt
  vardefs_before (v ∷ vs) i j l h =
      let e = vars_on h.0 j vs h.2 in
      both_before b (vardef_names v) (vardefs_names vs)
      (text_before v.text h.1.0 h.0 (omega arith) h.1.2) (vardefs_before vs h.0 j l h.2)

  -- statements
  path_list_before : (ss : List Selector) (i j : ℕ) → j ≤ b → Stand (shown.path ss) i j
      → AreBefore b (selectors_names ss)
  path_list_before [] i j l h = tt
  path_list_before (s ∷ ss) i j l (o_given x) = selectors_before b (s ∷ ss) i j l x

  call_before : (es : List Expr) (i j : ℕ) → j ≤ b → Stand (shown.call es) i j
      → AreBefore b (exprs_names es)
  call_before [] i j l h = tt
  call_before (e ∷ es) i j l (o_given (o_second (o_pair {k = k} x (o_empty n)))) =
      exprs_list_before b (e ∷ es) i k (omega arith) x

  sending_before : (s : Sending) (i j : ℕ) → j ≤ b → Stand (node (a_sending s)) i j
      → AreBefore b (sending_names s)
  sending_before s i j l (o_node (o_pair {k = k} x (o_pair {k = m} (o_at p (o_kept q)) y))) =
      let o = goes_on layer y in
      both_before b (access_names s.at) (exprs_names s.arguments)
      (access_before b s.at i k (omega arith) x) (given_before b s.arguments m j l y)

  sendings_before : (ss : List Sending) (i j : ℕ) → j ≤ b → Stand (nodes (map a_sending ss)) i j
      → AreBefore b (sendings_names ss)
  sendings_before [] i j l h = tt
  sendings_before (s ∷ ss) i j l (o_more {k = k} x y) =
      let o = goes_on layer y in
      both_before b (sending_names s) (sendings_names ss) (sending_before s i k (omega arith) x)
      (sendings_before ss k j l y)

  mutual
    unfolding out-Statement denote.Hole.Carrier.out shape-the_row-Statement-1
        hidden-the_row-Statement-1 shown-the_row-Statement-1 denote.Hole.Carrier.shown

    pub statement_before : (s : Statement) (i j : ℕ) → j ≤ b → Stand (node (a_statement s)) i j
        → AreBefore b (statement_names s)
    statement_before (statement.Empty place) i j l h = tt
    statement_before (statement.Compound' a turn place) i j l
        (o_node (o_at m (o_given (o_first (o_pair {k = k} x (o_empty n)))))) =
        row_statements_before turn place k (omega arith)
        (subst (λ ss. Stand (nodes (map a_statement ss)) place k)
        (items_shown-the_row-Statement-0 a turn) x)
    statement_before (statement.Assign target path value place) i j l
        (o_node (o_at m (o_given (o_second (o_first (o_pair {k = t} (o_at p (o_kept q))
        (o_given (o_first (o_pair {k = k} x y))))))))) =
        let o = goes_on layer y in
        let r = goes_on layer x in (
          omega arith,
          both_before b (selectors_names path) (expr_names value)
              (path_list_before path t k (omega arith) x) (expr_before b value k j l y),
        )
    statement_before (statement.Call name arguments place) i j l
        (o_node (o_at m (o_given (o_second (o_first (o_pair {k = k} (o_at p (o_kept q)) x)))))) =
        let o = goes_on layer x in (omega arith, call_before arguments k j l x)
    statement_before (statement.If' condition a (more_of-Statement one end_of-Statement) other
        place) i j l
        (o_node (o_at m (o_given (o_second (o_second (o_first (o_pair {k = k} x
        (o_pair {k = t} y z)))))))) =
        let o = goes_on layer y in
        let r = goes_on layer z in
        both_before b (expr_names condition ++ statement_names one) (second_held other)
        (both_before b (expr_names condition) (statement_names one)
        (expr_before b condition place k (omega arith) x)
        (statement_before one k t (omega arith) y)) (other_before other t j l z)
    statement_before (statement.Case' value a arms place) i j l
        (o_node (o_at m (o_given (o_second (o_second (o_second (o_first (o_pair {k = k} x
        (o_pair {k = t} y (o_empty n)))))))))) =
        let o = goes_on layer y in
        both_before b (expr_names value) (arms_row arms)
        (expr_before b value place k (omega arith) x)
        (arms_before arms k t (omega arith) (subst (λ ss. Stand (nodes (map an_arm ss)) k t)
        (items_shown-the_row-Arm-2 a arms) y))
    statement_before (statement.While' condition a (more_of-Statement turn end_of-Statement) place)
        i j l
        (o_node (o_at m (o_given (o_second (o_second (o_second (o_second (o_first (o_pair {k = k} x
        y))))))))) =
        let o = goes_on layer y in
        both_before b (expr_names condition) (statement_names turn)
        (expr_before b condition place k (omega arith) x) (statement_before turn k j l y)
    statement_before (statement.Repeat' a turn until place) i j l
        (o_node (o_at m (o_given (o_second (o_second (o_second (o_second (o_second (o_first
        (o_pair {k = k} x y)))))))))) =
        let o = goes_on layer y in
        both_before b (statements_row turn) (expr_names until)
        (row_statements_before turn place k (omega arith)
        (subst (λ ss. Stand (nodes (map a_statement ss)) place k)
        (items_shown-the_row-Statement-0 a turn) x)) (expr_before b until k j l y)
    statement_before (statement.For' name from down to a (more_of-Statement turn end_of-Statement)
        place) i j l
        (o_node (o_at m (o_given (o_second (o_second (o_second (o_second (o_second (o_second
        (o_first (o_pair {k = s} (o_at p (o_kept q)) (o_pair {k = k} x (o_pair {k = t} d
        (o_pair {k = v} y z)))))))))))))) =
        let o = goes_on layer x in
        let r = goes_on layer d in
        let c = goes_on layer y in
        let e = goes_on layer z in (
          omega arith,
          both_before b (expr_names from ++ expr_names to) (statement_names turn)
              (both_before b (expr_names from) (expr_names to)
              (expr_before b from s k (omega arith) x) (expr_before b to t v (omega arith) y))
              (statement_before turn v j l z),
        )
    statement_before (statement.All' name over a (more_of-Statement turn end_of-Statement) place)
        i j l
        (o_node (o_at m (o_given (o_second (o_second (o_second (o_second (o_second (o_second
        (o_second (o_first (o_pair {k = s} u (o_pair {k = k} x y))))))))))))) =
        let o = goes_on layer y in
        both_before b (text_names over) (statement_names turn)
        (text_before over s k (omega arith) (short_text s k over (short_placed over x)))
        (statement_before turn k j l y)
    statement_before (statement.Output sendings place) i j l
        (o_node (o_at m (o_given (o_second (o_second (o_second (o_second (o_second (o_second
        (o_second (o_second (o_first x)))))))))))) = sendings_before sendings place j l x
    statement_before (statement.Init target body arguments place) i j l
        (o_node (o_at m (o_given (o_second (o_second (o_second (o_second (o_second (o_second
        (o_second (o_second (o_second (o_first (o_pair {k = k} x (o_pair {k = t} (o_at p (o_kept q))
        y))))))))))))))) =
        let o = goes_on layer y in
        both_before b (access_names target) (body ∷ exprs_names arguments)
        (access_before b target place k (omega arith) x)
        (omega arith, given_before b arguments t j l y)
    statement_before (statement.Release target place) i j l
        (o_node (o_at m (o_given (o_second (o_second (o_second (o_second (o_second (o_second
        (o_second (o_second (o_second (o_second (o_first x)))))))))))))) =
        access_before b target place j l x
    statement_before (statement.Connect one other place) i j l
        (o_node (o_at m (o_given (o_second (o_second (o_second (o_second (o_second (o_second
        (o_second (o_second (o_second (o_second (o_second (o_first (o_pair {k = k} x
        y)))))))))))))))) =
        let o = goes_on layer y in
        both_before b (end_names one) (end_names other) (end_before b one place k (omega arith) x)
        (end_before b other k j l y)
    statement_before (statement.Disconnect end place) i j l
        (o_node (o_at m (o_given (o_second (o_second (o_second (o_second (o_second (o_second
        (o_second (o_second (o_second (o_second (o_second (o_second (o_first x)))))))))))))))) =
        end_before b end place j l x
    statement_before (statement.Attach own child point place) i j l
        (o_node (o_at m (o_given (o_second (o_second (o_second (o_second (o_second (o_second
        (o_second (o_second (o_second (o_second (o_second (o_second (o_second (o_first
        (o_pair {k = k} x (o_pair {k = t} y z))))))))))))))))))) =
        let o = goes_on layer y in
        let r = goes_on layer z in
        both_before b (access_names own ++ access_names child) (exprs_names point.index)
        (both_before b (access_names own) (access_names child)
        (access_before b own place k (omega arith) x)
        (access_before b child k t (omega arith) y)) (index_before b point t j l z)
    statement_before (statement.Detach end place) i j l
        (o_node (o_at m (o_given (o_second (o_second (o_second (o_second (o_second (o_second
        (o_second (o_second (o_second (o_second (o_second (o_second (o_second (o_second
        x))))))))))))))))) = end_before b end place j l x

    row_statements_before : {n : _} (row : Row_of-Statement n) (i j : ℕ) → j ≤ b
        → Stand (nodes (map a_statement (items-the_row-Statement n row))) i j
        → AreBefore b (statements_row row)
    row_statements_before end_of-Statement i j l h = tt
    row_statements_before (more_of-Statement s rest) i j l (o_more {k = k} x y) =
        let o = goes_on layer y in
        both_before b (statement_names s) (statements_row rest)
        (statement_before s i k (omega arith) x) (row_statements_before rest k j l y)

    other_before : (s : Held-Statement-If-2) (i j : ℕ) → j ≤ b
        → Stand (shown.else_part (held.view-Statement-If-2 s)) i j → AreBefore b (second_held s)
    other_before held.None' i j l h = tt
    other_before (held.Some' a (more_of-Statement other end_of-Statement)) i j l (o_given x) =
        statement_before other i j l x

    arms_before : {n : _} (row : Row_of-Arm n) (i j : ℕ) → j ≤ b
        → Stand (nodes (map an_arm (items-the_row-Arm n row))) i j → AreBefore b (arms_row row)
    arms_before end_of-Arm i j l h = tt
    arms_before (more_of-Arm constants s rest) i j l
        (o_more {k = t} (o_node (o_pair {k = k} x y)) z) =
        let o = goes_on layer y in
        let r = goes_on layer z in
        both_before b (constants_names constants ++ statement_names s) (arms_row rest)
        (both_before b (constants_names constants) (statement_names s)
        (constants_before constants i k (omega arith) x) (statement_before s k t (omega arith) y))
        (arms_before rest t j l z)

  pub statements_before : (ss : List Statement) (i j : ℕ) → j ≤ b
      → Stand (nodes (map a_statement ss)) i j → AreBefore b (statements_names ss)
  statements_before [] i j l h = tt
  statements_before (s ∷ ss) i j l (o_more {k = k} x y) =
      let o = goes_on layer y in
      both_before b (statement_names s) (statements_names ss) (statement_before s i k (omega arith)
      x) (statements_before ss k j l y)
