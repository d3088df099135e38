-- What stands in order as a view stands as its rows do: statements and clauses.
use Rattle.std.proofs.Common.{ℕ, suc, ◌≤◌, List, map}
use Rattle.std.proofs.Common.{subst, arith}
use Rattle.est_syntax.specs.declared.constant.Constant.{Constant}
use Rattle.est_syntax.specs.declared.expression.Expr.{Expr}
use Rattle.est_syntax.specs.declared.statement.Statement.{Statement, out-Statement}
use Rattle.est_syntax.specs.declared.statement.Statement.{Row_of-Statement, end_of-Statement}
use Rattle.est_syntax.specs.declared.statement.Statement.{more_of-Statement}
use Rattle.est_syntax.specs.declared.statement.Statement.{items-the_row-Statement}
use Rattle.est_syntax.specs.declared.statement.Statement.{items_shown-the_row-Statement-0}
use Rattle.est_syntax.specs.declared.statement.Statement.{Row_of-Arm, end_of-Arm, more_of-Arm}
use Rattle.est_syntax.specs.declared.statement.Statement.{items-the_row-Arm}
use Rattle.est_syntax.specs.declared.statement.Statement.{items_shown-the_row-Arm-2}
use Rattle.est_syntax.specs.declared.statement.Statement.{Held-Statement-If-2}
use Rattle.est_syntax.specs.declared.statement.Statement.TheBlock.{shape-the_row-Statement-1}
use Rattle.est_syntax.specs.declared.statement.Statement.TheBlock.{hidden-the_row-Statement-1}
use Rattle.est_syntax.specs.declared.statement.Statement.TheBlock.{shown-the_row-Statement-1}
use Rattle.est_syntax.specs.declared.statement.Statement.TheVariants as statement
use Rattle.est_syntax.specs.declared.statement.Statement.TheBlock as held
use Rattle.text_reader.specs.Shown.{node, nodes}
use Rattle.rule_declares.specs.Bodies.{expr_place}
use Rattle.text_productions.specs.Nodes as shown
use Rattle.text_productions.specs.Nodes.{Node, a_constant, a_statement, an_arm, an_expr, layer}
use Rattle.law_places.specs.PlaceOrder.{o_empty, o_kept, o_at, o_pair, o_first, o_second}
use Rattle.law_places.specs.PlaceOrder.{o_given, o_node, o_none, o_more}
use Rattle.law_places.proofs.Standing.{goes_on, from_earlier, to_later}
use Rattle.law_places.proofs.Placed.{ConstantPlaced}
use Rattle.law_places.proofs.PlacedParts.{InOrder}
use Rattle.law_places.proofs.PlacedBodies.{StatementPlaced, StatementsPlaced, SecondPlaced}
use Rattle.law_places.proofs.PlacedBodies.{ArmsPlaced}
use Rattle.law_places.proofs.FromTexts.{Stand, constant_placed, short_placed}
use Rattle.law_places.proofs.FromParts.{in_order}

constants_placed : (cs : List Constant) (i j : ℕ) → Stand (nodes (map a_constant cs)) i j
    → InOrder ConstantPlaced i j cs
constants_placed cs i j h = in_order a_constant ConstantPlaced (λ c i j x. constant_placed c x) cs i
    j h

expr_placed : (e : Expr) {i j : ℕ} → Stand (node (an_expr e)) i j
    → (i ≤ expr_place e) × (expr_place e ≤ j)
expr_placed e (o_node (o_at l x)) = (l, goes_on layer x)

mutual
  unfolding out-Statement denote.Hole.Carrier.out shape-the_row-Statement-1
      hidden-the_row-Statement-1 shown-the_row-Statement-1 denote.Hole.Carrier.shown

  pub statement_placed : (s : Statement) (i j : ℕ) → Stand (node (a_statement s)) i j
      → StatementPlaced i j s
  statement_placed (statement.Empty place) i j (o_node (o_at l x)) = (l, goes_on layer x)
  statement_placed (statement.Compound' a turn place) i j
      (o_node (o_at l (o_given (o_first (o_pair x (o_empty n)))))) = (
        l,
        row_placed turn place j (subst (λ ss. Stand (nodes (map a_statement ss)) place j)
            (items_shown-the_row-Statement-0 a turn) (to_later layer j n x)),
      )
  statement_placed (statement.Assign target path value place) i j (o_node (o_at l x)) =
      (l, goes_on layer x)
  statement_placed (statement.Call name arguments place) i j (o_node (o_at l x)) =
      (l, goes_on layer x)
  statement_placed (statement.If' condition a (more_of-Statement one end_of-Statement) other place)
      i j (o_node (o_at l (o_given (o_second (o_second (o_first (o_pair {k = k} x
      (o_pair {k = m} y z)))))))) = (
        k,
        m,
        l,
        goes_on layer x,
        (m, statement_placed one k m y, omega arith),
        other_placed other m j z,
      )
  statement_placed (statement.Case' value a arms place) i j
      (o_node (o_at l (o_given (o_second (o_second (o_second (o_first (o_pair {k = k} x
      (o_pair y (o_empty n)))))))))) = (
        k,
        l,
        goes_on layer x,
        arms_placed arms k j (subst (λ ss. Stand (nodes (map an_arm ss)) k j)
            (items_shown-the_row-Arm-2 a arms) (to_later layer j n y)),
      )
  statement_placed (statement.While' condition a (more_of-Statement turn end_of-Statement) place) i
      j
      (o_node (o_at l (o_given (o_second (o_second (o_second (o_second (o_first (o_pair {k = k} x
      y))))))))) = (k, l, goes_on layer x, (j, statement_placed turn k j y, omega arith))
  statement_placed (statement.Repeat' a turn until place) i j
      (o_node (o_at l (o_given (o_second (o_second (o_second (o_second (o_second (o_first
      (o_pair {k = k} x y)))))))))) =
      let e = expr_placed until y in (
        k,
        l,
        row_placed turn place k (subst (λ ss. Stand (nodes (map a_statement ss)) place k)
            (items_shown-the_row-Statement-0 a turn) x),
        e.0,
        e.1,
      )
  statement_placed (statement.For' name from down to a (more_of-Statement turn end_of-Statement)
      place) i j
      (o_node (o_at l (o_given (o_second (o_second (o_second (o_second (o_second (o_second (o_first
      (o_pair u (o_pair x (o_pair d (o_pair {k = k} y z)))))))))))))) =
      let p = goes_on layer u in
      let q = goes_on layer x in
      let r = goes_on layer d in
      let t = goes_on layer y in
      (k, l, omega arith, (j, statement_placed turn k j z, omega arith))
  statement_placed (statement.All' name over a (more_of-Statement turn end_of-Statement) place) i j
      (o_node (o_at l (o_given (o_second (o_second (o_second (o_second (o_second (o_second (o_second
      (o_first (o_pair (o_at m (o_kept n)) (o_pair {k = k} x y))))))))))))) = (
        k,
        l,
        m,
        short_placed over (from_earlier layer (suc name.place) (omega arith) x),
        (j, statement_placed turn k j y, omega arith),
      )
  statement_placed (statement.Output sendings place) i j (o_node (o_at l x)) = (l, goes_on layer x)
  statement_placed (statement.Init target body arguments place) i j (o_node (o_at l x)) =
      (l, goes_on layer x)
  statement_placed (statement.Release target place) i j (o_node (o_at l x)) = (l, goes_on layer x)
  statement_placed (statement.Connect one other place) i j (o_node (o_at l x)) =
      (l, goes_on layer x)
  statement_placed (statement.Disconnect end place) i j (o_node (o_at l x)) = (l, goes_on layer x)
  statement_placed (statement.Attach own child point place) i j
      (o_node (o_at l (o_given (o_second (o_second (o_second (o_second (o_second (o_second
      (o_second (o_second (o_second (o_second (o_second (o_second (o_second (o_first
      (o_pair x (o_pair (o_node (o_pair (o_at m (o_kept n)) y)) z))))))))))))))))))) =
      let p = goes_on layer x in
      let q = goes_on layer y in
      let r = goes_on layer z in (l, omega arith, omega arith)
  statement_placed (statement.Detach end place) i j (o_node (o_at l x)) = (l, goes_on layer x)

  row_placed : {n : _} (row : Row_of-Statement n) (i j : ℕ)
      → Stand (nodes (map a_statement (items-the_row-Statement n row))) i j
      → StatementsPlaced i j row
  row_placed end_of-Statement i j (o_none l) = l
  row_placed (more_of-Statement s rest) i j (o_more {k = k} x y) =
      (k, statement_placed s i k x, row_placed rest k j y)

  other_placed : (s : Held-Statement-If-2) (i j : ℕ)
      → Stand (shown.else_part (held.view-Statement-If-2 s)) i j → SecondPlaced i j s
  other_placed held.None' i j (o_empty l) = l
  other_placed (held.Some' a (more_of-Statement other end_of-Statement)) i j (o_given x) =
      (j, statement_placed other i j x, omega arith)

  arms_placed : {n : _} (row : Row_of-Arm n) (i j : ℕ)
      → Stand (nodes (map an_arm (items-the_row-Arm n row))) i j → ArmsPlaced i j row
  arms_placed end_of-Arm i j (o_none l) = l
  arms_placed (more_of-Arm constants s rest) i j
      (o_more {k = m} (o_node (o_pair {k = k} x y)) z) =
      (k, m, constants_placed constants i k x, statement_placed s k m y, arms_placed rest m j z)

pub statements_placed : (ss : List Statement) (i j : ℕ) → Stand (nodes (map a_statement ss)) i j
    → InOrder StatementPlaced i j ss
statements_placed ss i j h = in_order a_statement StatementPlaced statement_placed ss i j h
