-- The names that statements look up, in the order of the text (ISO 7185, 6.8; ISO 9074,
-- statements).
use Rattle.std.specs.Prelude.{List, [], ◌∷◌, ◌++◌, Option, Some, None}
use Rattle.est_syntax.specs.declared.name.Used.{Used}
use Rattle.est_syntax.specs.declared.statement.Arm.{Arm}
use Rattle.est_syntax.specs.declared.statement.Sending.{Sending}
use Rattle.est_syntax.specs.declared.statement.Statement.{Statement, Row_of-Statement}
use Rattle.est_syntax.specs.declared.statement.Statement.{end_of-Statement}
use Rattle.est_syntax.specs.declared.statement.Statement.{more_of-Statement}
use Rattle.est_syntax.specs.declared.statement.Statement.{Row_of-Arm, end_of-Arm}
use Rattle.est_syntax.specs.declared.statement.Statement.{more_of-Arm}
use Rattle.est_syntax.specs.declared.statement.Statement.{Held-Statement-If-2, None'}
use Rattle.est_syntax.specs.declared.statement.Statement.{Some'}
use Rattle.est_syntax.specs.declared.statement.Statement.TheVariants as statement
use Rattle.rule_uses.specs.NamesInExpressions.{expr_names, exprs_names, selectors_names}
use Rattle.rule_uses.specs.NamesInExpressions.{access_names, end_names}
use Rattle.rule_uses.specs.NamesInTexts.{constants_names, text_names}

-- A sending looks up its interaction point, and what its arguments do.
abbrev pub sending_names : Sending → List Used
sending_names s = access_names s.at ++ exprs_names s.arguments

-- Sendings look up what each of them does.
abbrev pub sendings_names : List Sending → List Used
sendings_names [] = []
sendings_names (s ∷ ss) = sending_names s ++ sendings_names ss

-- A statement about links between modules looks up the names in it, but for an interaction point
-- of another module.
abbrev pub link_names : Statement → List Used
link_names (statement.Connect one other place) = end_names one ++ end_names other
link_names (statement.Disconnect end place) = end_names end
link_names (statement.Attach own child point place) =
    access_names own ++ access_names child ++ exprs_names point.index
link_names (statement.Detach end place) = end_names end
link_names _ = []

-- A statement without statements in it looks up the names in it, but for an interaction.
abbrev pub plain_names : Statement → List Used
plain_names (statement.Assign target path value place) =
    target ∷ selectors_names path ++ expr_names value
plain_names (statement.Call name arguments place) = name ∷ exprs_names arguments
plain_names (statement.Output sendings place) = sendings_names sendings
plain_names (statement.Init target body arguments place) =
    access_names target ++ body ∷ exprs_names arguments
plain_names (statement.Release target place) = access_names target
plain_names s = link_names s

abbrev mutual
  -- A statement looks up the names in it, but for the one that an `all` declares.
  pub statement_names : Statement → List Used
  statement_names (statement.Compound' n turn place) = statements_row turn
  statement_names (statement.If' condition p first second place) =
      expr_names condition ++ statement_box first ++ second_held second
  statement_names (statement.Case' value n arms place) = expr_names value ++ arms_row arms
  statement_names (statement.While' condition p turn place) =
      expr_names condition ++ statement_box turn
  statement_names (statement.Repeat' n turn condition place) =
      statements_row turn ++ expr_names condition
  statement_names (statement.For' name first down last p turn place) =
      name ∷ expr_names first ++ expr_names last ++ statement_box turn
  statement_names (statement.All' name over p turn place) = text_names over ++ statement_box turn
  statement_names s = plain_names s

  -- The statement in a box looks up what it does outside.
  pub statement_box : {n : _} → Row_of-Statement n → List Used
  statement_box end_of-Statement = []
  statement_box (more_of-Statement s rest) = statement_names s

  -- What else an `if` does looks up what it does outside.
  pub second_held : Held-Statement-If-2 → List Used
  second_held None' = []
  second_held (Some' p s) = statement_box s

  -- The statements within a statement look up what each of them does.
  pub statements_row : {n : _} → Row_of-Statement n → List Used
  statements_row end_of-Statement = []
  statements_row (more_of-Statement s rest) = statement_names s ++ statements_row rest

  -- The choices of a `case` look up what their constants and their statements do.
  pub arms_row : {n : _} → Row_of-Arm n → List Used
  arms_row end_of-Arm = []
  arms_row (more_of-Arm constants turn rest) =
      (constants_names constants ++ statement_names turn) ++ arms_row rest

-- A statement looks up what it does, where there is one.
abbrev pub option_statement_names : Option Statement → List Used
option_statement_names None = []
option_statement_names (Some s) = statement_names s

-- Statements look up what each of them does.
abbrev pub statements_names : List Statement → List Used
statements_names [] = []
statements_names (s ∷ ss) = statement_names s ++ statements_names ss

-- A choice of a `case` looks up what its constants and its statement do.
abbrev pub arm_names : Arm → List Used
arm_names a = constants_names a.constants ++ statement_names a.turn

-- Choices look up what each of them does.
abbrev pub arms_names : List Arm → List Used
arms_names [] = []
arms_names (a ∷ rest) = arm_names a ++ arms_names rest
