-- What stands in a list, a box or an option looks up the same as within a statement.
use Rattle.std.proofs.Common.{◌≡◌, refl, ap, ◌∙◌, ℕ, Bool, List, ◌∷◌, ◌++◌, Option, Some, None}
use Rattle.est_syntax.specs.declared.expression.Expr.{Expr}
use Rattle.est_syntax.specs.declared.name.Used.{Used}
use Rattle.est_syntax.specs.declared.statement.Arm.{Arm}
use Rattle.est_syntax.specs.declared.statement.Statement.{Statement, Row_of-Statement}
use Rattle.est_syntax.specs.declared.statement.Statement.{end_of-Statement}
use Rattle.est_syntax.specs.declared.statement.Statement.{more_of-Statement}
use Rattle.est_syntax.specs.declared.statement.Statement.{items-the_row-Statement}
use Rattle.est_syntax.specs.declared.statement.Statement.{items_hidden-the_row-Statement-0}
use Rattle.est_syntax.specs.declared.statement.Statement.{Row_of-Arm, end_of-Arm}
use Rattle.est_syntax.specs.declared.statement.Statement.{more_of-Arm}
use Rattle.est_syntax.specs.declared.statement.Statement.{items-the_row-Arm}
use Rattle.est_syntax.specs.declared.statement.Statement.{items_hidden-the_row-Arm-2}
use Rattle.est_syntax.specs.declared.statement.Statement.{back-Statement-If-2}
use Rattle.est_syntax.specs.declared.statement.Statement.TheBlock.{hidden-the_row-Statement-0}
use Rattle.est_syntax.specs.declared.statement.Statement.TheBlock.{hidden-the_row-Statement-1}
use Rattle.est_syntax.specs.declared.statement.Statement.TheBlock.{hidden-the_row-Arm-2}
use Rattle.est_syntax.specs.declared.statement.Statement.TheVariants as statement
use Rattle.est_syntax.specs.declared.type_text.TypeText.{TypeText}
use Rattle.rule_uses.specs.NamesInExpressions.{expr_names}
use Rattle.rule_uses.specs.NamesInStatements.{statement_names, statement_box, second_held}
use Rattle.rule_uses.specs.NamesInStatements.{statements_row, arms_row, option_statement_names}
use Rattle.rule_uses.specs.NamesInStatements.{statements_names, arm_names, arms_names}
use Rattle.rule_uses.specs.NamesInTexts.{text_names}

pub statement_hidden : (s : Statement)
    → statement_box (hidden-the_row-Statement-1 s) ≡ statement_names s
unfolding hidden-the_row-Statement-1 denote.Hole.Carrier.hidden
statement_hidden s = refl

pub second_back : (s : Option Statement)
    → second_held (back-Statement-If-2 s) ≡ option_statement_names s
second_back None = refl
second_back (Some s) = statement_hidden s

pub statements_listed : (n : _) (row : Row_of-Statement n)
    → statements_row row ≡ statements_names (items-the_row-Statement n row)
statements_listed n end_of-Statement = refl
statements_listed n (more_of-Statement s rest) =
    ap (λ l. statement_names s ++ l) (statements_listed _ rest)

pub statements_hidden : (ss : List Statement)
    → statements_row (hidden-the_row-Statement-0 ss) ≡ statements_names ss
statements_hidden ss =
    statements_listed _ (hidden-the_row-Statement-0 ss)
    ∙ ap statements_names (items_hidden-the_row-Statement-0 ss)

pub arms_listed : (n : _) (row : Row_of-Arm n)
    → arms_row row ≡ arms_names (items-the_row-Arm n row)
arms_listed n end_of-Arm = refl
arms_listed n (more_of-Arm constants turn rest) =
    ap (λ l. arm_names record { constants = constants; turn = turn } ++ l) (arms_listed _ rest)

pub arms_hidden : (ns : List Arm) → arms_row (hidden-the_row-Arm-2 ns) ≡ arms_names ns
arms_hidden ns =
    arms_listed _ (hidden-the_row-Arm-2 ns) ∙ ap arms_names (items_hidden-the_row-Arm-2 ns)

pub compound_at : (s : Statement) (ss : List Statement) (place : ℕ)
    → s ≡ statement.Compound ss place → statement_names s ≡ statements_names ss
compound_at s ss place h = ap statement_names h ∙ statements_hidden ss

pub if_at : (s : Statement) (condition : Expr) (first : Statement) (second : Option Statement)
    (place : ℕ) → s ≡ statement.If condition first second place
    → statement_names s
    ≡ expr_names condition ++ statement_names first ++ option_statement_names second
if_at s condition first second place h =
    ap statement_names h
    ∙ (λ i. expr_names condition ++ statement_hidden first i ++ second_back second i)

pub case_at : (s : Statement) (value : Expr) (ns : List Arm) (place : ℕ)
    → s ≡ statement.Case value ns place
    → statement_names s ≡ expr_names value ++ arms_names ns
case_at s value ns place h = ap statement_names h ∙ (λ i. expr_names value ++ arms_hidden ns i)

pub while_at : (s : Statement) (condition : Expr) (turn : Statement) (place : ℕ)
    → s ≡ statement.While condition turn place
    → statement_names s ≡ expr_names condition ++ statement_names turn
while_at s condition turn place h =
    ap statement_names h ∙ (λ i. expr_names condition ++ statement_hidden turn i)

pub repeat_at : (s : Statement) (turn : List Statement) (condition : Expr) (place : ℕ)
    → s ≡ statement.Repeat turn condition place
    → statement_names s ≡ statements_names turn ++ expr_names condition
repeat_at s turn condition place h =
    ap statement_names h ∙ (λ i. statements_hidden turn i ++ expr_names condition)

pub for_at : (s : Statement) (name : Used) (first : Expr) (down : Bool) (last : Expr)
    (turn : Statement) (place : ℕ) → s ≡ statement.For name first down last turn place
    → statement_names s
    ≡ name ∷ expr_names first ++ expr_names last ++ statement_names turn
for_at s name first down last turn place h =
    ap statement_names h
    ∙ (λ i. name ∷ expr_names first ++ expr_names last ++ statement_hidden turn i)

pub all_at : (s : Statement) (name : Used) (over : TypeText) (turn : Statement) (place : ℕ)
    → s ≡ statement.All name over turn place
    → statement_names s ≡ text_names over ++ statement_names turn
all_at s name over turn place h =
    ap statement_names h ∙ (λ i. text_names over ++ statement_hidden turn i)

-- What the functions over statements need.
pub ruleset rows = (compound_at, case_at, while_at, repeat_at, for_at, all_at)
