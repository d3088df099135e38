-- What a statement declares by the lists and boxes that it is made of.
use Rattle.std.proofs.Common.{◌≡◌, refl, ap, ◌∙◌, ℕ, Bool, List, Option, Some, None}
use Rattle.est_syntax.specs.declared.name.Used.{Used}
use Rattle.est_syntax.specs.declared.expression.Expr.{Expr}
use Rattle.est_syntax.specs.declared.type_text.TypeText.{TypeText}
use Rattle.est_syntax.specs.declared.statement.Arm.{Arm}
use Rattle.est_syntax.specs.declared.statement.Statement.{Statement, Row_of-Statement}
use Rattle.est_syntax.specs.declared.statement.Statement.{end_of-Statement, more_of-Statement}
use Rattle.est_syntax.specs.declared.statement.Statement.{items-the_row-Statement}
use Rattle.est_syntax.specs.declared.statement.Statement.{items_hidden-the_row-Statement-0}
use Rattle.est_syntax.specs.declared.statement.Statement.{Row_of-Arm, end_of-Arm, more_of-Arm}
use Rattle.est_syntax.specs.declared.statement.Statement.{items-the_row-Arm}
use Rattle.est_syntax.specs.declared.statement.Statement.{items_hidden-the_row-Arm-2}
use Rattle.est_syntax.specs.declared.statement.Statement.{back-Statement-If-2}
use Rattle.est_syntax.specs.declared.statement.Statement.TheBlock.{hidden-the_row-Statement-0}
use Rattle.est_syntax.specs.declared.statement.Statement.TheBlock.{hidden-the_row-Statement-1}
use Rattle.est_syntax.specs.declared.statement.Statement.TheBlock.{shape-the_row-Statement-1}
use Rattle.est_syntax.specs.declared.statement.Statement.TheBlock.{hidden-the_row-Arm-2}
use Rattle.est_syntax.specs.declared.statement.Statement.TheVariants as statement
use Rattle.rule_declares.specs.rule_scope.declared.declaration.Within.{Within}
use Rattle.rule_declares.specs.rule_scope.Outline.{Outline}
use Rattle.rule_declares.specs.rule_scope.Declaring.{lying}
use Rattle.rule_declares.specs.Entries.{inner}
use Rattle.rule_declares.specs.Bodies.{within_declares, row_statements, held_declares, row_arms}
use Rattle.rule_declares.specs.Bodies.{statement_declares, statements_declare, expr_place}
use Rattle.rule_declares.specs.Bodies.{all_named}
use Rattle.rule_outline.specs.inside.DeclaredParts.{second_declares, arm_declares, arms_declare}

box : (w : Within) (s : Statement) (o : Outline) → row_statements w (hidden-the_row-Statement-1 s) o
    ≡ statement_declares w s o
unfolding shape-the_row-Statement-1 hidden-the_row-Statement-1 denote.Hole.Carrier.hidden
box w s o = refl

statements_row : (w : Within) (n : _) (row : Row_of-Statement n) (o : Outline)
    → row_statements w row o ≡ statements_declare w (items-the_row-Statement n row) o
statements_row w n end_of-Statement o = refl
statements_row w n (more_of-Statement s rest) o = statements_row w _ rest (statement_declares w s o)

statements_hidden : (w : Within) (ss : List Statement) (o : Outline)
    → row_statements w (hidden-the_row-Statement-0 ss) o ≡ statements_declare w ss o
statements_hidden w ss o = statements_row w _ (hidden-the_row-Statement-0 ss) o
    ∙ ap (λ l. statements_declare w l o) (items_hidden-the_row-Statement-0 ss)

arms_row : (w : Within) (n : _) (row : Row_of-Arm n) (o : Outline)
    → row_arms w row o ≡ arms_declare w (items-the_row-Arm n row) o
arms_row w n end_of-Arm o = refl
arms_row w n (more_of-Arm constants s rest) o = arms_row w _ rest
    (arm_declares w record { constants = constants; turn = s } o)

second : (w : Within) (s : Option Statement) (o : Outline)
    → held_declares w (back-Statement-If-2 s) o ≡ second_declares w s o
second w None o = refl
second w (Some s) o = box w s o

pub compound_declares : (w : Within) (s : Statement) (ss : List Statement) (place : ℕ) (o : Outline)
    → s ≡ statement.Compound ss place → within_declares w s o ≡ statements_declare w ss o
compound_declares w s ss place o h = ap (λ x. within_declares w x o) h ∙ statements_hidden w ss o

pub if_declares : (w : Within) (s first : Statement) (e : Expr) (other : Option Statement)
    (place : ℕ) (o : Outline) → s ≡ statement.If e first other place
    → within_declares w s o ≡ second_declares w other (statement_declares w first o)
if_declares w s first e other place o h =
    ap (λ x. within_declares w x o) h
    ∙ second w other (row_statements w (hidden-the_row-Statement-1 first) o)
    ∙ ap (second_declares w other) (box w first o)

pub case_declares : (w : Within) (s : Statement) (e : Expr) (arms : List Arm) (place : ℕ)
    (o : Outline) → s ≡ statement.Case e arms place → within_declares w s o ≡ arms_declare w arms o
case_declares w s e arms place o h =
    ap (λ x. within_declares w x o) h
    ∙ arms_row w _ (hidden-the_row-Arm-2 arms) o
    ∙ ap (λ l. arms_declare w l o) (items_hidden-the_row-Arm-2 arms)

pub while_declares : (w : Within) (s turn : Statement) (e : Expr) (place : ℕ) (o : Outline)
    → s ≡ statement.While e turn place → within_declares w s o ≡ statement_declares w turn o
while_declares w s turn e place o h = ap (λ x. within_declares w x o) h ∙ box w turn o

pub repeat_declares : (w : Within) (s : Statement) (ss : List Statement) (e : Expr) (place : ℕ)
    (o : Outline) → s ≡ statement.Repeat ss e place
    → within_declares w s o ≡ lying w (expr_place e) (statements_declare w ss o)
repeat_declares w s ss e place o h = ap (λ x. within_declares w x o) h
    ∙ ap (lying w (expr_place e)) (statements_hidden w ss o)

pub for_declares : (w : Within) (s turn : Statement) (u : Used) (e f : Expr) (down : Bool)
    (place : ℕ) (o : Outline) → s ≡ statement.For u e down f turn place
    → within_declares w s o ≡ statement_declares w turn o
for_declares w s turn u e f down place o h = ap (λ x. within_declares w x o) h ∙ box w turn o

pub all_declares : (w : Within) (s turn : Statement) (u : Used) (t : TypeText) (place : ℕ)
    (o : Outline) → s ≡ statement.All u t turn place
    → within_declares w s o ≡ statement_declares (inner w place) turn (all_named (inner w place) u t
    o)
all_declares w s turn u t place o h = ap (λ x. within_declares w x o) h
    ∙ box (inner w place) turn (all_named (inner w place) u t o)

-- What the functions over statements need.
pub ruleset rows = (
  compound_declares,
  if_declares,
  case_declares,
  while_declares,
  repeat_declares,
  for_declares,
  all_declares,
)
