-- What is evaluated of the rows of a tree is what is evaluated of their lists.
use Rattle.std.specs.Prelude.{◌≡◌, ℤ, List, Option}
use Rattle.est_syntax.specs.declared.expression.Factor.{Row_of-Expr, items-the_row-Expr}
use Rattle.est_syntax.specs.declared.expression.Factor.{Row_of-Member, items-the_row-Member}
use Rattle.est_syntax.specs.declared.expression.Factor.{Row_of-Selector, items-the_row-Selector}
use Rattle.est_syntax.specs.declared.expression.Simple.{Row_of-SumStep, items-the_row-SumStep}
use Rattle.est_syntax.specs.declared.expression.Term.{Row_of-ProductStep}
use Rattle.est_syntax.specs.declared.expression.Term.{items-the_row-ProductStep}
use Rattle.est_syntax.specs.declared.kind.Kind.{Kind}
use Rattle.est_syntax.specs.declared.statement.Statement.{Row_of-Statement, items-the_row-Statement}
use Rattle.est_syntax.specs.declared.statement.Statement.{Row_of-Arm, items-the_row-Arm}
use Rattle.est_values.specs.declared.value.Value.{Value}
use Rattle.mean_blocks.specs.declared.frame.Slot.{Slot}
use Rattle.mean_blocks.specs.WorkingState.{Site, View}
use Rattle.mean_blocks.specs.ReachedVariables.{Reached}
use Rattle.mean_blocks.specs.ExpressionValues.{row_sum, row_product, row_selected, row_values}
use Rattle.mean_blocks.specs.ExpressionValues.{row_required, row_members, row_components}
use Rattle.mean_blocks.specs.ExpressionValues.{row_subscripts, sums_in, products_in, selected_in}
use Rattle.mean_blocks.specs.ExpressionValues.{values_in, required_in, members_in, components_in}
use Rattle.mean_blocks.specs.ExpressionValues.{subscripts_in}
use Rattle.mean_blocks.specs.StatementEffects.{row_statements, row_arms, statements_in, arms_in}

-- what expressions within one, and its selectors, steps and members, yield
pub record ExpressionsOfRows : Type 0 where
  pub sums : (n : _) (row : Row_of-SumStep n) (a : Value) (v : View)
      → row_sum row a v ≡ sums_in (items-the_row-SumStep n row) a v
  pub products : (n : _) (row : Row_of-ProductStep n) (a : Value) (v : View)
      → row_product row a v ≡ products_in (items-the_row-ProductStep n row) a v
  pub selectors : (n : _) (row : Row_of-Selector n) (r : Reached) (v : View)
      → row_selected row r v ≡ selected_in (items-the_row-Selector n row) r v
  pub values : (n : _) (row : Row_of-Expr n) (xs : List Slot) (v : View)
      → row_values row xs v ≡ values_in (items-the_row-Expr n row) xs v
  pub required : (n : _) (row : Row_of-Expr n) (v : View)
      → row_required row v ≡ required_in (items-the_row-Expr n row) v
  pub members : (n : _) (row : Row_of-Member n) (zs : List ℤ) (v : View)
      → row_members row zs v ≡ members_in (items-the_row-Member n row) zs v
  pub components : (n : _) (row : Row_of-Expr n) (r : Reached) (v : View)
      → row_components row r v ≡ components_in (items-the_row-Expr n row) r v
  pub subscripts : (n : _) (row : Row_of-Expr n) (ks : Option (List Kind)) (zs : List ℤ) (v : View)
      → row_subscripts row ks zs v ≡ subscripts_in (items-the_row-Expr n row) ks zs v

-- what statements within one do
pub record StatementsOfRows : Type 0 where
  pub statements : (n : _) (row : Row_of-Statement n) (site : Site)
      → row_statements row site ≡ statements_in (items-the_row-Statement n row) site
  pub arms : (n : _) (row : Row_of-Arm n) (z : ℤ) (site : Site)
      → row_arms row z site ≡ arms_in (items-the_row-Arm n row) z site
