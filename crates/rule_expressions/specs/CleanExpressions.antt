-- What the definitions keep.
use Rattle.std.specs.Prelude.{◌≡◌, [], Some}
use Rattle.est_syntax.specs.declared.expression.Expr.{Expr}
use Rattle.rule_scope.specs.Outline.{Outline}
use Rattle.est_values.specs.Types.{Yielded}
use Rattle.rule_expressions.specs.Expressions.{expr_type, expr_faults}

-- an expression that yields something breaks no rule
abbrev pub ExpressionsAreClean : Type 0
ExpressionsAreClean =
    (o : Outline) (e : Expr) (t : Yielded) → expr_type o e ≡ Some t → expr_faults o e ≡ []
