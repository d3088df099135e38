-- What expressions see of a situation.
use Rattle.std.specs.Prelude.{◌≡◌, ℕ, Bool, List}
use Rattle.est_syntax.specs.declared.expression.Expr.{Expr}
use Rattle.est_syntax.specs.declared.expression.Selector.{Selector}
use Rattle.est_syntax.specs.declared.name.Used.{Used}
use Rattle.mean_blocks.specs.TextByPlace.{Text}
use Rattle.mean_blocks.specs.GlobalSituation.{Frame, Situation}
use Rattle.mean_blocks.specs.WorkingState.{View}
use Rattle.mean_blocks.specs.ExpressionValues.{value_of, variable_of}
use Rattle.mean_blocks.specs.BlockLevels.{site}

-- what the expressions of an instance see, where so many levels are left
abbrev pub sight : Text → ℕ → Bool → ℕ → Situation → List Frame → View
sight t n function levels s fs =
    record { site = site t n function levels; situation = s; frames = fs }

-- of a situation, expressions see the rows alone
abbrev pub ExpressionsSeeRows : Type 0
ExpressionsSeeRows = (t : Text) (n : ℕ) (function : Bool) (levels : ℕ) (s u : Situation)
    (fs : List Frame) (e : Expr) → u.rows ≡ s.rows
    → value_of e (sight t n function levels u fs) ≡ value_of e (sight t n function levels s fs)

-- so do variables with their selectors
abbrev pub VariablesSeeRows : Type 0
VariablesSeeRows = (t : Text) (n : ℕ) (function : Bool) (levels : ℕ) (s u : Situation)
    (fs : List Frame) (name : Used) (path : List Selector) → u.rows ≡ s.rows
    → variable_of name path (sight t n function levels u fs)
    ≡ variable_of name path (sight t n function levels s fs)
