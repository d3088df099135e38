-- Turns of loops, and statements of several parts.
use Rattle.std.specs.Prelude.{ℕ, ℤ, pos, ◌+ℤ◌, ◌-ℤ◌, Bool, true, false, List, Option}
use Rattle.est_syntax.specs.declared.expression.Expr.{Expr}
use Rattle.est_syntax.specs.declared.statement.Arm.{Arm}
use Rattle.est_syntax.specs.declared.statement.Statement.{Statement}
use Rattle.est_values.specs.declared.value.Value.{Value}
use Rattle.est_values.specs.declared.value.Value.TheVariants as value
use Rattle.mean_blocks.specs.Outcome.{Outcome, ◌>>=◌, ◌>>◌, give}
use Rattle.mean_blocks.specs.OrdinalOperators.{is_true}
use Rattle.mean_blocks.specs.ReachedVariables.{Reached}
use Rattle.mean_blocks.specs.StatementEffects.{statement_of, else_in, arms_in}
use Rattle.mean_blocks.specs.ValueOperators.{choose}
use Rattle.mean_blocks.specs.WorkingState.{State, Site, Does, enter}
use Rattle.mean_blocks.specs.WriteEffects.{ordinal_of, stored}

-- a turn of a `for` with a value in its variable
abbrev pub valued_turn : Reached → Statement → Site → Value → Does
valued_turn r x site v = stored site.function r v >> statement_of x site

-- a turn of a `for`
abbrev pub for_turn : Reached → Statement → Site → ℤ → Does
for_turn r x site z = valued_turn r x site (value.Ordinal z)

-- a turn with its count
abbrev pub counted_turn : Reached → Statement → Site → Value → Does
counted_turn r x site v = enter >> valued_turn r x site v

-- a turn of a `repeat`, and whether it was the last one
abbrev pub ended : Does → (State → Outcome State ℤ) → State → Outcome State Bool
ended turn until = (enter >> turn) >> (until >>= λ z. give (is_true z))

-- an `if`
abbrev pub branched : Expr → Statement → Option Statement → Site → Does
branched e first second site =
    ordinal_of e site >>= λ z. choose z (statement_of first site) (else_in second site)

-- a `case`
abbrev pub chosen : Expr → List Arm → Site → Does
chosen e arms site = ordinal_of e site >>= λ z. arms_in arms z site

-- the ordinal of a turn of a `for` that begins with another, up or down
abbrev pub turn_at : Bool → ℤ → ℕ → ℤ
turn_at false z n = z +ℤ pos n
turn_at true z n = z -ℤ pos n
