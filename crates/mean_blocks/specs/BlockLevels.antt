-- What blocks and expressions mean, with the levels of calls and of initialize parts within one
-- another (ISO 7185, 6.2.3; ISO 9074, initialization-part and transition-block).
use Rattle.std.specs.Prelude.{ℕ, zero, suc, Bool, false, List, []}
use Rattle.est_syntax.specs.declared.expression.Expr.{Expr}
use Rattle.est_syntax.specs.declared.statement.Statement.{Statement}
use Rattle.est_values.specs.declared.value.Value.{Value}
use Rattle.mean_blocks.specs.Outcome.{Outcome, Done, Fault, Limit}
use Rattle.mean_blocks.specs.WorkingState.{State, Deeper, Site, view}
use Rattle.mean_blocks.specs.ExpressionValues.{value_of}
use Rattle.mean_blocks.specs.StatementEffects.{statements_in}
use Rattle.mean_blocks.specs.OutputEffects.{Sent}
use Rattle.mean_blocks.specs.GlobalSituation.{Frame, Situation}
use Rattle.mean_blocks.specs.TextByPlace.{Text}

-- LEVELS

-- statements one level deeper, where so many levels are left
abbrev pub within : ℕ → Text → Deeper
within zero t n function xs = λ s. Limit
within (suc k) t n function xs = statements_in xs
    (record { text = t; instance = n; function = function; deeper = within k t })

-- how many levels calls and initialize parts may open within one another
abbrev pub most_levels : ℕ
most_levels = 32

-- the statements of an instance, with so many levels left
abbrev pub site : Text → ℕ → Bool → ℕ → Site
site t n function k = record { text = t; instance = n; function = function; deeper = within k t }

-- BLOCKS AND EXPRESSIONS

-- a state in which nothing was sent yet, and so many statements may be entered
abbrev pub beginning : Situation → List Frame → ℕ → State
beginning s frames limit = record { situation = s; outs = []; frames = frames; left = limit }

-- what a block leaves: the situation, and what was sent out of the system
abbrev pub left_by : Outcome State (Unit {0}) → Outcome Sent (Unit {0})
left_by (Done u s) = Done u (record { situation = s.situation; outs = s.outs })
left_by (Fault f) = Fault f
left_by Limit = Limit

-- What the statements of a block of an instance do in a situation, within frames, where so many
-- statements may be entered (ISO 7185, 6.2.1; ISO 9074, transition-block).
abbrev pub block_meaning : Text → ℕ → List Frame → List Statement → ℕ → Situation
    → Outcome Sent (Unit {0})
block_meaning t n frames statements limit s =
    left_by (statements_in statements (site t n false most_levels) (beginning s frames limit))

-- What an expression of an instance yields in a situation, within frames, with the count of the
-- statements that are left (ISO 7185, 6.7).
abbrev pub expression_meaning : Text → ℕ → List Frame → Expr → ℕ → Situation → Outcome ℕ Value
expression_meaning t n frames e limit s =
    value_of e (view (site t n false most_levels) (beginning s frames limit)) limit
