-- The statements of a function over frames of its own.
use Rattle.std.specs.Prelude.{ℕ, List, []}
use Rattle.plain_effects.specs.plain_systems.declared.system.Working.{Working}
use Rattle.plain_effects.specs.plain_systems.HeldSystems.{situation_of}
use Rattle.est_syntax.specs.declared.statement.Statement.{Statement}
use Rattle.est_values.specs.declared.value.Value.{Value}
use Rattle.mean_blocks.specs.FunctionCalls.{result_of}
use Rattle.mean_blocks.specs.GlobalSituation.{Frame}
use Rattle.mean_blocks.specs.Outcome.{Outcome}
use Rattle.mean_blocks.specs.StatementEffects.{statements_in}
use Rattle.plain_effects.specs.plain_operands.declared.site.Site.{Site}
use Rattle.plain_effects.specs.plain_operands.ExecutionSites.{site_of}

-- the result of the statements of a function in these frames
abbrev pub ran : ℕ → List Statement → Site → List Frame → Working → ℕ → Outcome ℕ Value
ran p xs s own w n = result_of p (statements_in xs (site_of s)
    (record { situation = situation_of w.system; outs = []; frames = own; left = n }))
