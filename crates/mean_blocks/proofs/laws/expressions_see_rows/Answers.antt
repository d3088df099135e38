-- Of a situation, expressions see the rows alone.
use Rattle.mean_blocks.proofs.BlindFunctions.{values_see_rows, variables_see_rows}
use Rattle.mean_blocks.proofs.laws.expressions_see_rows.Goals as goal

pub returns-clause-values : goal.returns-clause-values
returns-clause-values c = values_see_rows

pub returns-clause-variables : goal.returns-clause-variables
returns-clause-variables c = variables_see_rows
