-- A function changes no situation and sends nothing.
use Rattle.mean_blocks.proofs.KeptByBlocks.{statements_silent, functions_silent}
use Rattle.mean_blocks.proofs.laws.functions_are_silent.Goals as goal

pub returns-clause-statements : goal.returns-clause-statements
returns-clause-statements c = statements_silent

pub returns-clause-blocks : goal.returns-clause-blocks
returns-clause-blocks c = functions_silent
