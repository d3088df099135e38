use Rattle.law_runs.proofs.CountedItems.{changes_add_up, blocks_take_none}
use Rattle.law_runs.proofs.waiting.changes_add_up.Goals as goal

pub returns-clause-numbers : goal.returns-clause-numbers
returns-clause-numbers c = changes_add_up

pub returns-clause-blocks : goal.returns-clause-blocks
returns-clause-blocks c = blocks_take_none
