use Rattle.law_runs.proofs.CountedSteps.{starts_counted, counts_go_on}
use Rattle.law_runs.proofs.waiting.items_are_counted.Goals as goal

pub returns-clause-starts : goal.returns-clause-starts
returns-clause-starts c = starts_counted

pub returns-clause-steps : goal.returns-clause-steps
returns-clause-steps c = counts_go_on
