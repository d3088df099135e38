use Rattle.law_runs.proofs.CountedItems.{arrivals_put_one, outputs_put_one}
use Rattle.law_runs.proofs.waiting.outputs_put_one_or_none.Goals as goal

pub returns-clause-arrivals : goal.returns-clause-arrivals
returns-clause-arrivals c = arrivals_put_one

pub returns-clause-outputs : goal.returns-clause-outputs
returns-clause-outputs c = outputs_put_one
