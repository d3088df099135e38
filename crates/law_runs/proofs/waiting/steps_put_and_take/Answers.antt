use Rattle.law_runs.proofs.CountedSteps.{events_put, firings_take}
use Rattle.law_runs.proofs.waiting.steps_put_and_take.Goals as goal

pub returns-clause-events : goal.returns-clause-events
returns-clause-events c = events_put

pub returns-clause-firings : goal.returns-clause-firings
returns-clause-firings c = firings_take
