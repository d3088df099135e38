use Rattle.law_runs.proofs.CountedItems.{items_have_one_number, none_waits}
use Rattle.law_runs.proofs.waiting.items_have_one_number.Goals as goal

pub returns-clause-one : goal.returns-clause-one
returns-clause-one c = items_have_one_number

pub returns-clause-first : goal.returns-clause-first
returns-clause-first c = none_waits
