use Rattle.law_numbers.proofs.WritableRuns.{firings_writable, runs_writable}
use Rattle.law_numbers.proofs.writable.runs_are_writable.Goals as goal

pub returns-clause-firings : goal.returns-clause-firings
returns-clause-firings c = firings_writable

pub returns-clause-moves : goal.returns-clause-moves
returns-clause-moves c = runs_writable
