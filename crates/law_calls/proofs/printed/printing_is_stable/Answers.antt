use Rattle.law_calls.proofs.Printings.{texts_written, one_written, stable}
use Rattle.law_calls.proofs.printed.printing_is_stable.Goals as goal

pub returns-clause-printed : goal.returns-clause-printed
returns-clause-printed c = texts_written

pub returns-clause-one : goal.returns-clause-one
returns-clause-one c = one_written

pub returns-clause-stable : goal.returns-clause-stable
returns-clause-stable c = stable
