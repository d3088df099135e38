-- A row is found as it is changed, and those of other instances as they were.
use Rattle.mean_blocks.proofs.FirstChanged.{row_found, rows_stay}
use Rattle.mean_blocks.proofs.laws.other_rows_stay.Goals as goal

pub returns-clause-changed : goal.returns-clause-changed
returns-clause-changed c = row_found

pub returns-clause-others : goal.returns-clause-others
returns-clause-others c = rows_stay
