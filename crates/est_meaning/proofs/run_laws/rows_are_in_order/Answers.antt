use Rattle.est_meaning.proofs.RunRows.{rows_in_order}
use Rattle.est_meaning.proofs.run_laws.rows_are_in_order.Goals as goal

pub returns : goal.returns
returns c = rows_in_order
