use Rattle.est_meaning.proofs.OrderLaws.{run_order}
use Rattle.est_meaning.proofs.run_laws.run_order_is_strict_total.Goals as goal

pub returns : goal.returns
returns c = run_order
