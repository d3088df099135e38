use Rattle.est_trace.proofs.Readings.{spent_reads}
use Rattle.est_trace.proofs.lists.lists_in.Goals as goal

pub returns-in-Err : goal.returns-in-Err
returns-in-Err c = spent_reads c.spend.ensures.still c.spend.ensures.spent
