use Rattle.est_trace.proofs.Readings.{spent_reads}
use Rattle.est_trace.proofs.trace.found_in.Goals as goal

pub returns-in-Err-clause-reads : goal.returns-in-Err-clause-reads
returns-in-Err-clause-reads c = spent_reads c.spend.ensures.still c.spend.ensures.spent
