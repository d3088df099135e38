use Rattle.est_trace.proofs.Versions.{quiet_reads, loud_reads}
use Rattle.est_trace.proofs.trace.quiet.Goals as goal

pub returns-then-sees_word : goal.returns-then-sees_word
returns-then-sees_word c = quiet_reads c.if-sees_word.ensures c.take_word.ensures

pub returns-else-sees_word : goal.returns-else-sees_word
returns-else-sees_word c = loud_reads c.if-sees_word.ensures
