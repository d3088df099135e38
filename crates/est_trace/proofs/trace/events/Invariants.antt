use Rattle.text_reader.proofs.Steps.{left_of}
use Rattle.est_trace.proofs.Events.{Counting}
use Rattle.est_trace.proofs.trace.events.Given as goal

abbrev pub invariant-loop-format : goal.invariant-loop-format
invariant-loop-format l = Counting l.format l.directory.ports.now l.fn.reader l.found l.reader

abbrev pub decreases-loop-format : goal.decreases-loop-format
decreases-loop-format l = left_of l.reader
