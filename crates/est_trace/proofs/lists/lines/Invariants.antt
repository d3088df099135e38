use Rattle.text_reader.proofs.Steps.{left_of}
use Rattle.est_trace.proofs.LineLoop.{Lines}
use Rattle.est_trace.proofs.lists.lines.Given as goal

abbrev pub invariant-loop-at : goal.invariant-loop-at
invariant-loop-at l = Lines l.directory.ports.now l.fn.reader l.at l.found l.reader

abbrev pub decreases-loop-at : goal.decreases-loop-at
decreases-loop-at l = left_of l.reader
