use Rattle.est_trace.proofs.LineAnswers.{line_known, line_read, line_at_ports, line_few}
use Rattle.est_trace.proofs.LineAnswers.{line_refused}
use Rattle.est_trace.proofs.lines.read_line.Goals as goal

pub known_events-requires : goal.known_events-requires
known_events-requires c = line_known c.line-found.result c.requires.good
    c.line-found.ensures.reads c.new-reader.ensures c.in_ok-whole.ensures

pub returns-in-Ok-clause-reads : goal.returns-in-Ok-clause-reads
returns-in-Ok-clause-reads c = line_read c.line-found.result c.requires.good
    c.line-found.ensures.reads c.new-reader.ensures c.in-Ok.events c.in_ok-whole.ensures
    c.in-Ok.ensures

pub returns-in-Ok-clause-at_ports : goal.returns-in-Ok-clause-at_ports
returns-in-Ok-clause-at_ports c = line_at_ports c.line-found.result c.requires.good
    c.line-found.ensures.reads c.new-reader.ensures c.in-Ok.events c.in_ok-whole.ensures
    c.in-Ok.ensures

pub returns-in-Ok-clause-few : goal.returns-in-Ok-clause-few
returns-in-Ok-clause-few c = line_few c.line-found.result c.requires.good
    c.line-found.ensures.reads c.new-reader.ensures c.in-Ok.events c.in_ok-whole.ensures
    c.in-Ok.ensures

pub returns-in_err-whole-clause-reads : goal.returns-in_err-whole-clause-reads
returns-in_err-whole-clause-reads c = line_refused c.line-found.result c.requires.good
    c.line-found.ensures.reads c.new-reader.ensures c.line-found.ensures.counts
    c.in_err-whole.field-0.0 _ c.in_err-whole.ensures c.from_residual.ensures
