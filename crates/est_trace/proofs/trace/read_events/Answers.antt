use Rattle.est_trace.proofs.Answering.{read, read_at_ports, read_unseen, answered}
use Rattle.est_trace.proofs.trace.read_events.Goals as goal

pub trace_of-requires : goal.trace_of-requires
trace_of-requires c = read_unseen c.found_in-found.result c.requires
    c.found_in-found.ensures.reads c.new-reader.ensures c.in_ok-whole.ensures

pub returns-clause-reads : goal.returns-clause-reads
returns-clause-reads c = read c.found_in-found.result c.requires
    c.found_in-found.ensures.reads c.new-reader.ensures c.trace_of.result c.in_ok-whole.ensures
    c.trace_of.ensures

pub returns-clause-at_ports : goal.returns-clause-at_ports
returns-clause-at_ports c = (read_at_ports c.found_in-found.result c.requires
    c.found_in-found.ensures.reads c.new-reader.ensures c.trace_of.result c.in_ok-whole.ensures
    c.trace_of.ensures).0

pub returns-clause-few : goal.returns-clause-few
returns-clause-few c = (read_at_ports c.found_in-found.result c.requires
    c.found_in-found.ensures.reads c.new-reader.ensures c.trace_of.result c.in_ok-whole.ensures
    c.trace_of.ensures).1

pub returns-in_err-whole-clause-reads : goal.returns-in_err-whole-clause-reads
returns-in_err-whole-clause-reads c = answered c.found_in-found.result c.requires
    c.found_in-found.ensures.reads c.new-reader.ensures c.found_in-found.ensures.counts
    c.in_err-whole.field-0.0 _ c.in_err-whole.ensures c.from_residual.ensures
