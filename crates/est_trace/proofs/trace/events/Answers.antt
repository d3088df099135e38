use Rattle.est_trace.proofs.Events.{none_read, seen_well, one_read_of}
use Rattle.est_trace.proofs.Events.{less_left, all_read, all_counted}
use Rattle.est_trace.proofs.trace.events.Goals as goal

pub loop-format-init : goal.loop-format-init
loop-format-init c = rw c.new-found.ensures (none_read c.args.format c.args.directory.now.ports.now)

pub loop-format-smaller : goal.loop-format-smaller
loop-format-smaller c = less_left c.args.format c.args.directory.now.ports.now c.loop-format-test.ensures
    c.enter.ensures c.event-next.ensures c.keep_some.ensures.still

pub loop-format-preserved : goal.loop-format-preserved
loop-format-preserved c = one_read_of c.args.format c.args.directory.now.ports.now c.event-next.result
    c.loop-format.invariant c.loop-format-test.ensures c.enter.ensures c.event-next.ensures
    c.keep_some.ensures

pub returns-clause-reads : goal.returns-clause-reads
returns-clause-reads c = all_read c.args.format c.args.directory.now.ports.now c.loop-format.invariant
    c.loop-format-test.ensures c.close.ensures

pub returns-clause-counts : goal.returns-clause-counts
returns-clause-counts c = all_counted c.args.format c.args.directory.now.ports.now c.loop-format.invariant
    c.close.ensures

pub enter-requires : goal.enter-requires
enter-requires c = seen_well c.args.format c.args.directory.now.ports.now c.loop-format.reader
    c.loop-format-test.ensures
