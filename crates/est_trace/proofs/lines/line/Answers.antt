use Rattle.est_trace.proofs.WholeLines.{line_reads, line_counted}
use Rattle.est_trace.proofs.lines.line.Goals as goal

pub returns-clause-reads : goal.returns-clause-reads
returns-clause-reads c = line_reads c.args.directory.now.ports.now c.events-found.result
    c.take_word.ensures c.number-version.ensures c.events-found.ensures.reads
    c.take_word-2.ensures

pub returns-clause-counts : goal.returns-clause-counts
returns-clause-counts c = line_counted c.args.directory.now.ports.now c.take_word.ensures
    c.number-version.ensures c.events-found.ensures.reads.goes.same c.events-found.ensures.counts
    c.take_word-2.ensures
