use Rattle.est_meaning.specs.RecordedTraces.{Recorded}
use Rattle.est_trace.specs.TraceShapes.{ShowsQuiet}
use Rattle.est_trace.proofs.Readings.{word_reads}
use Rattle.est_trace.proofs.Versions.{rest_reads, versions_read}
use Rattle.est_trace.proofs.Fullness.{trace_counted}
use Rattle.est_trace.proofs.trace.whole_trace.Goals as goal

pub returns-clause-reads : goal.returns-clause-reads
returns-clause-reads c =
    let ports = c.args.directory.now.ports.now in
    let v = c.version-version.result in
    let r : Recorded = record { events = c.events-events.result; quiet = c.ending-quiet.result } in
    word_reads c.take_word.ensures (versions_read ports v r c.version-version.ensures
    (rest_reads ports v r c.format.ensures c.events-events.ensures.reads c.take_word-2.ensures
    c.ending-quiet.ensures))

pub returns-clause-counts : goal.returns-clause-counts
returns-clause-counts c =
    trace_counted c.version-version.result (ShowsQuiet c.ending-quiet.result)
    c.args.directory.now.ports.now c.format.ensures c.take_word.ensures
    c.version-version.ensures.takes c.events-events.ensures.reads.goes.same
    c.events-events.ensures.counts c.take_word-2.ensures c.ending-quiet.ensures
