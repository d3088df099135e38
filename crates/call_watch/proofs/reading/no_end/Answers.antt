use Rattle.std.proofs.Common.{codes}
use Rattle.call_files.specs.RefusalLines.{refusal_line}
use Rattle.call_files.specs.declared.file.File.TheVariants as file
use Rattle.call_watch.proofs.ReadingLaws.{last_counted}
use Rattle.call_watch.proofs.reading.no_end.Goals as goal

pub returns-clause-sink : goal.returns-clause-sink
returns-clause-sink g c =
    last_counted (c.write_last.ensures.last
    (refusal_line file.Trace c.args.row 1 (codes "bad token")) c.refusal_report.ensures)
    (λ same. same) (λ e. cc) c.write_last.ensures.unwritten c.write_last.ensures.written
