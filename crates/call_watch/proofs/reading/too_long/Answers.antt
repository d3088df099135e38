use Rattle.call_files.specs.RefusalLines.{too_long_line}
use Rattle.call_files.specs.declared.file.File.TheVariants as file
use Rattle.call_watch.proofs.ReadingLaws.{last_counted}
use Rattle.call_watch.proofs.reading.too_long.Goals as goal

pub returns-clause-sink : goal.returns-clause-sink
returns-clause-sink g c =
    last_counted (c.write_last.ensures.last (too_long_line file.Trace) c.too_long_report.ensures)
    (λ same. same) (λ e. cc) c.write_last.ensures.unwritten c.write_last.ensures.written
