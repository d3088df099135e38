-- The pieces of the format, regrouped.
use Rattle.std.proofs.Common.{rules, append_assoc}
use Rattle.call_files.proofs.report.refusal_report.Goals as goal

pub returns : goal.returns
returns c = rw (← c.word-word.ensures) (search (rules, append_assoc))
