-- The pieces of the format, regrouped.
use Rattle.std.proofs.Common.{rules, append_assoc}
use Rattle.call_files.proofs.port_report.refused_report.Goals as goal

pub returns : goal.returns
returns c = search (rules, append_assoc)
