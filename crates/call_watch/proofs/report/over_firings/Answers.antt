-- The pieces of the format, regrouped.
use Rattle.std.proofs.Common.{rules, append_assoc}
use Rattle.call_watch.proofs.report.over_firings.Goals as goal

pub returns : goal.returns
returns c = search (rules, append_assoc)
