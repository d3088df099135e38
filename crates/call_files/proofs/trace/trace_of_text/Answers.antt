use Rattle.std.proofs.Common.{arith}
use Rattle.call_files.specs.FileTexts.{OfTrace, RefusesTrace}
use Rattle.call_files.proofs.ReadLaws.{takes_longer, takes_read}
use Rattle.call_files.proofs.trace.trace_of_text.Goals as goal

pub returns-then-text-limit-clause-takes : goal.returns-then-text-limit-clause-takes
returns-then-text-limit-clause-takes c = takes_longer _ (omega arith) c.too_long.ensures

pub returns-clause-takes : goal.returns-clause-takes
returns-clause-takes c =
    takes_read (OfTrace c.args.checked.now) (RefusesTrace c.args.checked.now) c.trace_of.result
    c.trace_of.ensures.reads
