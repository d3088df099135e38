use Rattle.std.proofs.Common.{arith}
use Rattle.plain_outside.proofs.FirstNames.{name_more}
use Rattle.plain_outside.proofs.names.add_names.Goals as goal

pub loop-number-preserved : goal.loop-number-preserved
loop-number-preserved c = name_more c.args.region.now c.loop-number.number
    (c.entry.result.0.now, c.entry.result.1) c.loop-number.names.entries
    c.add_name.new.names.entries (omega arith) c.entry.ensures c.loop-number.invariant
    c.in_ok-add_name.ensures
