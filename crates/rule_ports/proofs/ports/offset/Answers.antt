use Rattle.std.proofs.Common.{arith}
use Rattle.std.proofs.lemmas.Int.{ints}
use Rattle.rule_ports.proofs.Ranks.{offset_is, offset_past, offset_before}
use Rattle.rule_ports.proofs.ports.offset.Goals as goal

pub returns-in_default : goal.returns-in_default
returns-in_default c =
    offset_before c.args.kind.now c.args.ordinal (omega (arith, ints, c.in_default.ensures))

pub returns-then-number-count : goal.returns-then-number-count
returns-then-number-count c =
    offset_is c.args.kind.now c.args.ordinal c.in-Some.number (omega arith)
    (omega (arith, ints, c.in-Some.ensures))

pub returns-else-number-count : goal.returns-else-number-count
returns-else-number-count c =
    offset_past c.args.kind.now c.args.ordinal c.in-Some.number (omega arith)
    (omega (arith, ints, c.in-Some.ensures))
