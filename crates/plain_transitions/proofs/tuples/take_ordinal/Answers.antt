use Rattle.plain_transitions.proofs.TupleLaws.{taken_by}
use Rattle.plain_transitions.proofs.tuples.take_ordinal.Goals as goal

pub returns : goal.returns
returns c = taken_by c.args.kind.now c.args.number.now c.ordinal_count-count.result
    c.ordinal_at.result c.ordinal_count-count.ensures c.if-count-eq0.false c.ordinal_at.ensures
