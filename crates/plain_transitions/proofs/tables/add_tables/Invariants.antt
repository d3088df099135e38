use Rattle.std.proofs.Common.{take}
use Rattle.plain_transitions.specs.inside.BodyTables.{AreTabled, bodies_held}
use Rattle.plain_transitions.proofs.tables.add_tables.Given as goal

abbrev pub invariant-loop-body : goal.invariant-loop-body
invariant-loop-body l = AreTabled l.text (bodies_held (take l.body-index l.bodies))
    l.fn.tables.entries l.tables.entries
