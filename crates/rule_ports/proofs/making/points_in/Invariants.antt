use Rattle.rule_ports.specs.inside.Making.{AreMadeTo}
use Rattle.rule_ports.proofs.making.points_in.Given as goal

abbrev pub invariant-loop-i : goal.invariant-loop-i
invariant-loop-i l = AreMadeTo l.outline l.names l.i l.points l.known
