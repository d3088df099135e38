use Rattle.rule_ports.proofs.TableSteps.{counted_elements, not_other}
use Rattle.rule_ports.proofs.making.push_entry.Goals as goal

pub add_point-requires-clause-elements : goal.add_point-requires-clause-elements
add_point-requires-clause-elements c =
    counted_elements c.args.entry.now c.in-Some.kinds c.requires.elements (not_other _ c.if-ne.ensures)
    c.in-Some.is
