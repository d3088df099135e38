use Rattle.rule_ports.proofs.TableSteps.{added}
use Rattle.rule_ports.proofs.making.add_point.Goals as goal

pub returns : goal.returns
returns c =
    added c.args.points.now c.add.new.self c.args.name.now c.args.kinds.now c.in_ok-kinds.kinds
    c.args.signals c.len.result c.ports_before.result c.args.elements c.saturating_add-until.result
    c.requires.table c.requires.fresh c.len.ensures c.ports_before.ensures c.requires.elements
    c.saturating_add-until.ensures c.in_ok-kinds.ensures c.in_ok-add.ensures
