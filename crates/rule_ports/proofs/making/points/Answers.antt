use Rattle.std.proofs.Common.{None, Some, List, subst}
use Rattle.std.specs.Prelude.{IfOk}
use Rattle.est_syntax.specs.declared.ports.Port.{Port}
use Rattle.rule_declares.specs.PortList.{ports_of}
use Rattle.rule_ports.specs.inside.Making.{AreMade}
use Rattle.rule_ports.proofs.TableSteps.{elements_along, names_along, header_is, header_in}
use Rattle.rule_ports.proofs.TableSteps.{empty_of}
use Rattle.rule_ports.proofs.making.points.Goals as goal

pub points_in-requires-clause-elements : goal.points_in-requires-clause-elements
points_in-requires-clause-elements c = elements_along c.args.outline.now c.args.spec.now c.requires

pub points_in-requires-clause-different : goal.points_in-requires-clause-different
points_in-requires-clause-different c =
    names_along c.args.outline.now c.args.spec.now c.in-Some.header c.in-Some-names.names.now
    c.requires c.in-Some-names.ensures

pub returns-in-None : goal.returns-in-None
returns-in-None c =
    empty_of c.new.result (ports_of c.args.spec.now) c.new.ensures
    (header_is c.args.outline.now c.args.spec.now None c.requires c.in-None.ensures)

pub returns-in-None-names : goal.returns-in-None-names
returns-in-None-names c =
    empty_of c.new-in-None-names.result (ports_of c.args.spec.now) c.new-in-None-names.ensures
    (header_in c.args.outline.now c.args.spec.now c.in-Some.header None c.requires
    c.in-Some.ensures c.in-None-names.ensures)

pub returns-in-Some-names : goal.returns-in-Some-names
returns-in-Some-names c =
    subst (λ (xs : List Port). IfOk c.points_in.result (AreMade xs))
    (header_in c.args.outline.now c.args.spec.now c.in-Some.header
    (Some c.in-Some-names.names.now) c.requires c.in-Some.ensures
    c.in-Some-names.ensures) c.points_in.ensures
