use Rattle.std.proofs.Common.{None, Some, refl, ap, ◌∙◌, arith}
use Rattle.est_syntax.specs.declared.ports.Port.{Port}
use Rattle.rule_ports.specs.declared.table.Elements.{Elements}
use Rattle.rule_ports.proofs.Numbered.{told_by}
use Rattle.rule_ports.proofs.ports.Ports.signals.Goals as goal

pub returns-in-None : goal.returns-in-None
returns-in-None c =
    told_by c.self.inside.points c.args.self.now c.args.number c.points_before.result
    (λ (p : Port). p.signals) c.self.view_is c.self.invariant c.points_before.ensures
    (omega arith) (λ (e : Elements). e.signals) (λ p t. refl) None c.in-None.ensures

pub returns-in-Some : goal.returns-in-Some
returns-in-Some c =
    ap Some c.get.ensures
    ∙ told_by c.self.inside.points c.args.self.now c.args.number c.points_before.result
    (λ (p : Port). p.signals) c.self.view_is c.self.invariant c.points_before.ensures
    (omega arith) (λ (e : Elements). e.signals) (λ p t. refl) (Some c.in-Some.elements.now)
    c.in-Some.ensures
