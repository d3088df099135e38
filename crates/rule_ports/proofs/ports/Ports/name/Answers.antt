use Rattle.std.proofs.Common.{ℕ, List, refl, ◌∙◌, arith}
use Rattle.est_syntax.specs.declared.ports.Port.{Port}
use Rattle.rule_ports.specs.declared.table.Elements.{Elements}
use Rattle.rule_ports.proofs.Numbered.{told}
use Rattle.rule_ports.proofs.ports.Ports.name.Goals as goal

pub returns : goal.returns
returns c =
    c.name.ensures
    ∙ told c.self.inside.points c.args.self.now c.args.number c.points_before.result
    (λ (p : Port). p.name.bytes) c.self.view_is c.self.invariant c.points_before.ensures
    (omega arith) (λ (p : List ℕ × Elements). p.0) (λ p t. refl)
