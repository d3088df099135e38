-- What is kept of a specification that breaks no rule.
use Rattle.std.specs.Prelude.{◌≡◌}
use Rattle.est_syntax.specs.declared.specification.Spec.{Spec}
use Rattle.rule_declares.specs.Bodies.{outline_of}
use Rattle.est_check.specs.LeastFault.{IsGood}
use Rattle.rule_ports.specs.Counts.{counts_of}
use Rattle.rule_declares.specs.PortList.{ports_of}
use Rattle.est_check.specs.declared.judging.Kept.{Kept}

-- what is kept is that of this specification, which breaks no rule
pub record IsKept (s : Spec) (kept : Kept) : Type 0 where
  pub good : IsGood s
  pub outline_is : kept.table.outline ≡ outline_of s
  pub ports_are : kept.ports ≡ ports_of s
  pub counts_are : kept.counts ≡ counts_of s
