-- What a checked specification keeps.
use Rattle.std.specs.Prelude.{◌≡◌, List}
use Rattle.est_syntax.specs.declared.ports.Port.{Port}
use Rattle.est_syntax.specs.declared.specification.Spec.{Spec}
use Rattle.rule_declares.specs.Bodies.{outline_of}
use Rattle.est_types.specs.Table.{Table}
use Rattle.est_check.specs.LeastFault.{IsGood}
use Rattle.rule_ports.specs.Counts.{counts_of}
use Rattle.rule_ports.specs.declared.counts.Counts.{Counts}
use Rattle.rule_declares.specs.PortList.{ports_of}
use Rattle.est_check.specs.SentenceOf.{IsSentence}
use Rattle.est_check.specs.Small.{IsSmall}

-- the tree is that of a sentence, which is small and breaks no rule, and the rest is its own
pub record IsChecked (s : Spec) (table : Table) (ports : List Port) (counts : Counts) : Type 0 where
  pub sentence : IsSentence s
  pub small : IsSmall s
  pub good : IsGood s
  pub outline_is : table.outline ≡ outline_of s
  pub ports_are : ports ≡ ports_of s
  pub counts_are : counts ≡ counts_of s
