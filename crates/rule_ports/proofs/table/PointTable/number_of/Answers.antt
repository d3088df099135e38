use Rattle.std.proofs.Common.{subst}
use Rattle.rule_ports.specs.PortTable.{IsNumberOf}
use Rattle.rule_ports.proofs.Tables.{number_found}
use Rattle.rule_ports.proofs.table.PointTable.number_of.Goals as goal

pub returns : goal.returns
returns c = subst (λ ps. IsNumberOf c.args.name.now ps c.get_index_of.result) c.self.view_is
    (number_found c.self.inside.under.entries c.args.name.now c.get_index_of.result
    c.get_index_of.ensures.index c.get_index_of.ensures.found)
