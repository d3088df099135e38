use Rattle.mean_ports.proofs.YieldsOfMerges
use Rattle.mean_ports.proofs.laws.port_yields_are_yields.Goals as goal

pub returns : goal.returns
returns c = YieldsOfMerges.port_yields_are_yields
