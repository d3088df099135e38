use Rattle.mean_ports.proofs.Yielding
use Rattle.mean_ports.proofs.laws.yields_are_port_yields.Goals as goal

pub returns : goal.returns
returns c = Yielding.yields_are_port_yields
