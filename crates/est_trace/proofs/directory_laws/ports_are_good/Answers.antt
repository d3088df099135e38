use Rattle.est_trace.proofs.GoodPorts.{good_ports}
use Rattle.est_trace.proofs.directory_laws.ports_are_good.Goals as goal

pub returns : goal.returns
returns c = good_ports
