use Rattle.law_calls.proofs.PortsComplete.{ports_complete}
use Rattle.law_calls.proofs.ports.ports_are_complete.Goals as goal

pub returns : goal.returns
returns c = ports_complete
