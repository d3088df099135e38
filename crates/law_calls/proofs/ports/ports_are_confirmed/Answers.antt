use Rattle.law_calls.proofs.PortsConfirmed.{ports_confirmed}
use Rattle.law_calls.proofs.ports.ports_are_confirmed.Goals as goal

pub returns : goal.returns
returns c = ports_confirmed
