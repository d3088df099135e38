use Rattle.law_calls.proofs.PortsResults.{ports_agree}
use Rattle.law_calls.proofs.ports.ports_results_agree.Goals as goal

pub returns : goal.returns
returns c = ports_agree
