use Rattle.mean_ports.proofs.AlongMerges
use Rattle.mean_ports.proofs.laws.port_runs_are_runs.Goals as goal

pub returns : goal.returns
returns c = AlongMerges.port_runs_are_runs
