use Rattle.mean_ports.proofs.FromMerges
use Rattle.mean_ports.proofs.laws.runs_are_port_runs.Goals as goal

pub returns : goal.returns
returns c = FromMerges.runs_are_port_runs
