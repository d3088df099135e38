use Rattle.mean_ports.proofs.UsingUp
use Rattle.mean_ports.proofs.laws.explaining_runs_use_up.Goals as goal

pub returns : goal.returns
returns c = UsingUp.explaining_runs_use_up
