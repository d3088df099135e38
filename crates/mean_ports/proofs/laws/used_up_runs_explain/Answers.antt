use Rattle.mean_ports.proofs.UsingUp
use Rattle.mean_ports.proofs.laws.used_up_runs_explain.Goals as goal

pub returns : goal.returns
returns c = UsingUp.used_up_runs_explain
