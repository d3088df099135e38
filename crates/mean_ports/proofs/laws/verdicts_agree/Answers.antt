use Rattle.mean_ports.proofs.Agreeing
use Rattle.mean_ports.proofs.laws.verdicts_agree.Goals as goal

pub returns : goal.returns
returns c = Agreeing.verdicts_agree
