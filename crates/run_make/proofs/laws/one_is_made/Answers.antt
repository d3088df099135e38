use Rattle.run_make.proofs.OneMade.{one_made}
use Rattle.run_make.proofs.laws.one_is_made.Goals as goal

pub returns : goal.returns
returns c = one_made
