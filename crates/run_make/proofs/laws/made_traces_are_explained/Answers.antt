use Rattle.run_make.proofs.Explaining.{made_explained}
use Rattle.run_make.proofs.laws.made_traces_are_explained.Goals as goal

pub returns : goal.returns
returns c = made_explained
