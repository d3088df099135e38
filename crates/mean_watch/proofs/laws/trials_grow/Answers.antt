use Rattle.mean_watch.proofs.Growing
use Rattle.mean_watch.proofs.laws.trials_grow.Goals as goal

pub returns : goal.returns
returns c = Growing.trials_grow
