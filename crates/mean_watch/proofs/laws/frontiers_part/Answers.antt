use Rattle.mean_watch.proofs.Parting
use Rattle.mean_watch.proofs.laws.frontiers_part.Goals as goal

pub returns : goal.returns
returns c = Parting.frontiers_part
