use Rattle.mean_ports.proofs.AllowedMerges.{merge_allowed}
use Rattle.mean_ports.proofs.laws.merges_are_allowed.Goals as goal

pub returns : goal.returns
returns c = merge_allowed
