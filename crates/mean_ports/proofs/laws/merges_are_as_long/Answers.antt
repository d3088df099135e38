use Rattle.mean_ports.proofs.Lengths.{merges_as_long}
use Rattle.mean_ports.proofs.laws.merges_are_as_long.Goals as goal

pub returns : goal.returns
returns c = merges_as_long
