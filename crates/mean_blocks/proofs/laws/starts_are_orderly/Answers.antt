-- A system begins at the clock 0; its instances ascend in number, and connections lead both ways.
use Rattle.mean_blocks.proofs.OrderlyStarts.{starts_are_orderly}
use Rattle.mean_blocks.proofs.laws.starts_are_orderly.Goals as goal

pub returns : goal.returns
returns c = starts_are_orderly
