use Rattle.std.proofs.Common.{rules}
use Rattle.est_values.proofs.LaidLaws.{get_in, get_behind}
use Rattle.est_values.proofs.chunks.Chunks.get.Goals as goal

pub returns-in-Some : goal.returns-in-Some
returns-in-Some g c = search (rules, get_in)

pub returns-in-None : goal.returns-in-None
returns-in-None g c = search (rules, get_behind)
