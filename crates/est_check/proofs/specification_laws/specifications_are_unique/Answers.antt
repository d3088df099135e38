use Rattle.est_check.proofs.Unique.{same_specification}
use Rattle.est_check.proofs.specification_laws.specifications_are_unique.Goals as goal

pub returns : goal.returns
returns c = same_specification
