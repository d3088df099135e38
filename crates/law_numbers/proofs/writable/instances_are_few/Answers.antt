use Rattle.law_numbers.proofs.FewInstances.{instances_few}
use Rattle.law_numbers.proofs.writable.instances_are_few.Goals as goal

pub returns : goal.returns
returns c = instances_few
