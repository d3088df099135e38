use Rattle.law_numbers.proofs.FewTransitions.{transitions_few}
use Rattle.law_numbers.proofs.writable.transitions_are_few.Goals as goal

pub returns : goal.returns
returns c = transitions_few
