use Rattle.law_numbers.proofs.FewChoices.{choices_few}
use Rattle.law_numbers.proofs.writable.choices_are_few.Goals as goal

pub returns : goal.returns
returns c = choices_few
