use Rattle.law_calls.proofs.CheckComplete.{print_complete}
use Rattle.law_calls.proofs.laws.print_is_complete.Goals as goal

pub returns : goal.returns
returns c = print_complete
