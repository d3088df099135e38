use Rattle.law_calls.proofs.CheckComplete.{check_complete}
use Rattle.law_calls.proofs.laws.check_is_complete.Goals as goal

pub returns : goal.returns
returns c = check_complete
