use Rattle.law_calls.proofs.Complete.{search_complete}
use Rattle.law_calls.proofs.laws.search_is_complete.Goals as goal

pub returns : goal.returns
returns c = search_complete
