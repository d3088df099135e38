use Rattle.law_calls.proofs.SelfRunComplete.{self_run_complete}
use Rattle.law_calls.proofs.laws.self_run_is_complete.Goals as goal

pub returns : goal.returns
returns c = self_run_complete
