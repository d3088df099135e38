use Rattle.law_calls.proofs.ReplayComplete.{replay_complete}
use Rattle.law_calls.proofs.laws.replay_is_complete.Goals as goal

pub returns : goal.returns
returns c = replay_complete
