use Rattle.est_explanation.proofs.Replaying.{beyond_asks_all}
use Rattle.est_explanation.proofs.replay_laws.claims_beyond_ask_all.Goals as goal

pub returns : goal.returns
returns c = beyond_asks_all
