use Rattle.est_explanation.proofs.Checks.{answer_one}
use Rattle.est_explanation.proofs.replay_laws.one_answer.Goals as goal

pub returns : goal.returns
returns c = answer_one
