use Rattle.law_calls.proofs.SelfRuns.{self_runs_agree}
use Rattle.law_calls.proofs.self_runs.self_runs_agree.Goals as goal

pub returns : goal.returns
returns c = self_runs_agree
