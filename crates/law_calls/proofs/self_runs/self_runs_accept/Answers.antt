use Rattle.law_calls.proofs.SelfRuns.{self_runs_accept}
use Rattle.law_calls.proofs.self_runs.self_runs_accept.Goals as goal

pub returns : goal.returns
returns c = self_runs_accept
