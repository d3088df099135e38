use Rattle.law_calls.proofs.SelfRuns.{explained_is_not_refused}
use Rattle.law_calls.proofs.self_runs.explained_traces_are_not_refused.Goals as goal

pub returns : goal.returns
returns c = explained_is_not_refused
