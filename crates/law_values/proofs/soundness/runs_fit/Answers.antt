use Rattle.law_values.proofs.FittingRuns.{runs_fit, explained_traces_are_allowed}
use Rattle.law_values.proofs.soundness.runs_fit.Goals as goal

pub returns-clause-situations : goal.returns-clause-situations
returns-clause-situations c = runs_fit

pub returns-clause-traces : goal.returns-clause-traces
returns-clause-traces c = explained_traces_are_allowed
