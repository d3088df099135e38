use Rattle.law_values.proofs.FittingRuns.{starts_fit, firings_fit, events_fit}
use Rattle.law_values.proofs.soundness.steps_fit.Goals as goal

pub returns-clause-starts : goal.returns-clause-starts
returns-clause-starts c = starts_fit

pub returns-clause-firings : goal.returns-clause-firings
returns-clause-firings c = firings_fit

pub returns-clause-events : goal.returns-clause-events
returns-clause-events c = events_fit
