use Rattle.law_values.proofs.SendingRuns.{starts_send, firings_send}
use Rattle.law_values.proofs.departures.steps_send.Goals as goal

pub returns-clause-starts : goal.returns-clause-starts
returns-clause-starts c = starts_send

pub returns-clause-firings : goal.returns-clause-firings
returns-clause-firings c = firings_send
