use Rattle.law_values.proofs.AllowedDepartures.{explained_traces_send}
use Rattle.law_values.proofs.SendingRuns.{runs_send}
use Rattle.law_values.proofs.departures.runs_send.Goals as goal

pub returns-clause-events : goal.returns-clause-events
returns-clause-events c = runs_send

pub returns-clause-traces : goal.returns-clause-traces
returns-clause-traces c = explained_traces_send
