use Rattle.law_calls.proofs.MadeEvents.{made_traces_are_fair, made_events_are_allowed}
use Rattle.law_calls.proofs.MadeEvents.{made_traces_are_allowed}
use Rattle.law_calls.proofs.made_events.made_events_are_allowed.Goals as goal

pub returns-clause-fair : goal.returns-clause-fair
returns-clause-fair c = made_traces_are_fair

pub returns-clause-events : goal.returns-clause-events
returns-clause-events c = made_events_are_allowed

pub returns-clause-traces : goal.returns-clause-traces
returns-clause-traces c = made_traces_are_allowed
