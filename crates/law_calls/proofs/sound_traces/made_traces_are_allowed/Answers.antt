use Rattle.law_calls.proofs.SoundTraces.{made_traces_fit, made_traces_are_allowed}
use Rattle.law_calls.proofs.SoundTraces.{made_traces_of_sentences_are_allowed}
use Rattle.law_calls.proofs.sound_traces.made_traces_are_allowed.Goals as goal

pub returns-clause-events : goal.returns-clause-events
returns-clause-events c = made_traces_fit

pub returns-clause-typed : goal.returns-clause-typed
returns-clause-typed c = made_traces_are_allowed

pub returns-clause-sentences : goal.returns-clause-sentences
returns-clause-sentences c = made_traces_of_sentences_are_allowed
