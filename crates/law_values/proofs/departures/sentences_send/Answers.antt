use Rattle.law_values.proofs.SendingRuns.{sentences_are_sound, sentences_send}
use Rattle.law_values.proofs.departures.sentences_send.Goals as goal

pub returns-clause-sound : goal.returns-clause-sound
returns-clause-sound c = sentences_are_sound

pub returns-clause-events : goal.returns-clause-events
returns-clause-events c = sentences_send
