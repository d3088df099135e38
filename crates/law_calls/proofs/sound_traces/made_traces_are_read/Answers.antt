use Rattle.law_calls.proofs.SoundTraces.{made_traces_are_texts, made_traces_are_read}
use Rattle.law_calls.proofs.sound_traces.made_traces_are_read.Goals as goal

pub returns-clause-texts : goal.returns-clause-texts
returns-clause-texts c = made_traces_are_texts

pub returns-clause-answers : goal.returns-clause-answers
returns-clause-answers c = made_traces_are_read
