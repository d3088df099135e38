-- The lemma is the law.
use Rattle.law_sentences.proofs.Sentences.{sentence_written}
use Rattle.law_sentences.proofs.laws.sentences_are_written.Goals as goal

pub returns : goal.returns
returns c = sentence_written
