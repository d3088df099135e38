-- The lemma is the law.
use Rattle.law_sentences.proofs.Sentences.{sentence_full}
use Rattle.law_sentences.proofs.laws.sentences_are_full.Goals as goal

pub returns : goal.returns
returns c = sentence_full
