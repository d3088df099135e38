-- The law is its lemma.
use Rattle.law_sentences.proofs.WholeSentences.{sentences_whole}
use Rattle.law_sentences.proofs.sentence_laws.sentences_are_whole.Goals as goal

pub returns : goal.returns
returns c = sentences_whole
