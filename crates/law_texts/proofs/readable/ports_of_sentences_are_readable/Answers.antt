-- The lemma is the law.
use Rattle.law_texts.proofs.Sentences.{ports_readable}
use Rattle.law_texts.proofs.readable.ports_of_sentences_are_readable.Goals as goal

pub returns : goal.returns
returns c = ports_readable
