-- The lemma is the law.
use Rattle.law_sentences.proofs.Declarations.{text_full}
use Rattle.law_sentences.proofs.laws.texts_are_full.Goals as goal

pub returns : goal.returns
returns c = text_full
