-- The lemma is the law.
use Rattle.law_sentences.proofs.Declarations.{constant_full}
use Rattle.law_sentences.proofs.laws.constants_are_full.Goals as goal

pub returns : goal.returns
returns c = constant_full
