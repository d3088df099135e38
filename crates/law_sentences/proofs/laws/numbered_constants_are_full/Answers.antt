-- The lemma is the law.
use Rattle.law_sentences.proofs.Declarations.{numbered_full}
use Rattle.law_sentences.proofs.laws.numbered_constants_are_full.Goals as goal

pub returns : goal.returns
returns c = numbered_full
