-- The lemma is the law.
use Rattle.law_sentences.proofs.Declarations.{short_type_full}
use Rattle.law_sentences.proofs.laws.short_types_are_full.Goals as goal

pub returns : goal.returns
returns c = short_type_full
