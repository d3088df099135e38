use Rattle.est_check.proofs.Small.{sentence_is_small}
use Rattle.est_check.proofs.specification_laws.sentences_are_small.Goals as goal

pub returns : goal.returns
returns c = sentence_is_small
