-- The lemmas are the laws.
use Rattle.law_texts.proofs.Sentences.{declared_formed, subscripts_declared_formed, ports_formed}
use Rattle.law_texts.proofs.readable.kinds_of_sentences_are_well_formed.Goals as goal

pub returns : goal.returns
returns c = record {
  declared = declared_formed;
  subscripts = subscripts_declared_formed;
  ports = ports_formed;
}
