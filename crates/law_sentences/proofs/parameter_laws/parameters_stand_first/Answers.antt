-- The law is its lemma.
use Rattle.law_sentences.proofs.ParameterOrder.{parameters_first}
use Rattle.law_sentences.proofs.parameter_laws.parameters_stand_first.Goals as goal

pub returns : goal.returns
returns c = parameters_first
