use Rattle.law_values.proofs.SteadySentences.{runs_of_sentences_fit}
use Rattle.law_values.proofs.SteadySentences.{traces_of_sentences_are_allowed}
use Rattle.law_values.proofs.steady.runs_of_sentences_fit.Goals as goal

pub returns-clause-situations : goal.returns-clause-situations
returns-clause-situations c = runs_of_sentences_fit

pub returns-clause-traces : goal.returns-clause-traces
returns-clause-traces c = traces_of_sentences_are_allowed
