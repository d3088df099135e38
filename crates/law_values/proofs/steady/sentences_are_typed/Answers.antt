use Rattle.law_values.proofs.SteadySentences.{sentences_are_steady, sentences_are_typed}
use Rattle.law_values.proofs.steady.sentences_are_typed.Goals as goal

pub returns-clause-steady : goal.returns-clause-steady
returns-clause-steady c = sentences_are_steady

pub returns-clause-typed : goal.returns-clause-typed
returns-clause-typed c = sentences_are_typed
