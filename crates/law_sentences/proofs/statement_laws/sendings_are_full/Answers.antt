-- The law is its lemma.
use Rattle.law_sentences.proofs.FullStatements.{sendings_full}
use Rattle.law_sentences.proofs.statement_laws.sendings_are_full.Goals as goal

pub returns : goal.returns
returns c = sendings_full
