-- The lemmas are the laws.
use Rattle.law_texts.proofs.Sentences.{texts, read_back}
use Rattle.law_texts.proofs.readable.traces_of_sentences_are_read.Goals as goal

pub returns : goal.returns
returns c = record { texts = texts; answers = read_back }
