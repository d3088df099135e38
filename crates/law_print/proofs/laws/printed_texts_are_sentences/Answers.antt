use Rattle.law_print.proofs.Reading.{are_sentences}
use Rattle.law_print.proofs.laws.printed_texts_are_sentences.Goals as goal

pub returns : goal.returns
returns c = are_sentences
