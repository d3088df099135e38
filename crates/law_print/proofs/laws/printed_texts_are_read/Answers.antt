use Rattle.law_print.proofs.Reading.{are_read}
use Rattle.law_print.proofs.laws.printed_texts_are_read.Goals as goal

pub returns : goal.returns
returns c = are_read
