use Rattle.law_calls.proofs.Printings.{written_read}
use Rattle.law_calls.proofs.printed.written_texts_are_read.Goals as goal

pub returns : goal.returns
returns c = written_read
