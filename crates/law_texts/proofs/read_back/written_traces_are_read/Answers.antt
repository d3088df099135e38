use Rattle.law_texts.proofs.ReadBack.{texts, read_back}
use Rattle.law_texts.proofs.read_back.written_traces_are_read.Goals as goal

pub returns : goal.returns
returns c = record { texts = texts; answers = read_back }
