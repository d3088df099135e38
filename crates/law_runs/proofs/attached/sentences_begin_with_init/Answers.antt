use Rattle.law_runs.proofs.InsideSentences.{sentences_begin_with_init}
use Rattle.law_runs.proofs.attached.sentences_begin_with_init.Goals as goal

pub returns : goal.returns
returns c = sentences_begin_with_init
