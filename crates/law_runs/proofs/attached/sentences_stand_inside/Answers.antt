use Rattle.law_runs.proofs.InsideSentences.{sentences_stand_inside}
use Rattle.law_runs.proofs.attached.sentences_stand_inside.Goals as goal

pub returns : goal.returns
returns c = sentences_stand_inside
