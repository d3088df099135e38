use Rattle.law_runs.proofs.InsideRuns.{sentences_stay_orderly}
use Rattle.law_runs.proofs.attached.sentences_stay_orderly.Goals as goal

pub returns : goal.returns
returns c = sentences_stay_orderly
