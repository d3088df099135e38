use Rattle.law_runs.proofs.InsideRuns.{sentences_lead_to_younger, sentences_descend}
use Rattle.law_runs.proofs.attached.sentences_lead_to_younger.Goals as goal

pub returns-clause-younger : goal.returns-clause-younger
returns-clause-younger c = sentences_lead_to_younger

pub returns-clause-ends : goal.returns-clause-ends
returns-clause-ends c = sentences_descend
