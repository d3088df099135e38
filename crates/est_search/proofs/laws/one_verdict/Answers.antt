use Rattle.est_search.proofs.OneVerdict.{verdict_unique}
use Rattle.est_search.proofs.laws.one_verdict.Goals as goal

pub returns : goal.returns
returns c = verdict_unique
