use Rattle.law_runs.proofs.ClimbsEnd.{climbs_end}
use Rattle.law_runs.proofs.upkeep.climbs_end.Goals as goal

pub returns-clause-up : goal.returns-clause-up
returns-clause-up c = climbs_end
