use Rattle.est_seen.proofs.KnownMatches.{one_match}
use Rattle.est_seen.proofs.laws.known_matches_one.Goals as goal

pub returns : goal.returns
returns c = one_match
