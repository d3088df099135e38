use Rattle.est_seen.proofs.MatchEach.{EachBefore}
use Rattle.est_seen.proofs.seen.+matches.Given as goal

abbrev pub invariant-match_each-loop-i : goal.invariant-match_each-loop-i
invariant-match_each-loop-i l = EachBefore l.i l.seen l.values
