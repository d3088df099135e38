use Rattle.std.proofs.Common.{drop}
use Rattle.plain_choices.proofs.Ranks.{IsBestBut}
use Rattle.plain_choices.proofs.found.best_due.Given as goal

-- the best one but for those that are left
abbrev pub invariant-loop-offer : goal.invariant-loop-offer
invariant-loop-offer l = IsBestBut l.offers (drop l.offer-index l.offers) l.best
