use Rattle.std.proofs.Common.{◌≡◌, ◌++◌, take}
use Rattle.std.specs.List.{filter}
use Rattle.plain_choices.specs.inside.InstanceOffers.{firings_of, is_unranked}
use Rattle.plain_choices.proofs.found.add_firings.Given as goal

-- those of so many offers are there
abbrev pub invariant-loop-offer : goal.invariant-loop-offer
invariant-loop-offer l = l.firings.items
    ≡ l.fn.firings.items ++ firings_of (filter (is_unranked l.best) (take l.offer-index l.offers))
