use Rattle.std.proofs.Common.{◌≡◌, drop}
use Rattle.rule_declares.specs.Lasts.{interactions_last}
use Rattle.rule_outline.proofs.lasts.interactions_last.Given as goal

abbrev pub invariant-loop-interaction : goal.invariant-loop-interaction
invariant-loop-interaction l = interactions_last (drop l.interaction-index l.interactions) l.last
    ≡ interactions_last l.interactions l.fn.last
