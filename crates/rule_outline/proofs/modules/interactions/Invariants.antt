use Rattle.std.proofs.Common.{◌≡◌, drop}
use Rattle.rule_declares.specs.Declares.{interactions_declare}
use Rattle.rule_outline.proofs.modules.interactions.Given as goal

abbrev pub invariant-loop-item : goal.invariant-loop-item
invariant-loop-item l = interactions_declare l.within l.region l.senders (drop l.item-index l.items)
    l.outline ≡ interactions_declare l.within l.region l.senders l.items l.fn.outline
