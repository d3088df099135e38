use Rattle.std.proofs.Common.{◌≡◌, drop}
use Rattle.rule_declares.specs.Declares.{by_parts_declare}
use Rattle.rule_outline.proofs.modules.by_parts.Given as goal

abbrev pub invariant-loop-item : goal.invariant-loop-item
invariant-loop-item l = by_parts_declare l.within l.region (drop l.item-index l.items) l.outline
    ≡ by_parts_declare l.within l.region l.items l.fn.outline
