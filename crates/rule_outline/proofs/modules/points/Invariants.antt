use Rattle.std.proofs.Common.{◌≡◌, drop}
use Rattle.rule_declares.specs.Declares.{points_declare}
use Rattle.rule_outline.proofs.modules.points.Given as goal

abbrev pub invariant-loop-item : goal.invariant-loop-item
invariant-loop-item l = points_declare l.within (drop l.item-index l.items) l.outline
    ≡ points_declare l.within l.items l.fn.outline
