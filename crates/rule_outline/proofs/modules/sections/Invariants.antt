use Rattle.std.proofs.Common.{◌≡◌, drop}
use Rattle.rule_declares.specs.Declares.{sections_declare}
use Rattle.rule_outline.proofs.modules.sections.Given as goal

abbrev pub invariant-loop-item : goal.invariant-loop-item
invariant-loop-item l = sections_declare l.within (drop l.item-index l.points) l.rest l.outline
    ≡ sections_declare l.within l.points l.exports l.fn.outline
