use Rattle.std.proofs.Common.{◌≡◌, drop}
use Rattle.rule_declares.specs.Declares.{vars_declare}
use Rattle.rule_outline.proofs.declares.vars.Given as goal

abbrev pub invariant-loop-item : goal.invariant-loop-item
invariant-loop-item l = vars_declare l.within (drop l.item-index l.items) l.outline
    ≡ vars_declare l.within l.items l.fn.outline
