use Rattle.std.proofs.Common.{◌≡◌, drop}
use Rattle.rule_declares.specs.Declares.{modvars_declare}
use Rattle.rule_outline.proofs.modules.modvars.Given as goal

abbrev pub invariant-loop-item : goal.invariant-loop-item
invariant-loop-item l = modvars_declare l.within (drop l.item-index l.items) l.outline
    ≡ modvars_declare l.within l.items l.fn.outline
