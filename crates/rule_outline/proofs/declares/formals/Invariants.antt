use Rattle.std.proofs.Common.{◌≡◌, drop}
use Rattle.rule_declares.specs.Declares.{formals_declare}
use Rattle.rule_outline.proofs.declares.formals.Given as goal

abbrev pub invariant-loop-item : goal.invariant-loop-item
invariant-loop-item l = formals_declare l.within (drop l.item-index l.items) l.outline
    ≡ formals_declare l.within l.items l.fn.outline
