use Rattle.std.proofs.Common.{◌≡◌, drop}
use Rattle.rule_declares.specs.Bodies.{statements_declare}
use Rattle.rule_outline.specs.inside.DeclaredParts.{arms_declare}
use Rattle.rule_outline.proofs.statements.+statement.Given as goal

abbrev pub invariant-statements-loop-item : goal.invariant-statements-loop-item
invariant-statements-loop-item l = statements_declare l.within (drop l.item-index l.items) l.outline
    ≡ statements_declare l.within l.items l.fn.outline

abbrev pub invariant-arms_declare-loop-arm : goal.invariant-arms_declare-loop-arm
invariant-arms_declare-loop-arm l = arms_declare l.within (drop l.arm-index l.arms) l.outline
    ≡ arms_declare l.within l.arms l.fn.outline
