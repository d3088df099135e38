use Rattle.std.proofs.Common.{◌≡◌, drop}
use Rattle.rule_declares.specs.Bodies.{parts_declare}
use Rattle.rule_outline.specs.inside.DeclaredParts.{transitions_declare, groups_declare}
use Rattle.rule_outline.proofs.bodies.+part.Given as goal

abbrev pub invariant-parts_declare-loop-part : goal.invariant-parts_declare-loop-part
invariant-parts_declare-loop-part l = parts_declare l.within (drop l.part-index l.parts) l.outline
    ≡ parts_declare l.within l.parts l.fn.outline

abbrev pub invariant-groups_declare-loop-group : goal.invariant-groups_declare-loop-group
invariant-groups_declare-loop-group l = groups_declare l.within (drop l.group-index l.groups)
    l.outline ≡ groups_declare l.within l.groups l.fn.outline

abbrev pub invariant-transitions_declare-loop-transition :
    goal.invariant-transitions_declare-loop-transition
invariant-transitions_declare-loop-transition l =
    transitions_declare l.within (drop l.transition-index l.transitions) (l.context, l.outline)
    ≡ transitions_declare l.within l.transitions (l.fn.context, l.fn.outline)
