use Rattle.std.proofs.Common.{◌≡◌, arith, length}
use Rattle.std.proofs.lemmas.List.{nil_from_length}
use Rattle.plain_transitions.proofs.CalmLaws.{operand_calm}
use Rattle.plain_transitions.proofs.calm.is_calm_operand.Goals as goal

pub returns-then-is_empty : goal.returns-then-is_empty
returns-then-is_empty c = λ h.
    let none : length c.in-Variable.path ≡ 0 =
    grind (arith, c.if-is_empty.ensures, c.as_slice.ensures) in
    operand_calm c.args.outline.now c.args.factor.now c.in-Variable.name c.in-Variable.path
    c.in-Variable.place c.in-Variable.is (nil_from_length c.in-Variable.path none)
    (c.is_calm_name.ensures h)
