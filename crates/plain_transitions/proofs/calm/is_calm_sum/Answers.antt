use Rattle.std.proofs.Common.{◌≡◌, arith, length}
use Rattle.std.proofs.lemmas.List.{nil_from_length}
use Rattle.est_syntax.specs.declared.expression.Simple.{out-Simple}
use Rattle.plain_transitions.proofs.CalmLaws.{sum_calm}
use Rattle.plain_transitions.proofs.calm.is_calm_sum.Goals as goal

pub returns-then-is_empty : goal.returns-then-is_empty
returns-then-is_empty c = λ h.
    let none : length (out-Simple c.args.simple.now).rest ≡ 0 =
    grind (arith, c.if-is_empty.ensures, c.as_slice.ensures) in
    sum_calm c.args.outline.now c.args.simple.now c.in-None.is
    (nil_from_length (out-Simple c.args.simple.now).rest none) (c.is_calm_product.ensures h)
