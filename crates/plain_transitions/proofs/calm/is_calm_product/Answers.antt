use Rattle.std.proofs.Common.{◌≡◌, arith, length}
use Rattle.std.proofs.lemmas.List.{nil_from_length}
use Rattle.est_syntax.specs.declared.expression.Term.{out-Term}
use Rattle.plain_transitions.proofs.CalmLaws.{product_calm}
use Rattle.plain_transitions.proofs.calm.is_calm_product.Goals as goal

pub returns-then-is_empty : goal.returns-then-is_empty
returns-then-is_empty c = λ h.
    let none : length (out-Term c.args.term.now).rest ≡ 0 =
    grind (arith, c.if-is_empty.ensures, c.as_slice.ensures) in
    product_calm c.args.outline.now c.args.term.now
    (nil_from_length (out-Term c.args.term.now).rest none) (c.is_calm_operand.ensures h)
