use Rattle.std.proofs.Common.{arith, ◌≤◌, ◌+◌, length}
use Rattle.est_lexer.specs.Between.{closing}
use Rattle.est_lexer.proofs.Marks.{closing_inside, closing_past}
use Rattle.est_lexer.proofs.between.first_end.Goals as goal

pub overflow_add-result : goal.overflow_add-result
overflow_add-result c =
    let inside : c.loop-mark.mark + closing c.args.text.now c.loop-mark.mark ≤ length
    c.args.text.now = closing_inside c.args.text.now c.loop-mark.mark (omega arith) in
    omega arith

pub returns : goal.returns
returns c = record {
  none = λ mark from. grind (
    arith,
    c.loop-mark.invariant mark from,
    closing_past c.args.text.now
        mark,
  );
}
