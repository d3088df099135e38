use Rattle.std.proofs.Common.{arith}
use Rattle.est_lexer.proofs.Marks.{between_append, between_onward}
use Rattle.est_lexer.proofs.between.begin_from.Goals as goal

pub loop-end-smaller : goal.loop-end-smaller
loop-end-smaller c =
    let onward = between_onward c.blanks_end-place-in-Some.ensures.between in
    omega (arith, onward, c.in-Some.ensures.onward)

pub loop-end-preserved : goal.loop-end-preserved
loop-end-preserved c = record {
  between = between_append c.loop-end.invariant.between (between_append c.in-Some.ensures.between
      c.blanks_end-place-in-Some.ensures.between);
  inside = c.blanks_end-place-in-Some.ensures.inside;
  ended = c.blanks_end-place-in-Some.ensures.ended;
}
