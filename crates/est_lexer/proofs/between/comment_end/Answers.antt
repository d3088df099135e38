use Rattle.std.proofs.Common.{arith}
use Rattle.est_lexer.proofs.Marks.{opening_small, comment_between, comment_inside}
use Rattle.est_lexer.proofs.between.comment_end.Goals as goal

pub overflow_add-place : goal.overflow_add-place
overflow_add-place c = omega (arith, opening_small c.args.text.now c.args.place)

pub returns-else-mark-eq0-clause-between : goal.returns-else-mark-eq0-clause-between
returns-else-mark-eq0-clause-between c = comment_between _ _ _ _ c.opening_at-mark.ensures
    c.if-mark-eq0.false c.first_end.ensures

pub returns-else-mark-eq0-clause-inside : goal.returns-else-mark-eq0-clause-inside
returns-else-mark-eq0-clause-inside c = comment_inside _ _ _ c.first_end.ensures
