use Rattle.std.proofs.Common.{refl}
use Rattle.text_printer.proofs.Printing.{here_prints, in_first, in_second, rule_prints, part}
use Rattle.est_print.proofs.transition.clause.Goals as goal

pub returns-in-From : goal.returns-in-From
returns-in-From c = part (rw (c.in-From.is) refl) (rw (c.in-From.is) refl) (rule_prints
    (here_prints (in_first c.from_clause.ensures) c.in-From.place))

pub returns-in-To : goal.returns-in-To
returns-in-To c = part (rw (c.in-To.is) refl) (rw (c.in-To.is) refl) (rule_prints (here_prints
    (in_second (in_first c.to_clause.ensures)) c.in-To.place))

pub returns-in-When : goal.returns-in-When
returns-in-When c = part (rw (c.in-When.is) refl) (rw (c.in-When.is) refl) (rule_prints
    (here_prints (in_second (in_second (in_first c.when_clause.ensures))) c.in-When.place))

pub returns-in-Provided : goal.returns-in-Provided
returns-in-Provided c = part (rw (c.in-Provided.is, c.get.ensures) refl) (rw (
  c.in-Provided.is,
  c.get.ensures,
) refl) (rule_prints (here_prints (in_second (in_second (in_second (in_first
    c.provided_clause.ensures)))) c.in-Provided.place))

pub returns-in-Otherwise : goal.returns-in-Otherwise
returns-in-Otherwise c = part (rw (c.in-Otherwise.is) refl) (rw (c.in-Otherwise.is) refl)
    (rule_prints (here_prints (in_second (in_second (in_second (in_first
    c.otherwise_clause.ensures)))) c.in-Otherwise.place))

pub returns-in-Any : goal.returns-in-Any
returns-in-Any c = part (rw (c.in-Any.is) refl) (rw (c.in-Any.is) refl) (rule_prints (here_prints
    (in_second (in_second (in_second (in_second (in_first c.any_clause.ensures)))))
    c.in-Any.place))

pub returns-in-Priority : goal.returns-in-Priority
returns-in-Priority c = part (rw (c.in-Priority.is) refl) (rw (c.in-Priority.is) refl)
    (rule_prints (here_prints (in_second (in_second (in_second (in_second (in_second (in_first
    c.priority_clause.ensures)))))) c.in-Priority.place))

pub returns-in-Delay : goal.returns-in-Delay
returns-in-Delay c = part (rw (c.in-Delay.is, c.get-in-Delay.ensures) refl) (rw (
  c.in-Delay.is,
  c.get-in-Delay.ensures,
) refl) (rule_prints (here_prints (in_second (in_second (in_second
    (in_second (in_second (in_second c.delay_clause.ensures)))))) c.in-Delay.place))
