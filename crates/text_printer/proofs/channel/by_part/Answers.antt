use Rattle.std.proofs.Common.{sym, ap, length, ◌∙◌}
use Rattle.text_printer.proofs.Printing.{part}
use Rattle.text_printer.proofs.Told.{by_never, one_listed, two_listed, one_told, both_told}
use Rattle.text_printer.proofs.channel.by_part.Goals as goal

pub returns-then-roles-eq1 : goal.returns-then-roles-eq1
returns-then-roles-eq1 c = part (one_told c.args.part.now c.index-roles-0.result (sym
    c.as_slice-roles.ensures ∙ one_listed c.as_slice-roles.result.now c.index-roles-0.result
    c.if-roles-eq1.true c.index-roles-0.is)) (one_told c.args.part.now c.index-roles-0.result (sym
    c.as_slice-roles.ensures ∙ one_listed c.as_slice-roles.result.now c.index-roles-0.result
    c.if-roles-eq1.true c.index-roles-0.is)) c.by_one.ensures

pub returns-then-roles-eq2 : goal.returns-then-roles-eq2
returns-then-roles-eq2 c = part (both_told c.args.part.now c.index-roles-0-then-roles-eq2.result
    c.index-roles-1.result (sym c.as_slice-roles.ensures ∙ two_listed c.as_slice-roles.result.now
    c.index-roles-0-then-roles-eq2.result c.index-roles-1.result c.if-roles-eq2.true
    c.index-roles-0-then-roles-eq2.is c.index-roles-1.is)) (both_told c.args.part.now
    c.index-roles-0-then-roles-eq2.result c.index-roles-1.result (sym c.as_slice-roles.ensures ∙
    two_listed c.as_slice-roles.result.now c.index-roles-0-then-roles-eq2.result
    c.index-roles-1.result c.if-roles-eq2.true c.index-roles-0-then-roles-eq2.is
    c.index-roles-1.is)) c.by_both.ensures

pub returns-else-roles-eq2 : goal.returns-else-roles-eq2
returns-else-roles-eq2 c = by_never c.args.part.now (λ e. c.if-roles-eq1.false (ap length
    c.as_slice-roles.ensures ∙ e)) (λ e. c.if-roles-eq2.false (ap length c.as_slice-roles.ensures
    ∙ e))
