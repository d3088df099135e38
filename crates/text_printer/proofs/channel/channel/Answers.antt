use Rattle.std.proofs.Common.{sym, ap, length, ◌∙◌}
use Rattle.text_printer.proofs.Printing.{part}
use Rattle.text_printer.proofs.Told.{channel_never, two_listed, channel_told}
use Rattle.text_printer.proofs.channel.channel.Goals as goal

pub returns-then-roles-eq2 : goal.returns-then-roles-eq2
returns-then-roles-eq2 c = part (channel_told c.args.declared.now c.index-roles-0.result
    c.index-roles-1.result (sym c.as_slice-roles.ensures ∙ two_listed c.as_slice-roles.result.now
    c.index-roles-0.result c.index-roles-1.result c.if-roles-eq2.true c.index-roles-0.is
    c.index-roles-1.is)) (channel_told c.args.declared.now c.index-roles-0.result
    c.index-roles-1.result (sym c.as_slice-roles.ensures ∙ two_listed c.as_slice-roles.result.now
    c.index-roles-0.result c.index-roles-1.result c.if-roles-eq2.true c.index-roles-0.is
    c.index-roles-1.is)) c.channel_of.ensures

pub returns-else-roles-eq2 : goal.returns-else-roles-eq2
returns-else-roles-eq2 c = channel_never c.args.declared.now (λ e. c.if-roles-eq2.false (ap length
    c.as_slice-roles.ensures ∙ e))
