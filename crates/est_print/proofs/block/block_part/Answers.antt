use Rattle.std.proofs.Common.{sym, ap}
use Rattle.text_printer.proofs.Printing.{in_first, in_second, part}
use Rattle.est_print.proofs.Others.{block_part_never}
use Rattle.text_productions.specs.Nodes as view
use Rattle.est_syntax.specs.declared.body.Part.TheViews as forms
use Rattle.est_print.proofs.block.block_part.Goals as goal

pub returns-in-Consts : goal.returns-in-Consts
returns-in-Consts c = part (rw c.in-Consts.is (sym (ap view.block_part (forms.outs-Consts _))))
    (rw c.in-Consts.is (sym (ap view.block_part (forms.outs-Consts _)))) (in_first
    c.consts.ensures)

pub returns-in-Types : goal.returns-in-Types
returns-in-Types c = part (rw c.in-Types.is (sym (ap view.block_part (forms.outs-Types _)))) (rw
    c.in-Types.is (sym (ap view.block_part (forms.outs-Types _)))) (in_second (in_first
    c.types.ensures))

pub returns-in-Vars : goal.returns-in-Vars
returns-in-Vars c = part (rw c.in-Vars.is (sym (ap view.block_part (forms.outs-Vars _)))) (rw
    c.in-Vars.is (sym (ap view.block_part (forms.outs-Vars _)))) (in_second (in_second
    c.vars.ensures))

pub returns-in_default : goal.returns-in_default
returns-in_default c = block_part_never c.args.part.now c.in_default.not-Consts
    c.in_default.not-Types c.in_default.not-Vars
