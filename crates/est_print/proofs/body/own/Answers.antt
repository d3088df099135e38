use Rattle.std.proofs.Common.{refl, sym, ap}
use Rattle.text_printer.proofs.Printing.{take, last, then, in_first, in_second, rule_prints, shown}
use Rattle.text_productions.specs.Nodes as view
use Rattle.est_syntax.specs.declared.body.Part.TheViews as forms
use Rattle.est_print.proofs.body.own.Goals as goal

pub returns-in-Points : goal.returns-in-Points
returns-in-Points c = shown (rw c.in-Points.is (sym (ap view.own_part (forms.outs-Points _))))
    (rule_prints (in_first c.points.ensures))

pub returns-in-Vars : goal.returns-in-Vars
returns-in-Vars c = shown (rw c.in-Vars.is (sym (ap view.own_part (forms.outs-Vars _))))
    (rule_prints (in_second (in_first c.vars.ensures)))

pub returns-in-States : goal.returns-in-States
returns-in-States c = shown (rw c.in-States.is (sym (ap view.own_part (forms.outs-States _))))
    (rule_prints (in_second (in_second (in_first (take refl c.word.ensures (then c.idents.ensures
    (last refl c.symbol.ensures)))))))

pub returns-in-StateSets : goal.returns-in-StateSets
returns-in-StateSets c = shown (rw c.in-StateSets.is (sym (ap view.own_part (forms.outs-StateSets
    _)))) (rule_prints (in_second (in_second (in_second c.statesets.ensures))))
