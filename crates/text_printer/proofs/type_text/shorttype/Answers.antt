use Rattle.std.proofs.Common.{sym}
use Rattle.text_printer.proofs.Printing.{then, here_prints, in_second, opt_out, rule_prints, shown}
use Rattle.text_printer.proofs.Single.{name_prints}
use Rattle.text_productions.proofs.Made as made
use Rattle.text_printer.proofs.type_text.shorttype.Goals as goal

pub returns-in-Named : goal.returns-in-Named
returns-in-Named c = shown (rw c.in-Named.is (sym (made.named_made c.in-Named.name))) (rule_prints
    (in_second (here_prints (then (name_prints c.in-Named.name c.name.ensures) opt_out)
    c.in-Named.name.place)))

pub returns-in-Range : goal.returns-in-Range
returns-in-Range c = shown (rw c.in-Range.is (sym (made.range_made c.in-Range.low
    c.in-Range.high))) c.range.ensures
