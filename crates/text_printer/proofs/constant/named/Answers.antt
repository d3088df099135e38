use Rattle.text_printer.proofs.Printing.{here_prints, in_first, in_second, rule_prints}
use Rattle.text_printer.proofs.Single.{name_prints}
use Rattle.text_printer.proofs.constant.named.Goals as goal

pub returns-in-None : goal.returns-in-None
returns-in-None c = λ place. rw c.in-None.is (rule_prints (in_second (here_prints (name_prints
    c.args.name.now c.name.ensures) place)))

pub returns-in-Some : goal.returns-in-Some
returns-in-Some c = λ place. rw c.in-Some.is (rule_prints (in_first (here_prints (in_second
    (in_first c.signed_name.ensures)) place)))
