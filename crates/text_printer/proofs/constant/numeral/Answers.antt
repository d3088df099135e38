use Rattle.text_printer.proofs.Printing.{here_prints, in_first, in_second}
use Rattle.text_printer.proofs.Single.{number_prints}
use Rattle.text_printer.proofs.constant.numeral.Goals as goal

pub returns-in-None : goal.returns-in-None
returns-in-None c = λ place. rw c.in-None.is (here_prints (in_first (number_prints c.args.number
    c.number.ensures)) place)

pub returns-in-Some : goal.returns-in-Some
returns-in-Some c = λ place. rw c.in-Some.is (here_prints (in_second (in_first
    c.signed_number.ensures)) place)
