use Rattle.text_printer.proofs.Printing.{here_prints, in_first, in_second, never_nowhere}
use Rattle.text_printer.proofs.constant.unnamed_name.Goals as goal

pub returns-in-None : goal.returns-in-None
returns-in-None c = λ place. rw c.in-None.is never_nowhere

pub returns-in-Some : goal.returns-in-Some
returns-in-Some c = λ place. rw c.in-Some.is (here_prints (in_second (in_first
    c.signed_name.ensures)) place)
