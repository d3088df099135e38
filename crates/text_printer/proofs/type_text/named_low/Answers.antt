use Rattle.text_printer.proofs.type_text.named_low.Goals as goal

pub returns-in-None : goal.returns-in-None
returns-in-None c = λ place. rw c.in-None.is (c.named_range.ensures place)

pub returns-in-Some : goal.returns-in-Some
returns-in-Some c = λ place. rw c.in-Some.is (c.signed_range.ensures place)
