use Rattle.std.proofs.Common.{sym}
use Rattle.law_print.proofs.OneText.{one_text}
use Rattle.law_print.proofs.Reading.{are_read}
use Rattle.law_print.proofs.laws.printed_texts_are_stable.Goals as goal

pub returns : goal.returns
returns c = λ spec back text again tokens p l h q.
    sym (one_text spec back text again (are_read spec back text tokens p l h) p q)
