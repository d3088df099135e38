use Rattle.law_print.proofs.OneText.{one_text}
use Rattle.law_print.proofs.laws.one_printed_text.Goals as goal

pub returns : goal.returns
returns c = one_text
