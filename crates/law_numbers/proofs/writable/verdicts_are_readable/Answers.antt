use Rattle.law_numbers.proofs.ReadableVerdicts.{verdicts_readable}
use Rattle.law_numbers.proofs.writable.verdicts_are_readable.Goals as goal

pub returns : goal.returns
returns c = verdicts_readable
