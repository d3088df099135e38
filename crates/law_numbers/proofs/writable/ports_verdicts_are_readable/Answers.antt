use Rattle.law_numbers.proofs.ReadablePorts.{ports_verdicts_readable}
use Rattle.law_numbers.proofs.writable.ports_verdicts_are_readable.Goals as goal

pub returns : goal.returns
returns c = ports_verdicts_readable
