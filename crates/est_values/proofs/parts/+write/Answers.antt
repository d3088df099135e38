use Rattle.std.proofs.Common.{rules}
use Rattle.est_values.proofs.WrittenValues.{part_written}
use Rattle.est_values.proofs.parts.+write.Goals as goal

pub with_part_in-returns-in_ok-set-in-Some : goal.with_part_in-returns-in_ok-set-in-Some
with_part_in-returns-in_ok-set-in-Some t c = search (rules, part_written)
