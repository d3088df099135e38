use Rattle.text_printer.proofs.Printing.{in_first, in_second, rule_prints}
use Rattle.text_printer.proofs.header.queue.Goals as goal

pub returns-in-Individual : goal.returns-in-Individual
returns-in-Individual c = rw c.in-Individual.is (rule_prints (in_first
    c.individual_queue.ensures))

pub returns-in-Common : goal.returns-in-Common
returns-in-Common c = rw c.in-Common.is (rule_prints (in_second c.common_queue.ensures))
