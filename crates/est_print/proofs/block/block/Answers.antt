use Rattle.std.proofs.Common.{refl}
use Rattle.text_printer.proofs.Printing.{take, last, then, here_prints, rule_prints, part}
use Rattle.est_print.proofs.block.block.Goals as goal

pub returns : goal.returns
returns c = part refl refl (rule_prints (then c.block_parts.ensures (here_prints (take refl
    c.word.ensures (then c.statements.ensures (last refl c.word-2.ensures))) _)))
