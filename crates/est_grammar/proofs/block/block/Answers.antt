use Rattle.std.proofs.Common.{refl}
use Rattle.text_reader.proofs.Going.{take, then, last, rule_goes, here_goes, part}
use Rattle.text_productions.proofs.Fits.{K}
use Rattle.est_grammar.proofs.Made as made
use Rattle.est_grammar.proofs.block.block.Goals as goal

pub returns : goal.returns
returns c = part (made.block_made _ _ _)
    (rule_goes K (then K refl c.block_parts-parts.ensures
    (here_goes K (take K c.word.ensures (then K refl c.statements-statements.ensures
    (last K c.word-2.ensures))))))
