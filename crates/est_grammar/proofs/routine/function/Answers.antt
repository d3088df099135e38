use Rattle.std.proofs.Common.{refl}
use Rattle.text_reader.proofs.Going.{take, then, last, rule_goes, part}
use Rattle.text_reader.proofs.Single.{name_goes}
use Rattle.text_reader.proofs.Seen.{chosen_by}
use Rattle.text_productions.specs.Tokens as tokens
use Rattle.text_productions.proofs.Fits.{K}
use Rattle.est_grammar.proofs.Made as made
use Rattle.est_grammar.proofs.routine.function.Goals as goal

pub returns : goal.returns
returns c = part (made.function_made _ _ _ _)
    (rule_goes K (chosen_by K 1 tokens.function_tokens refl c.requires
    (then K refl c.pure_word.ensures
    (take K c.word.ensures (then K refl (name_goes K c.name-name.ensures)
    (then K refl c.formal_part-formals.ensures
    (take K c.symbol.ensures (then K refl (name_goes K c.name-result_type.ensures)
    (take K c.symbol-2.ensures (then K refl c.block-block.ensures
    (last K c.symbol-3.ensures)))))))))))
