use Rattle.std.proofs.Common.{refl, inl}
use Rattle.text_reader.proofs.Going.{take, then, last, rule_goes, part, first_else}
use Rattle.text_reader.proofs.Single.{name_goes}
use Rattle.text_productions.specs.Tokens as tokens
use Rattle.text_productions.proofs.Fits.{K}
use Rattle.est_grammar.proofs.Made as made
use Rattle.est_grammar.proofs.routine.routine.Goals as goal

pub function-requires : goal.function-requires
function-requires c = inl c.if-sees.ensures

pub returns : goal.returns
returns c = part (made.procedure_made _ _ _)
    (rule_goes K (first_else K tokens.function_tokens refl refl refl refl
    (c.if-sees.ensures, (c.if-sees-2.ensures, tt))
    (take K c.word.ensures (then K refl (name_goes K c.name-name.ensures)
    (then K refl c.formal_part-formals.ensures
    (take K c.symbol.ensures (then K refl c.block-block.ensures (last K c.symbol-2.ensures))))))))
