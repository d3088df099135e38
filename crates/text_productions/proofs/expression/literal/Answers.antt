use Rattle.std.proofs.Common.{refl, ◌∷◌}
use Rattle.est_lexer.specs.declared.kind.TokenKind.TheVariants.{Character}
use Rattle.text_reader.specs.Tests.{kind}
use Rattle.text_reader.proofs.Going.{rule_goes, here_goes, part, chosen, first_else}
use Rattle.text_reader.proofs.Single.{value_goes, character_goes}
use Rattle.text_productions.specs.Tokens as tokens
use Rattle.text_productions.proofs.Fits.{K}
use Rattle.text_productions.proofs.Made as made
use Rattle.text_productions.proofs.expression.literal.Goals as goal

pub returns-then-sees : goal.returns-then-sees
returns-then-sees c = part (made.character_made _ _)
    (rule_goes K (here_goes K (chosen K 1 (kind Character) refl c.if-sees.ensures
    (character_goes K c.character-code.ensures))))

pub returns : goal.returns
returns c = part (made.number_made _ _)
    (rule_goes K (here_goes K (first_else K (kind Character ∷ tokens.bracket_tokens) refl refl refl
    refl (c.if-sees.ensures, c.requires) (value_goes K c.value-number.ensures))))
