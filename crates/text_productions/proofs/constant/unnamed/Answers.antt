use Rattle.std.proofs.Common.{refl, [], ◌∷◌}
use Rattle.est_lexer.specs.declared.kind.Symbol.TheVariants as symbols
use Rattle.est_lexer.specs.declared.kind.TokenKind.TheVariants.{Character, Symbol}
use Rattle.text_reader.specs.Tests.{kind}
use Rattle.text_reader.proofs.Going.{here_goes, chosen, first_else}
use Rattle.text_reader.proofs.Single.{value_goes, character_goes}
use Rattle.text_productions.proofs.Fits.{K}
use Rattle.text_productions.proofs.constant.unnamed.Goals as goal

pub returns-then-sees : goal.returns-then-sees
returns-then-sees c = here_goes K (chosen K 2 (kind Character) refl c.if-sees.ensures
    (character_goes K c.character-code.ensures))

pub returns : goal.returns
returns c = here_goes K (first_else K (kind Character ∷ kind (Symbol symbols.Plus) ∷ kind
    (Symbol symbols.Minus) ∷ []) refl refl refl refl
    (c.if-sees.ensures, (c.if-sees-2.ensures, (c.if-sees-3.ensures, tt)))
    (value_goes K c.value-number.ensures))
