use Rattle.std.proofs.Common.{refl, [], ◌∷◌}
use Rattle.est_lexer.specs.declared.kind.ReservedWord.TheVariants as words
use Rattle.est_lexer.specs.declared.kind.TokenKind.TheVariants.{Reserved}
use Rattle.text_reader.specs.Tests.{kind}
use Rattle.text_reader.proofs.Going.{last, chosen, first_else}
use Rattle.text_productions.proofs.Fits.{K}
use Rattle.text_productions.proofs.operator.multiplying_operator.Goals as goal

pub returns-then-sees : goal.returns-then-sees
returns-then-sees c = chosen K 1 (kind (Reserved words.Div)) refl c.if-sees.ensures
    (last K c.word.ensures)

pub returns-then-sees-2 : goal.returns-then-sees-2
returns-then-sees-2 c = chosen K 2 (kind (Reserved words.Mod)) refl c.if-sees-2.ensures
    (last K c.word-then-sees-2.ensures)

pub returns-then-sees-3 : goal.returns-then-sees-3
returns-then-sees-3 c = chosen K 3 (kind (Reserved words.And)) refl c.if-sees-3.ensures
    (last K c.word-then-sees-3.ensures)

pub returns : goal.returns
returns c = first_else K (kind (Reserved words.Div) ∷ kind (Reserved words.Mod) ∷ kind
    (Reserved words.And) ∷ []) refl refl refl refl
    (c.if-sees.ensures, (c.if-sees-2.ensures, (c.if-sees-3.ensures, tt))) (last K c.symbol.ensures)
