use Rattle.std.proofs.Common.{refl, [], ◌∷◌}
use Rattle.est_lexer.specs.declared.kind.ReservedWord.TheVariants as words
use Rattle.est_lexer.specs.declared.kind.TokenKind.TheVariants.{Reserved}
use Rattle.text_reader.specs.Tests.{kind}
use Rattle.text_reader.proofs.Going.{last, chosen, first_else}
use Rattle.text_productions.proofs.Fits.{K}
use Rattle.est_grammar.proofs.statement.direction.Goals as goal

pub returns-then-sees : goal.returns-then-sees
returns-then-sees c = chosen K 1 (kind (Reserved words.Downto)) refl c.if-sees.ensures
    (last K c.word.ensures)

pub returns : goal.returns
returns c = first_else K (kind (Reserved words.Downto) ∷ []) refl refl refl refl
    (c.if-sees.ensures, tt) (last K c.word-2.ensures)
