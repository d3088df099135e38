use Rattle.std.proofs.Common.{refl, [], ◌∷◌}
use Rattle.est_lexer.specs.declared.kind.Symbol.TheVariants as symbols
use Rattle.est_lexer.specs.declared.kind.TokenKind.TheVariants.{Symbol}
use Rattle.text_reader.specs.Tests.{kind}
use Rattle.text_reader.proofs.Going.{last, chosen, first_else}
use Rattle.text_productions.proofs.Fits.{K}
use Rattle.text_productions.proofs.constant.plus_or_minus.Goals as goal

pub returns-then-sees : goal.returns-then-sees
returns-then-sees c = chosen K 1 (kind (Symbol symbols.Minus)) refl c.if-sees.ensures
    (last K c.symbol.ensures)

pub returns : goal.returns
returns c = first_else K (kind (Symbol symbols.Minus) ∷ []) refl refl refl refl
    (c.if-sees.ensures, tt) (last K c.symbol-2.ensures)
