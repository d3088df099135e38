use Rattle.std.proofs.Common.{refl, [], ◌∷◌}
use Rattle.est_lexer.specs.declared.kind.Symbol.TheVariants as symbols
use Rattle.est_lexer.specs.declared.kind.TokenKind.TheVariants.{Symbol}
use Rattle.text_reader.specs.Tests.{kind}
use Rattle.text_reader.proofs.Going.{last, opt_in, opt_out, chosen}
use Rattle.text_productions.proofs.Fits.{K}
use Rattle.text_productions.proofs.expression.sign.Goals as goal

pub returns-then-sees : goal.returns-then-sees
returns-then-sees c = opt_in K (kind (Symbol symbols.Plus)) refl refl c.if-sees.ensures
    (chosen K 0 (kind (Symbol symbols.Plus)) refl c.if-sees.ensures (last K c.symbol.ensures))

pub returns-then-sees-2 : goal.returns-then-sees-2
returns-then-sees-2 c = opt_in K (kind (Symbol symbols.Minus)) refl refl c.if-sees-2.ensures
    (chosen K 1 (kind (Symbol symbols.Minus)) refl c.if-sees-2.ensures
    (last K c.symbol-then-sees-2.ensures))

pub returns : goal.returns
returns c = opt_out K (kind (Symbol symbols.Plus) ∷ kind (Symbol symbols.Minus) ∷ []) refl refl
    (c.if-sees.ensures, (c.if-sees-2.ensures, tt))
