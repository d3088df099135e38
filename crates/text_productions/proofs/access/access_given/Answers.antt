use Rattle.std.proofs.Common.{refl, [], ◌∷◌}
use Rattle.est_lexer.specs.declared.kind.Symbol.TheVariants as symbols
use Rattle.est_lexer.specs.declared.kind.TokenKind.TheVariants.{Symbol}
use Rattle.text_reader.specs.Tests.{kind}
use Rattle.text_reader.proofs.Going.{take, opt_in, opt_out}
use Rattle.text_productions.proofs.Fits.{K}
use Rattle.text_productions.proofs.access.access_given.Goals as goal

pub returns-then-not-sees : goal.returns-then-not-sees
returns-then-not-sees c = opt_out K (kind (Symbol symbols.Period) ∷ []) refl refl
    (c.if-not-sees.ensures, tt)

pub returns : goal.returns
returns c = opt_in K (kind (Symbol symbols.Period)) refl refl c.if-not-sees.ensures
    (take K c.symbol.ensures c.access.ensures)
