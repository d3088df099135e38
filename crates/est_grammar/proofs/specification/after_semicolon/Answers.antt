use Rattle.std.proofs.Common.{refl, [], ◌∷◌}
use Rattle.est_lexer.specs.declared.kind.Symbol.TheVariants as symbols
use Rattle.est_lexer.specs.declared.kind.TokenKind.TheVariants.{Symbol}
use Rattle.text_reader.specs.Tests.{kind}
use Rattle.text_reader.proofs.Going.{last, skip_goes, opt_in, opt_out}
use Rattle.text_productions.proofs.Fits.{K}
use Rattle.est_grammar.proofs.specification.after_semicolon.Goals as goal

pub returns-then-sees : goal.returns-then-sees
returns-then-sees c = skip_goes K (opt_in K (kind (Symbol symbols.Semicolon)) refl refl
    c.if-sees.ensures (last K c.symbol.ensures))

pub returns-else-sees : goal.returns-else-sees
returns-else-sees c = skip_goes K (opt_out K (kind (Symbol symbols.Semicolon) ∷ []) refl refl
    (c.if-sees.ensures, tt))
