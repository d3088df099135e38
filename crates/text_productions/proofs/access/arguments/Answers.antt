use Rattle.std.proofs.Common.{refl, [], ◌∷◌}
use Rattle.est_lexer.specs.declared.kind.Symbol.TheVariants as symbols
use Rattle.est_lexer.specs.declared.kind.TokenKind.TheVariants.{Symbol}
use Rattle.text_reader.specs.Tests.{kind}
use Rattle.text_reader.proofs.Going.{goes_still, opt_in, opt_out}
use Rattle.text_reader.proofs.Steps.{still_here}
use Rattle.text_productions.proofs.Fits.{K}
use Rattle.text_productions.proofs.Made as made
use Rattle.text_productions.proofs.access.arguments.Goals as goal

pub returns-then-sees : goal.returns-then-sees
returns-then-sees c = goes_still (opt_in K (kind (Symbol symbols.LeftParenthesis)) refl refl
    c.if-sees.ensures c.called.ensures) still_here (λ w. let f = made.some_exprs _ _ _
    c.called.ensures w in rw f.2 refl)

pub returns : goal.returns
returns c = rw c.new.ensures (opt_out K (kind (Symbol symbols.LeftParenthesis) ∷ []) refl refl
    (c.if-sees.ensures, tt))
