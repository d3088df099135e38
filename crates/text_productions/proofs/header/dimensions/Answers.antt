use Rattle.std.proofs.Common.{refl, [], ◌∷◌}
use Rattle.est_lexer.specs.declared.kind.ReservedWord.TheVariants as words
use Rattle.est_lexer.specs.declared.kind.TokenKind.TheVariants.{Reserved}
use Rattle.text_reader.specs.Tests.{kind}
use Rattle.text_reader.proofs.Going.{here_goes, goes_still, opt_in, opt_out}
use Rattle.text_reader.proofs.Steps.{still_here}
use Rattle.text_productions.proofs.Fits.{K}
use Rattle.text_productions.proofs.Made as made
use Rattle.text_productions.proofs.header.dimensions.Goals as goal

pub returns-then-sees : goal.returns-then-sees
returns-then-sees c = goes_still (opt_in K (kind (Reserved words.Array)) refl refl c.if-sees.ensures
    (here_goes K c.dims.ensures)) still_here (λ w. let f = made.some_dims _ c.dims.ensures w in rw
    f.2 refl)

pub returns : goal.returns
returns c = rw c.new.ensures (opt_out K (kind (Reserved words.Array) ∷ []) refl refl
    (c.if-sees.ensures, tt))
