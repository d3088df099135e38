use Rattle.std.proofs.Common.{refl, [], ◌∷◌}
use Rattle.est_lexer.specs.declared.kind.ReservedWord.TheVariants as words
use Rattle.est_lexer.specs.declared.kind.TokenKind.TheVariants.{Reserved}
use Rattle.text_reader.specs.Tests.{kind}
use Rattle.text_reader.proofs.Going.{opt_in, opt_out}
use Rattle.text_productions.proofs.Fits.{K}
use Rattle.text_productions.proofs.header.queue_given.Goals as goal

pub returns-then-sees : goal.returns-then-sees
returns-then-sees c = opt_in K (kind (Reserved words.Individual)) refl refl c.if-sees.ensures
    c.queue.ensures

pub returns-then-sees-2 : goal.returns-then-sees-2
returns-then-sees-2 c = opt_in K (kind (Reserved words.Common)) refl refl c.if-sees-2.ensures
    c.queue-then-sees-2.ensures

pub returns : goal.returns
returns c = opt_out K (kind (Reserved words.Individual) ∷ kind (Reserved words.Common) ∷ []) refl
    refl (c.if-sees.ensures, (c.if-sees-2.ensures, tt))
