use Rattle.std.proofs.Common.{refl, [], ◌∷◌}
use Rattle.est_lexer.specs.declared.kind.ReservedWord.TheVariants as words
use Rattle.est_lexer.specs.declared.kind.TokenKind.TheVariants.{Reserved}
use Rattle.text_reader.specs.Tests.{kind}
use Rattle.text_reader.proofs.Going.{last, chosen, first_else}
use Rattle.text_reader.proofs.Single.{name_goes}
use Rattle.text_productions.proofs.Fits.{K}
use Rattle.est_grammar.proofs.transition.next_state.Goals as goal

pub returns-then-sees : goal.returns-then-sees
returns-then-sees c = chosen K 1 (kind (Reserved words.Same)) refl c.if-sees.ensures
    (last K c.word.ensures)

pub returns : goal.returns
returns c = first_else K (kind (Reserved words.Same) ∷ []) refl refl refl refl
    (c.if-sees.ensures, tt) (name_goes K c.name.ensures)
