use Rattle.std.proofs.Common.{refl, [], ◌∷◌}
use Rattle.est_lexer.specs.declared.kind.ReservedWord.TheVariants as words
use Rattle.est_lexer.specs.declared.kind.TokenKind.TheVariants.{Reserved}
use Rattle.text_reader.specs.Tests.{kind}
use Rattle.text_reader.proofs.Going.{take, then, last, opt_in, opt_out}
use Rattle.text_reader.proofs.Single.{name_goes}
use Rattle.text_productions.proofs.Fits.{K}
use Rattle.est_grammar.proofs.transition.transition_name.Goals as goal

pub returns-then-not-sees : goal.returns-then-not-sees
returns-then-not-sees c = opt_out K (kind (Reserved words.Name) ∷ []) refl refl
    (c.if-not-sees.ensures, tt)

pub returns : goal.returns
returns c = opt_in K (kind (Reserved words.Name)) refl refl c.if-not-sees.ensures
    (take K c.word.ensures (then K refl (name_goes K c.name-name.ensures)
    (last K c.symbol.ensures)))
