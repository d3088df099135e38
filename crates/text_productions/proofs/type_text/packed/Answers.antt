use Rattle.std.proofs.Common.{refl, [], ◌∷◌}
use Rattle.est_lexer.specs.declared.kind.ReservedWord.TheVariants as words
use Rattle.est_lexer.specs.declared.kind.TokenKind.TheVariants.{Reserved}
use Rattle.text_reader.specs.Tests.{kind}
use Rattle.text_reader.proofs.Going.{last, skip_goes, opt_in, opt_out}
use Rattle.text_productions.proofs.Fits.{K}
use Rattle.text_productions.proofs.type_text.packed.Goals as goal

pub returns-then-sees : goal.returns-then-sees
returns-then-sees c = skip_goes K (opt_in K (kind (Reserved words.Packed)) refl refl
    c.if-sees.ensures (last K c.word.ensures))

pub returns-else-sees : goal.returns-else-sees
returns-else-sees c = skip_goes K (opt_out K (kind (Reserved words.Packed) ∷ []) refl refl
    (c.if-sees.ensures, tt))
