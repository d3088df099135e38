use Rattle.std.proofs.Common.{refl, [], ◌∷◌}
use Rattle.est_lexer.specs.declared.kind.ReservedWord.TheVariants as words
use Rattle.est_lexer.specs.declared.kind.TokenKind.TheVariants.{Reserved}
use Rattle.text_reader.specs.Tests.{kind}
use Rattle.text_reader.proofs.Going.{take, last, rule_goes, chosen, first_else}
use Rattle.text_productions.proofs.Fits.{K}
use Rattle.text_productions.proofs.header.queue.Goals as goal

pub returns-then-sees : goal.returns-then-sees
returns-then-sees c = rule_goes K (chosen K 1 (kind (Reserved words.Common)) refl c.if-sees.ensures
    (take K c.word.ensures (last K c.word-then-sees.ensures)))

pub returns : goal.returns
returns c = rule_goes K (first_else K (kind (Reserved words.Common) ∷ []) refl refl refl refl
    (c.if-sees.ensures, tt) (take K c.word-2.ensures (last K c.word-3.ensures)))
