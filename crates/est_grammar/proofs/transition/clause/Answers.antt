use Rattle.std.proofs.Common.{refl, [], ◌∷◌}
use Rattle.est_lexer.specs.declared.kind.ReservedWord.TheVariants as words
use Rattle.est_lexer.specs.declared.kind.TokenKind.TheVariants.{Reserved}
use Rattle.text_reader.specs.Tests.{kind}
use Rattle.text_reader.proofs.Going.{take, rule_goes, here_goes, part, first_else}
use Rattle.text_productions.proofs.Fits.{K}
use Rattle.est_grammar.proofs.transition.clause.Goals as goal

pub returns : goal.returns
returns c =
    part refl (rule_goes K (here_goes K
    (first_else K (kind (Reserved words.To) ∷ kind (Reserved words.When) ∷ kind
    (Reserved words.Provided) ∷ kind (Reserved words.Any) ∷ kind (Reserved words.Priority) ∷ kind
    (Reserved words.Delay) ∷ []) refl refl refl refl (
      c.if-sees.ensures,
      (
        c.if-sees-2.ensures,
        (
          c.if-sees-3.ensures,
          (
            c.if-sees-4.ensures,
            (c.if-sees-5.ensures, (c.if-sees-6.ensures, tt)),
          ),
        ),
      ),
    )
    (take K c.word.ensures c.idents-states.ensures))))
