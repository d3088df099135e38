use Rattle.std.proofs.Common.{refl, [], ◌∷◌}
use Rattle.est_lexer.specs.declared.kind.ReservedWord.TheVariants as words
use Rattle.est_lexer.specs.declared.kind.TokenKind.TheVariants.{Reserved}
use Rattle.text_reader.specs.Tests.{kind}
use Rattle.text_reader.proofs.Going.{take, last, rule_goes, here_goes}
use Rattle.text_reader.proofs.Going.{part, part_still, chosen, first_else}
use Rattle.text_reader.proofs.Seen.{box_holds, no_box}
use Rattle.text_productions.proofs.Fits.{K}
use Rattle.est_grammar.proofs.transition.provided_clause.Goals as goal

pub returns-then-sees : goal.returns-then-sees
returns-then-sees c =
    part refl (rule_goes K (here_goes K (chosen K 3 (kind (Reserved words.Provided)) refl c.requires
    (take K c.word.ensures (chosen K 1 (kind (Reserved words.Otherwise)) refl c.if-sees.ensures
    (last K c.word-then-sees.ensures))))))

pub returns-in-Some : goal.returns-in-Some
returns-in-Some c =
    part_still (rule_goes K (here_goes K (chosen K 3 (kind (Reserved words.Provided)) refl
    c.requires (take K c.word.ensures (first_else K (kind (Reserved words.Otherwise) ∷ []) refl refl
    refl refl (c.if-sees.ensures, tt) c.expr-condition.ensures))))) c.boxed.ensures.still
    (λ w. rw (box_holds c.in-Some.is c.boxed.ensures.boxed w) refl)

pub returns-in-None : goal.returns-in-None
returns-in-None c =
    part_still (rule_goes K (here_goes K (chosen K 3 (kind (Reserved words.Provided)) refl
    c.requires (take K c.word.ensures (first_else K (kind (Reserved words.Otherwise) ∷ []) refl refl
    refl refl (c.if-sees.ensures, tt) c.expr-condition.ensures))))) c.boxed.ensures.still
    (λ w. absurd (no_box c.in-None.is c.boxed.ensures.boxed w))
