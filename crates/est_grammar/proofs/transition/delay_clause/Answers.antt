use Rattle.std.proofs.Common.{refl}
use Rattle.est_lexer.specs.declared.kind.ReservedWord.TheVariants as words
use Rattle.est_lexer.specs.declared.kind.TokenKind.TheVariants.{Reserved}
use Rattle.text_reader.specs.Tests.{kind}
use Rattle.text_reader.proofs.Going.{take, then, last, rule_goes, here_goes, part_still, chosen}
use Rattle.text_reader.proofs.Seen.{box_holds, no_box}
use Rattle.text_productions.proofs.Fits.{K}
use Rattle.est_grammar.proofs.transition.delay_clause.Goals as goal

pub returns-in-Some : goal.returns-in-Some
returns-in-Some c =
    part_still (rule_goes K (here_goes K (chosen K 6 (kind (Reserved words.Delay)) refl c.requires
    (take K c.word.ensures (take K c.symbol.ensures (then K refl c.expr-least.ensures
    (then K refl c.later_bound-most.ensures (last K c.symbol-2.ensures)))))))) c.boxed.ensures.still
    (λ w. rw (box_holds c.in-Some.is c.boxed.ensures.boxed w) refl)

pub returns-in-None : goal.returns-in-None
returns-in-None c =
    part_still (rule_goes K (here_goes K (chosen K 6 (kind (Reserved words.Delay)) refl c.requires
    (take K c.word.ensures (take K c.symbol.ensures (then K refl c.expr-least.ensures
    (then K refl c.later_bound-most.ensures (last K c.symbol-2.ensures)))))))) c.boxed.ensures.still
    (λ w. absurd (no_box c.in-None.is c.boxed.ensures.boxed w))
