use Rattle.std.proofs.Common.{refl, sym, ◌∷◌}
use Rattle.std.proofs.lemmas.List.{map-append}
use Rattle.est_lexer.specs.declared.kind.ReservedWord.TheVariants as words
use Rattle.est_lexer.specs.declared.kind.TokenKind.TheVariants.{Reserved}
use Rattle.text_reader.specs.Tests.{kind}
use Rattle.text_reader.proofs.Going.{take, then, last, rule_goes, part, chosen, first_else, deep}
use Rattle.text_reader.proofs.Turns.{no_part, all_parts}
use Rattle.text_reader.proofs.Single.{name_goes}
use Rattle.text_reader.proofs.Seen.{goes_as, goes_is, chosen_by, more_parts_by, lessens_by}
use Rattle.text_productions.specs.Nodes as node
use Rattle.text_productions.specs.Tokens as tokens
use Rattle.text_productions.proofs.Fits.{K}
use Rattle.est_grammar.proofs.Made as made
use Rattle.est_grammar.proofs.body.+body.Goals as goal

pub common-returns-then-sees : goal.common-returns-then-sees
common-returns-then-sees t c = goes_is (sym (made.types_made node.common_part _))
    (rule_goes K (chosen K 1 (kind (Reserved words.Type)) refl c.if-sees.ensures c.types.ensures))

pub common-returns-then-sees-2 : goal.common-returns-then-sees-2
common-returns-then-sees-2 t c = goes_is (sym (made.channel_made node.common_part _))
    (rule_goes K (chosen K 2 (kind (Reserved words.Channel)) refl c.if-sees-2.ensures
    c.channel.ensures))

pub common-returns-then-sees-3 : goal.common-returns-then-sees-3
common-returns-then-sees-3 t c = goes_is (sym (made.header_made node.common_part _))
    (rule_goes K (chosen K 3 (kind (Reserved words.Module)) refl c.if-sees-3.ensures
    c.header.ensures))

pub common-returns-then-sees-4 : goal.common-returns-then-sees-4
common-returns-then-sees-4 t c = goes_is (sym (made.body_part_made node.common_part _))
    (rule_goes K (chosen K 4 (kind (Reserved words.Body)) refl c.if-sees-4.ensures c.body.ensures))

pub common-returns-then-sees-5 : goal.common-returns-then-sees-5
common-returns-then-sees-5 t c = goes_is (sym (made.modvars_made node.common_part _))
    (rule_goes K (chosen K 6 (kind (Reserved words.Modvar)) refl c.if-sees-5.ensures
    c.modvars.ensures))

pub common-returns-then-begins_routine : goal.common-returns-then-begins_routine
common-returns-then-begins_routine t c = goes_is (sym (made.routine_part_made node.common_part _))
    (rule_goes K (chosen_by K 5 tokens.routine_tokens refl c.if-begins_routine.ensures
    c.routine.ensures))

pub common-returns : goal.common-returns
common-returns t c = goes_is (sym (made.consts_made node.common_part _))
    (rule_goes K (first_else K (kind (Reserved words.Type) ∷ kind (Reserved words.Channel) ∷ kind
    (Reserved words.Module) ∷ kind (Reserved words.Body) ∷ kind (Reserved words.Modvar)
    ∷ tokens.routine_tokens) refl refl refl refl (
      c.if-sees.ensures,
      (
        c.if-sees-2.ensures,
        (
          c.if-sees-3.ensures,
          (
            c.if-sees-4.ensures,
            (c.if-sees-5.ensures, c.if-begins_routine.ensures),
          ),
        ),
      ),
    ) c.consts.ensures))

pub body-returns : goal.body-returns
body-returns t c = part (made.body_made _ _ _ _ _)
    (rule_goes K (deep K c.requires c.open-levels.ensures
    (then K refl (name_goes K c.name-name.ensures)
    (take K c.word.ensures (then K refl (name_goes K c.name-header.ensures)
    (take K c.symbol.ensures (then K refl c.body_parts-parts.ensures
    (then K refl c.first_part-first.ensures (then K refl c.transparts-groups.ensures
    (take K c.word-2.ensures (last K c.symbol-2.ensures))))))))) c.close.ensures))

pub body_parts-loop-reader-init : goal.body_parts-loop-reader-init
body_parts-loop-reader-init t c = rw c.new-items.ensures (no_part K)

pub body_parts-loop-reader-preserved : goal.body_parts-loop-reader-preserved
body_parts-loop-reader-preserved t c = more_parts_by K _ tokens.body_part_tokens refl refl refl
    c.loop-reader-test.ensures c.loop-reader.invariant c.body_part-next.ensures c.keep.ensures.still
    (λ w. rw (c.keep.ensures.added w, map-append) refl)

pub body_parts-loop-reader-smaller : goal.body_parts-loop-reader-smaller
body_parts-loop-reader-smaller t c = lessens_by K tokens.body_part_tokens refl
    c.loop-reader-test.ensures c.body_part-next.ensures c.keep.ensures.still

pub body_parts-returns : goal.body_parts-returns
body_parts-returns t c = all_parts K tokens.body_part_tokens refl refl c.loop-reader-test.ensures
    c.loop-reader.invariant

pub body_part-returns-then-begins_own : goal.body_part-returns-then-begins_own
body_part-returns-then-begins_own t c =
    part refl (goes_as (made.own_body_part _) (chosen_by K 1 tokens.own_tokens refl
    c.if-begins_own.ensures c.own.ensures))

pub body_part-returns : goal.body_part-returns
body_part-returns t c = part refl (goes_as (made.common_body_part _) (first_else K tokens.own_tokens
    refl refl refl refl c.if-begins_own.ensures c.common.ensures))
