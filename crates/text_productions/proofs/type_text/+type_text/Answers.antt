use Rattle.std.proofs.Common.{refl, [], ◌∷◌}
use Rattle.std.proofs.lemmas.List.{map-append}
use Rattle.est_lexer.specs.declared.kind.ReservedWord.TheVariants as words
use Rattle.est_lexer.specs.declared.kind.Symbol.TheVariants as symbols
use Rattle.est_lexer.specs.declared.kind.TokenKind.TheVariants.{Identifier, Reserved}
use Rattle.est_lexer.specs.declared.kind.TokenKind.TheVariants.{Symbol}
use Rattle.text_reader.specs.Shown.{empty}
use Rattle.text_reader.specs.Tests.{kind}
use Rattle.text_reader.proofs.Going.{take, then, last, rule_goes, here_goes, part}
use Rattle.text_reader.proofs.Going.{part_still, goes_still, chosen, first_else, deep}
use Rattle.text_reader.proofs.Turns.{one_part, more_parts, all_parts, lessens}
use Rattle.text_reader.proofs.Turns.{more_ended, last_ended, all_ended}
use Rattle.text_reader.proofs.Steps.{still_here}
use Rattle.text_reader.proofs.Seen.{goes_as, chosen_by, lost, not_taken, box_holds, no_box}
use Rattle.text_productions.specs.Tokens as tokens
use Rattle.text_productions.proofs.Fits.{K}
use Rattle.text_productions.proofs.Made as made
use Rattle.text_productions.proofs.type_text.+type_text.Goals as goal

pub typetext-returns : goal.typetext-returns
typetext-returns t c =
    part refl (rule_goes K (goes_as (made.short_type_text _)
    (first_else K (kind (Symbol symbols.LeftParenthesis) ∷ tokens.structure_words) refl refl refl
    refl (c.if-sees.ensures, c.if-begins_structure.ensures) c.shorttype.ensures)))

pub structured-returns : goal.structured-returns
structured-returns t c =
    part_still (rule_goes K (chosen_by K 2 tokens.structure_words refl c.requires
    (here_goes K (then K refl c.packed.ensures c.structure.ensures.goes)))) still_here
    (λ w. c.structure.ensures.same w)

pub structure-returns : goal.structure-returns
structure-returns t c = record {
  view = empty;
  goes = lost K (kind (Reserved words.Array) ∷ kind (Reserved words.Record) ∷ kind
      (Reserved words.Set) ∷ []) refl refl
      (c.if-sees.ensures, (c.if-sees-2.ensures, (c.if-sees-3.ensures, tt))) c.if-sees.ensures
      c.word.ensures;
  same = λ w. absurd (not_taken c.if-sees.ensures c.word.ensures w);
}

pub arraytype-returns-in-Some : goal.arraytype-returns-in-Some
arraytype-returns-in-Some t c = record {
  view = _;
  goes = goes_still (chosen K 0 (kind (Reserved words.Array)) refl c.requires
      (rule_goes K (deep K c.requires c.open-levels.ensures
      (take K c.symbol.ensures (then K refl c.typetexts-index.ensures
      (take K c.symbol-2.ensures (take K c.word.ensures c.typetext-of.ensures)))) c.close.ensures)))
      c.boxed.ensures.still (λ w. refl);
  same = λ w. rw (box_holds c.in-Some.is c.boxed.ensures.boxed w) (made.array_made _ _ _);
}

pub arraytype-returns-in-None : goal.arraytype-returns-in-None
arraytype-returns-in-None t c = record {
  view = _;
  goes = goes_still (chosen K 0 (kind (Reserved words.Array)) refl c.requires
      (rule_goes K (deep K c.requires c.open-levels.ensures
      (take K c.symbol.ensures (then K refl c.typetexts-index.ensures
      (take K c.symbol-2.ensures (take K c.word.ensures c.typetext-of.ensures)))) c.close.ensures)))
      c.boxed.ensures.still (λ w. refl);
  same = λ w. absurd (no_box c.in-None.is c.boxed.ensures.boxed w);
}

pub typetexts-loop-reader-init : goal.typetexts-loop-reader-init
typetexts-loop-reader-init t c = one_part K refl c.typetext-first.ensures c.keep.ensures.still
    (λ w. rw (c.keep.ensures.added w, c.new-items.ensures) refl)

pub typetexts-loop-reader-preserved : goal.typetexts-loop-reader-preserved
typetexts-loop-reader-preserved t c = more_parts K _ (kind (Symbol symbols.Comma)) refl refl refl
    c.loop-reader-test.ensures c.loop-reader.invariant
    (take K c.symbol.ensures c.typetext-next.ensures) c.keep-in-loop-reader.ensures.still
    (λ w. rw (c.keep-in-loop-reader.ensures.added w, map-append) refl)

pub typetexts-loop-reader-smaller : goal.typetexts-loop-reader-smaller
typetexts-loop-reader-smaller t c = lessens K refl c.loop-reader-test.ensures
    (take K c.symbol.ensures c.typetext-next.ensures) c.keep-in-loop-reader.ensures.still

pub typetexts-returns : goal.typetexts-returns
typetexts-returns t c = (all_parts K (kind (Symbol symbols.Comma) ∷ []) refl refl
    (c.loop-reader-test.ensures, tt) c.loop-reader.invariant)

pub recordtype-returns : goal.recordtype-returns
recordtype-returns t c = record {
  view = _;
  goes = chosen K 1 (kind (Reserved words.Record)) refl c.requires
      (rule_goes K (deep K c.requires c.open-levels.ensures (then K refl c.fields-fields.ensures
      (last K c.word.ensures)) c.close.ensures));
  same = λ w. made.fields_made _ _;
}

pub fields-loop-reader-init : goal.fields-loop-reader-init
fields-loop-reader-init t c = one_part K refl c.field-first.ensures c.keep.ensures.still
    (λ w. rw (c.keep.ensures.added w, c.new-items.ensures) refl)

pub fields-loop-reader-preserved : goal.fields-loop-reader-preserved
fields-loop-reader-preserved t c = more_ended K _ (kind (Symbol symbols.Semicolon))
    (kind Identifier) refl refl refl c.loop-reader-test.ensures c.loop-reader.invariant
    c.symbol.ensures c.if-not-sees.ensures c.field-next.ensures c.keep-in-loop-reader.ensures.still
    (λ w. rw (c.keep-in-loop-reader.ensures.added w, map-append) refl)

pub fields-loop-reader-smaller : goal.fields-loop-reader-smaller
fields-loop-reader-smaller t c = lessens K refl c.loop-reader-test.ensures
    (take K c.symbol.ensures c.field-next.ensures) c.keep-in-loop-reader.ensures.still

pub fields-returns-then-not-sees : goal.fields-returns-then-not-sees
fields-returns-then-not-sees t c = last_ended K (kind Identifier ∷ []) refl refl
    c.loop-reader-test.ensures c.symbol.ensures (c.if-not-sees.ensures, tt) c.loop-reader.invariant

pub fields-returns : goal.fields-returns
fields-returns t c = all_ended K c.loop-reader-test.ensures c.loop-reader.invariant

pub field-returns : goal.field-returns
field-returns t c = part (made.field_made _ _) (then K refl c.idents-names.ensures
    (take K c.symbol.ensures c.typetext-text.ensures))

pub settype-returns-in-Some : goal.settype-returns-in-Some
settype-returns-in-Some t c = record {
  view = _;
  goes = goes_still (chosen K 2 (kind (Reserved words.Set)) refl c.requires
      (rule_goes K (deep K c.requires c.open-levels.ensures
      (take K c.word.ensures c.typetext-of.ensures) c.close.ensures))) c.boxed.ensures.still
      (λ w. refl);
  same = λ w. rw (box_holds c.in-Some.is c.boxed.ensures.boxed w) (made.set_made _ _);
}

pub settype-returns-in-None : goal.settype-returns-in-None
settype-returns-in-None t c = record {
  view = _;
  goes = goes_still (chosen K 2 (kind (Reserved words.Set)) refl c.requires
      (rule_goes K (deep K c.requires c.open-levels.ensures
      (take K c.word.ensures c.typetext-of.ensures) c.close.ensures))) c.boxed.ensures.still
      (λ w. refl);
  same = λ w. absurd (no_box c.in-None.is c.boxed.ensures.boxed w);
}
