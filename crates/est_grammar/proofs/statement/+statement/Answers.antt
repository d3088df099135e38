use Rattle.std.proofs.Common.{refl, [], ◌∷◌}
use Rattle.std.proofs.lemmas.List.{map-append}
use Rattle.est_lexer.specs.declared.kind.ReservedWord.TheVariants as words
use Rattle.est_lexer.specs.declared.kind.Symbol.TheVariants as symbols
use Rattle.est_lexer.specs.declared.kind.TokenKind.TheVariants.{Reserved, Symbol}
use Rattle.text_reader.specs.Tests.{kind}
use Rattle.text_reader.proofs.Going.{take, then, last, rule_goes, here_goes, part, part_still}
use Rattle.text_reader.proofs.Going.{goes_still, opt_in, chosen, deep, nearest_in, nearest_out}
use Rattle.text_reader.proofs.Turns.{one_part, more_parts, all_parts, lessens, last_ended}
use Rattle.text_reader.proofs.Turns.{all_ended}
use Rattle.text_reader.proofs.Steps.{still_on, still_well}
use Rattle.text_reader.proofs.Single.{name_goes}
use Rattle.text_reader.proofs.Seen.{box_holds, no_box}
use Rattle.text_productions.specs.Tokens as tokens
use Rattle.text_productions.proofs.Fits.{K}
use Rattle.est_grammar.proofs.Made as made
use Rattle.text_productions.proofs.Made as expressions
use Rattle.text_reader.proofs.Seen.{more_ended_by}
use Rattle.est_grammar.proofs.statement.+statement.Goals as goal

pub statements-loop-reader-init : goal.statements-loop-reader-init
statements-loop-reader-init t c = one_part K refl c.statement-first.ensures c.keep.ensures.still
    (λ w. rw (c.keep.ensures.added w, c.new-items.ensures) refl)

pub statements-loop-reader-preserved : goal.statements-loop-reader-preserved
statements-loop-reader-preserved t c = more_parts K _ (kind (Symbol symbols.Semicolon)) refl refl
    refl c.loop-reader-test.ensures c.loop-reader.invariant
    (take K c.symbol.ensures c.statement-next.ensures) c.keep-in-loop-reader.ensures.still
    (λ w. rw (c.keep-in-loop-reader.ensures.added w, map-append) refl)

pub statements-loop-reader-smaller : goal.statements-loop-reader-smaller
statements-loop-reader-smaller t c = lessens K refl c.loop-reader-test.ensures
    (take K c.symbol.ensures c.statement-next.ensures) c.keep-in-loop-reader.ensures.still

pub statements-returns : goal.statements-returns
statements-returns t c = (all_parts K (kind (Symbol symbols.Semicolon) ∷ []) refl refl
    (c.loop-reader-test.ensures, tt) c.loop-reader.invariant)

pub compound-returns : goal.compound-returns
compound-returns t c = part (made.compound_made _ _)
    (rule_goes K (here_goes K (opt_in K (kind (Reserved words.Begin)) refl refl c.requires
    (chosen K 0 (kind (Reserved words.Begin)) refl c.requires
    (deep K c.requires c.open-levels.ensures (then K refl c.statements-turn.ensures
    (last K c.word.ensures)) c.close.ensures)))))

pub if_statement-returns-in-Some : goal.if_statement-returns-in-Some
if_statement-returns-in-Some t c =
    part_still (rule_goes K (here_goes K (opt_in K (kind (Reserved words.If)) refl refl c.requires
    (chosen K 2 (kind (Reserved words.If)) refl c.requires (deep K c.requires c.open-levels.ensures
    (then K refl c.expr-condition.ensures
    (take K c.word.ensures (then K refl c.statement-first.ensures c.else_part-second.ensures)))
    c.close.ensures))))) (still_on c.boxed-condition.ensures.still c.boxed-first.ensures.still)
    (λ w. let h = made.zip_holds c.in-Some.is c.zip.ensures (λ w. c.boxed-condition.ensures.boxed
    (still_well c.boxed-first.ensures.still w)) c.boxed-first.ensures.boxed w in rw (h.0, h.1)
    (made.if_made _ _ _ _))

pub if_statement-returns-in-None : goal.if_statement-returns-in-None
if_statement-returns-in-None t c =
    part_still (rule_goes K (here_goes K (opt_in K (kind (Reserved words.If)) refl refl c.requires
    (chosen K 2 (kind (Reserved words.If)) refl c.requires (deep K c.requires c.open-levels.ensures
    (then K refl c.expr-condition.ensures
    (take K c.word.ensures (then K refl c.statement-first.ensures c.else_part-second.ensures)))
    c.close.ensures))))) (still_on c.boxed-condition.ensures.still c.boxed-first.ensures.still)
    (λ w. absurd (made.no_zip c.in-None.is c.zip.ensures (λ w. c.boxed-condition.ensures.boxed
    (still_well c.boxed-first.ensures.still w)) c.boxed-first.ensures.boxed w))

pub else_part-returns-then-not-sees : goal.else_part-returns-then-not-sees
else_part-returns-then-not-sees t c = nearest_out K c.if-not-sees.ensures

pub else_part-returns : goal.else_part-returns
else_part-returns t c = goes_still (nearest_in K c.if-not-sees.ensures c.word.ensures
    c.statement-statement.ensures) c.boxed.ensures.still (λ w. rw (c.boxed.ensures.boxed w) refl)

pub case_statement-returns-in-Some : goal.case_statement-returns-in-Some
case_statement-returns-in-Some t c =
    part_still (rule_goes K (here_goes K (opt_in K (kind (Reserved words.Case)) refl refl c.requires
    (chosen K 3 (kind (Reserved words.Case)) refl c.requires
    (deep K c.requires c.open-levels.ensures (then K refl c.expr-value.ensures
    (take K c.word.ensures (then K refl c.arms-arms.ensures (last K c.word-2.ensures))))
    c.close.ensures))))) c.boxed.ensures.still
    (λ w. rw (box_holds c.in-Some.is c.boxed.ensures.boxed w) (made.case_made _ _ _))

pub case_statement-returns-in-None : goal.case_statement-returns-in-None
case_statement-returns-in-None t c =
    part_still (rule_goes K (here_goes K (opt_in K (kind (Reserved words.Case)) refl refl c.requires
    (chosen K 3 (kind (Reserved words.Case)) refl c.requires
    (deep K c.requires c.open-levels.ensures (then K refl c.expr-value.ensures
    (take K c.word.ensures (then K refl c.arms-arms.ensures (last K c.word-2.ensures))))
    c.close.ensures))))) c.boxed.ensures.still
    (λ w. absurd (no_box c.in-None.is c.boxed.ensures.boxed w))

pub arms-loop-reader-init : goal.arms-loop-reader-init
arms-loop-reader-init t c = one_part K refl c.arm-first.ensures c.keep.ensures.still
    (λ w. rw (c.keep.ensures.added w, c.new-items.ensures) refl)

pub arms-loop-reader-preserved : goal.arms-loop-reader-preserved
arms-loop-reader-preserved t c = more_ended_by K _ (kind (Symbol symbols.Semicolon))
    tokens.constant_tokens refl refl refl c.loop-reader-test.ensures c.loop-reader.invariant
    c.symbol.ensures c.if-not-begins_constant.ensures c.arm-next.ensures
    c.keep-in-loop-reader.ensures.still (λ w. rw (c.keep-in-loop-reader.ensures.added w, map-append)
    refl)

pub arms-loop-reader-smaller : goal.arms-loop-reader-smaller
arms-loop-reader-smaller t c = lessens K refl c.loop-reader-test.ensures
    (take K c.symbol.ensures c.arm-next.ensures) c.keep-in-loop-reader.ensures.still

pub arms-returns-then-not-begins_constant : goal.arms-returns-then-not-begins_constant
arms-returns-then-not-begins_constant t c = last_ended K tokens.constant_tokens refl refl
    c.loop-reader-test.ensures c.symbol.ensures c.if-not-begins_constant.ensures
    c.loop-reader.invariant

pub arms-returns : goal.arms-returns
arms-returns t c = all_ended K c.loop-reader-test.ensures c.loop-reader.invariant

pub arm-returns : goal.arm-returns
arm-returns t c = part (made.arm_made _ _)
    (rule_goes K (then K refl c.constants-constants.ensures
    (take K c.symbol.ensures c.statement-turn.ensures)))

pub while_statement-returns-in-Some : goal.while_statement-returns-in-Some
while_statement-returns-in-Some t c =
    part_still (rule_goes K (here_goes K (opt_in K (kind (Reserved words.While)) refl refl
    c.requires (chosen K 4 (kind (Reserved words.While)) refl c.requires
    (deep K c.requires c.open-levels.ensures (then K refl c.expr-condition.ensures
    (take K c.word.ensures c.statement-turn.ensures)) c.close.ensures)))))
    (still_on c.boxed-condition.ensures.still c.boxed-turn.ensures.still)
    (λ w. let h = made.zip_holds c.in-Some.is c.zip.ensures (λ w. c.boxed-condition.ensures.boxed
    (still_well c.boxed-turn.ensures.still w)) c.boxed-turn.ensures.boxed w in rw (h.0, h.1)
    (made.while_made _ _ _))

pub while_statement-returns-in-None : goal.while_statement-returns-in-None
while_statement-returns-in-None t c =
    part_still (rule_goes K (here_goes K (opt_in K (kind (Reserved words.While)) refl refl
    c.requires (chosen K 4 (kind (Reserved words.While)) refl c.requires
    (deep K c.requires c.open-levels.ensures (then K refl c.expr-condition.ensures
    (take K c.word.ensures c.statement-turn.ensures)) c.close.ensures)))))
    (still_on c.boxed-condition.ensures.still c.boxed-turn.ensures.still)
    (λ w. absurd (made.no_zip c.in-None.is c.zip.ensures (λ w. c.boxed-condition.ensures.boxed
    (still_well c.boxed-turn.ensures.still w)) c.boxed-turn.ensures.boxed w))

pub repeat_statement-returns-in-Some : goal.repeat_statement-returns-in-Some
repeat_statement-returns-in-Some t c =
    part_still (rule_goes K (here_goes K (opt_in K (kind (Reserved words.Repeat)) refl refl
    c.requires (chosen K 5 (kind (Reserved words.Repeat)) refl c.requires
    (deep K c.requires c.open-levels.ensures (then K refl c.statements-turn.ensures
    (take K c.word.ensures c.expr-until.ensures)) c.close.ensures))))) c.boxed.ensures.still
    (λ w. rw (box_holds c.in-Some.is c.boxed.ensures.boxed w) (made.repeat_made _ _ _))

pub repeat_statement-returns-in-None : goal.repeat_statement-returns-in-None
repeat_statement-returns-in-None t c =
    part_still (rule_goes K (here_goes K (opt_in K (kind (Reserved words.Repeat)) refl refl
    c.requires (chosen K 5 (kind (Reserved words.Repeat)) refl c.requires
    (deep K c.requires c.open-levels.ensures (then K refl c.statements-turn.ensures
    (take K c.word.ensures c.expr-until.ensures)) c.close.ensures))))) c.boxed.ensures.still
    (λ w. absurd (no_box c.in-None.is c.boxed.ensures.boxed w))

pub for_statement-returns-in-Some : goal.for_statement-returns-in-Some
for_statement-returns-in-Some t c =
    part_still (rule_goes K (here_goes K (opt_in K (kind (Reserved words.For)) refl refl c.requires
    (chosen K 6 (kind (Reserved words.For)) refl c.requires (deep K c.requires c.open-levels.ensures
    (then K refl (name_goes K c.name-name.ensures)
    (take K c.symbol.ensures (then K refl c.expr-first.ensures (then K refl c.direction-down.ensures
    (then K refl c.expr-last.ensures (take K c.word.ensures c.statement-turn.ensures))))))
    c.close.ensures))))) (still_on (still_on c.boxed-first.ensures.still c.boxed-last.ensures.still)
    c.boxed-turn.ensures.still) (λ w. let h = made.zip_holds c.in-Some.is c.zip-2.ensures
    (made.zip_is c.zip.ensures (λ w. c.boxed-first.ensures.boxed
    (still_well c.boxed-last.ensures.still (still_well c.boxed-turn.ensures.still w)))
    (λ w. c.boxed-last.ensures.boxed (still_well c.boxed-turn.ensures.still w)))
    c.boxed-turn.ensures.boxed w in rw (h.0, h.1) (made.for_made _ _ _ _ _ _))

pub for_statement-returns-in-None : goal.for_statement-returns-in-None
for_statement-returns-in-None t c =
    part_still (rule_goes K (here_goes K (opt_in K (kind (Reserved words.For)) refl refl c.requires
    (chosen K 6 (kind (Reserved words.For)) refl c.requires (deep K c.requires c.open-levels.ensures
    (then K refl (name_goes K c.name-name.ensures)
    (take K c.symbol.ensures (then K refl c.expr-first.ensures (then K refl c.direction-down.ensures
    (then K refl c.expr-last.ensures (take K c.word.ensures c.statement-turn.ensures))))))
    c.close.ensures))))) (still_on (still_on c.boxed-first.ensures.still c.boxed-last.ensures.still)
    c.boxed-turn.ensures.still)
    (λ w. absurd (made.no_zip c.in-None.is c.zip-2.ensures
    (made.zip_is c.zip.ensures (λ w. c.boxed-first.ensures.boxed
    (still_well c.boxed-last.ensures.still (still_well c.boxed-turn.ensures.still w)))
    (λ w. c.boxed-last.ensures.boxed (still_well c.boxed-turn.ensures.still w)))
    c.boxed-turn.ensures.boxed w))

pub all_statement-returns-in-Some : goal.all_statement-returns-in-Some
all_statement-returns-in-Some t c =
    part_still (rule_goes K (here_goes K (opt_in K (kind (Reserved words.All)) refl refl c.requires
    (chosen K 7 (kind (Reserved words.All)) refl c.requires (deep K c.requires c.open-levels.ensures
    (then K refl (name_goes K c.name-name.ensures)
    (take K c.symbol.ensures (then K refl (expressions.short_node c.shorttype-over.ensures)
    (take K c.word.ensures c.statement-turn.ensures)))) c.close.ensures)))))
    (still_on c.boxed-over.ensures.still c.boxed-turn.ensures.still) (λ w. let h = made.zip_holds
    c.in-Some.is c.zip.ensures (λ w. c.boxed-over.ensures.boxed
    (still_well c.boxed-turn.ensures.still w)) c.boxed-turn.ensures.boxed w in rw (h.0, h.1)
    (made.all_made _ _ _ _))

pub all_statement-returns-in-None : goal.all_statement-returns-in-None
all_statement-returns-in-None t c =
    part_still (rule_goes K (here_goes K (opt_in K (kind (Reserved words.All)) refl refl c.requires
    (chosen K 7 (kind (Reserved words.All)) refl c.requires (deep K c.requires c.open-levels.ensures
    (then K refl (name_goes K c.name-name.ensures)
    (take K c.symbol.ensures (then K refl (expressions.short_node c.shorttype-over.ensures)
    (take K c.word.ensures c.statement-turn.ensures)))) c.close.ensures)))))
    (still_on c.boxed-over.ensures.still c.boxed-turn.ensures.still)
    (λ w. absurd (made.no_zip c.in-None.is c.zip.ensures (λ w. c.boxed-over.ensures.boxed
    (still_well c.boxed-turn.ensures.still w)) c.boxed-turn.ensures.boxed w))
