use Rattle.std.proofs.Common.{refl, sym, [], ◌∷◌}
use Rattle.std.proofs.lemmas.List.{map-append}
use Rattle.est_lexer.specs.declared.kind.ReservedWord.TheVariants as words
use Rattle.est_lexer.specs.declared.kind.Symbol.TheVariants as symbols
use Rattle.est_lexer.specs.declared.kind.TokenKind.TheVariants.{Identifier, Reserved}
use Rattle.est_lexer.specs.declared.kind.TokenKind.TheVariants.{Symbol}
use Rattle.text_reader.specs.Tests.{kind}
use Rattle.text_reader.proofs.Going.{take, then, last, rule_goes, here_goes, part, part_still}
use Rattle.text_reader.proofs.Going.{goes_still, opt_in, opt_out, chosen, first_else, deep, filled}
use Rattle.text_reader.proofs.Turns.{one_part, no_part, more_parts, all_parts, lessens}
use Rattle.text_reader.proofs.Steps.{still_here}
use Rattle.text_reader.proofs.Single.{name_goes}
use Rattle.text_reader.proofs.Seen.{goes_is, chosen_by, opt_in_by, more_parts_by}
use Rattle.text_reader.proofs.Seen.{lessens_by, box_holds, no_box}
use Rattle.text_productions.specs.Nodes as node
use Rattle.text_productions.specs.Tokens as tokens
use Rattle.text_productions.proofs.Fits.{K}
use Rattle.text_productions.proofs.Made as made
use Rattle.text_productions.proofs.expression.+expr.Goals as goal

pub exprs-loop-reader-init : goal.exprs-loop-reader-init
exprs-loop-reader-init t c = one_part K refl c.expr-first.ensures c.keep.ensures.still
    (λ w. rw (c.keep.ensures.added w, c.new-items.ensures) refl)

pub exprs-loop-reader-preserved : goal.exprs-loop-reader-preserved
exprs-loop-reader-preserved t c = more_parts K _ (kind (Symbol symbols.Comma)) refl refl refl
    c.loop-reader-test.ensures c.loop-reader.invariant (take K c.symbol.ensures c.expr-next.ensures)
    c.keep-in-loop-reader.ensures.still (λ w. rw (c.keep-in-loop-reader.ensures.added w, map-append)
    refl)

pub exprs-loop-reader-smaller : goal.exprs-loop-reader-smaller
exprs-loop-reader-smaller t c = lessens K refl c.loop-reader-test.ensures
    (take K c.symbol.ensures c.expr-next.ensures) c.keep-in-loop-reader.ensures.still

pub exprs-returns : goal.exprs-returns
exprs-returns t c = (all_parts K (kind (Symbol symbols.Comma) ∷ []) refl refl
    (c.loop-reader-test.ensures, tt) c.loop-reader.invariant)

pub expr-returns : goal.expr-returns
expr-returns t c = part (made.expr_made _ _ _)
    (rule_goes K (here_goes K (then K refl c.simple-left.ensures c.relation-relation.ensures)))

pub relation-returns-then-not-sees_relational_operator :
    goal.relation-returns-then-not-sees_relational_operator
relation-returns-then-not-sees_relational_operator t c = opt_out K tokens.relational_tokens refl
    refl c.if-not-sees_relational_operator.ensures

pub relation-returns : goal.relation-returns
relation-returns t c = goes_is (sym (made.relation_made _ _)) (opt_in_by K tokens.relational_tokens
    refl refl c.if-not-sees_relational_operator.ensures
    (then K refl c.relational_operator-operator.ensures c.simple-right.ensures))

pub simple-returns : goal.simple-returns
simple-returns t c = part (made.simple_made _ _ _)
    (rule_goes K (then K refl c.sign-sign.ensures (then K refl c.term-first.ensures
    c.sum_steps-rest.ensures)))

pub sum_steps-loop-reader-init : goal.sum_steps-loop-reader-init
sum_steps-loop-reader-init t c = rw c.new-items.ensures (no_part K)

pub sum_steps-loop-reader-preserved : goal.sum_steps-loop-reader-preserved
sum_steps-loop-reader-preserved t c = more_parts_by K _ tokens.adding_tokens refl refl refl
    c.loop-reader-test.ensures c.loop-reader.invariant c.sum_step-next.ensures c.keep.ensures.still
    (λ w. rw (c.keep.ensures.added w, map-append) refl)

pub sum_steps-loop-reader-smaller : goal.sum_steps-loop-reader-smaller
sum_steps-loop-reader-smaller t c = lessens_by K tokens.adding_tokens refl
    c.loop-reader-test.ensures c.sum_step-next.ensures c.keep.ensures.still

pub sum_steps-returns : goal.sum_steps-returns
sum_steps-returns t c = all_parts K tokens.adding_tokens refl refl c.loop-reader-test.ensures
    c.loop-reader.invariant

pub sum_step-returns : goal.sum_step-returns
sum_step-returns t c = part (made.sum_step_made _ _) (then K refl c.adding_operator-operator.ensures
    c.term-right.ensures)

pub term-returns : goal.term-returns
term-returns t c = part (made.term_made _ _)
    (rule_goes K (then K refl c.factor-first.ensures c.product_steps-rest.ensures))

pub product_steps-loop-reader-init : goal.product_steps-loop-reader-init
product_steps-loop-reader-init t c = rw c.new-items.ensures (no_part K)

pub product_steps-loop-reader-preserved : goal.product_steps-loop-reader-preserved
product_steps-loop-reader-preserved t c = more_parts_by K _ tokens.multiplying_tokens refl refl refl
    c.loop-reader-test.ensures c.loop-reader.invariant c.product_step-next.ensures
    c.keep.ensures.still (λ w. rw (c.keep.ensures.added w, map-append) refl)

pub product_steps-loop-reader-smaller : goal.product_steps-loop-reader-smaller
product_steps-loop-reader-smaller t c = lessens_by K tokens.multiplying_tokens refl
    c.loop-reader-test.ensures c.product_step-next.ensures c.keep.ensures.still

pub product_steps-returns : goal.product_steps-returns
product_steps-returns t c = all_parts K tokens.multiplying_tokens refl refl
    c.loop-reader-test.ensures c.loop-reader.invariant

pub product_step-returns : goal.product_step-returns
product_step-returns t c = part (made.product_step_made _ _)
    (then K refl c.multiplying_operator-operator.ensures c.factor-right.ensures)

pub group-returns-in-Some : goal.group-returns-in-Some
group-returns-in-Some t c =
    part_still (rule_goes K (here_goes K (chosen K 2 (kind (Symbol symbols.LeftParenthesis)) refl
    c.requires (deep K c.requires c.open-levels.ensures (then K refl c.expr-of.ensures
    (last K c.symbol.ensures)) c.close.ensures)))) c.boxed.ensures.still
    (λ w. rw (box_holds c.in-Some.is c.boxed.ensures.boxed w) (made.group_made _ _))

pub group-returns-in-None : goal.group-returns-in-None
group-returns-in-None t c =
    part_still (rule_goes K (here_goes K (chosen K 2 (kind (Symbol symbols.LeftParenthesis)) refl
    c.requires (deep K c.requires c.open-levels.ensures (then K refl c.expr-of.ensures
    (last K c.symbol.ensures)) c.close.ensures)))) c.boxed.ensures.still
    (λ w. absurd (no_box c.in-None.is c.boxed.ensures.boxed w))

pub negation-returns-in-Some : goal.negation-returns-in-Some
negation-returns-in-Some t c =
    part_still (rule_goes K (here_goes K (chosen K 3 (kind (Reserved words.Not)) refl c.requires
    (deep K c.requires c.open-levels.ensures c.factor-of.ensures c.close.ensures))))
    c.boxed.ensures.still (λ w. rw (box_holds c.in-Some.is c.boxed.ensures.boxed w)
    (made.not_made _ _))

pub negation-returns-in-None : goal.negation-returns-in-None
negation-returns-in-None t c =
    part_still (rule_goes K (here_goes K (chosen K 3 (kind (Reserved words.Not)) refl c.requires
    (deep K c.requires c.open-levels.ensures c.factor-of.ensures c.close.ensures))))
    c.boxed.ensures.still (λ w. absurd (no_box c.in-None.is c.boxed.ensures.boxed w))

pub set-returns : goal.set-returns
set-returns t c = part (made.set_of_made _ _)
    (rule_goes K (here_goes K (chosen K 4 (kind (Symbol symbols.LeftBracket)) refl c.requires
    (deep K c.requires c.open-levels.ensures (then K refl c.members_given-members.ensures
    (last K c.symbol.ensures)) c.close.ensures))))

pub members_given-returns-then-begins_expression : goal.members_given-returns-then-begins_expression
members_given-returns-then-begins_expression t c = goes_still (opt_in_by K tokens.expression_tokens
    refl refl c.if-begins_expression.ensures c.members.ensures) still_here
    (λ w. let f = filled node.a_member _ c.members.ensures w in rw f.2 refl)

pub members_given-returns : goal.members_given-returns
members_given-returns t c = rw c.new.ensures (opt_out K tokens.expression_tokens refl refl
    c.if-begins_expression.ensures)

pub members-loop-reader-init : goal.members-loop-reader-init
members-loop-reader-init t c = one_part K refl c.member-first.ensures c.keep.ensures.still
    (λ w. rw (c.keep.ensures.added w, c.new-items.ensures) refl)

pub members-loop-reader-preserved : goal.members-loop-reader-preserved
members-loop-reader-preserved t c = more_parts K _ (kind (Symbol symbols.Comma)) refl refl refl
    c.loop-reader-test.ensures c.loop-reader.invariant
    (take K c.symbol.ensures c.member-next.ensures) c.keep-in-loop-reader.ensures.still
    (λ w. rw (c.keep-in-loop-reader.ensures.added w, map-append) refl)

pub members-loop-reader-smaller : goal.members-loop-reader-smaller
members-loop-reader-smaller t c = lessens K refl c.loop-reader-test.ensures
    (take K c.symbol.ensures c.member-next.ensures) c.keep-in-loop-reader.ensures.still

pub members-returns : goal.members-returns
members-returns t c = (all_parts K (kind (Symbol symbols.Comma) ∷ []) refl refl
    (c.loop-reader-test.ensures, tt) c.loop-reader.invariant)

pub member-returns : goal.member-returns
member-returns t c = part (made.member_made _ _)
    (rule_goes K (then K refl c.expr-low.ensures c.later_end-high.ensures))

pub later_end-returns-then-not-sees : goal.later_end-returns-then-not-sees
later_end-returns-then-not-sees t c = opt_out K (kind (Symbol symbols.DoublePeriod) ∷ []) refl refl
    (c.if-not-sees.ensures, tt)

pub later_end-returns : goal.later_end-returns
later_end-returns t c = opt_in K (kind (Symbol symbols.DoublePeriod)) refl refl
    c.if-not-sees.ensures (take K c.symbol.ensures c.expr.ensures)

pub variable_or_call-returns-then-sees : goal.variable_or_call-returns-then-sees
variable_or_call-returns-then-sees t c = part (made.call_made _ _ _)
    (rule_goes K (here_goes K (chosen K 5 (kind Identifier) refl c.requires
    (then K refl (name_goes K c.name-name.ensures)
    (opt_in K (kind (Symbol symbols.LeftParenthesis)) refl refl c.if-sees.ensures
    (chosen K 0 (kind (Symbol symbols.LeftParenthesis)) refl c.if-sees.ensures
    c.called-arguments.ensures))))))

pub variable_or_call-returns-then-sees_selector : goal.variable_or_call-returns-then-sees_selector
variable_or_call-returns-then-sees_selector t c =
    part_still (rule_goes K (here_goes K (chosen K 5 (kind Identifier) refl c.requires
    (then K refl (name_goes K c.name-name.ensures) (opt_in_by K tokens.selector_tokens refl refl
    c.if-sees_selector.ensures (chosen_by K 1 tokens.selector_tokens refl c.if-sees_selector.ensures
    c.selectors-path.ensures)))))) still_here (λ w. let f = filled node.a_selector _
    c.selectors-path.ensures w in rw f.2 (made.variable_of_made _ _ _))

pub variable_or_call-returns : goal.variable_or_call-returns
variable_or_call-returns t c = part (rw c.new-path.ensures (made.variable_of_made _ _ _))
    (rule_goes K (here_goes K (chosen K 5 (kind Identifier) refl c.requires
    (then K refl (name_goes K c.name-name.ensures)
    (opt_out K (kind (Symbol symbols.LeftParenthesis) ∷ tokens.selector_tokens) refl refl
    (c.if-sees.ensures, c.if-sees_selector.ensures))))))

pub called-returns : goal.called-returns
called-returns t c = deep K c.requires c.open-levels.ensures (then K refl c.exprs-exprs.ensures
    (last K c.symbol.ensures)) c.close.ensures

pub subscripts-returns : goal.subscripts-returns
subscripts-returns t c = deep K c.requires c.open-levels.ensures (then K refl c.exprs-exprs.ensures
    (last K c.symbol.ensures)) c.close.ensures

pub selectors-loop-reader-init : goal.selectors-loop-reader-init
selectors-loop-reader-init t c = one_part K refl c.selector-first.ensures c.keep.ensures.still
    (λ w. rw (c.keep.ensures.added w, c.new-items.ensures) refl)

pub selectors-loop-reader-preserved : goal.selectors-loop-reader-preserved
selectors-loop-reader-preserved t c = more_parts_by K _ tokens.selector_tokens refl refl refl
    c.loop-reader-test.ensures c.loop-reader.invariant c.selector-next.ensures
    c.keep-in-loop-reader.ensures.still (λ w. rw (c.keep-in-loop-reader.ensures.added w, map-append)
    refl)

pub selectors-loop-reader-smaller : goal.selectors-loop-reader-smaller
selectors-loop-reader-smaller t c = lessens_by K tokens.selector_tokens refl
    c.loop-reader-test.ensures c.selector-next.ensures c.keep-in-loop-reader.ensures.still

pub selectors-returns : goal.selectors-returns
selectors-returns t c = (all_parts K tokens.selector_tokens refl refl c.loop-reader-test.ensures
    c.loop-reader.invariant)

pub selector-returns : goal.selector-returns
selector-returns t c = part (made.field_of_made _)
    (rule_goes K (first_else K (kind (Symbol symbols.LeftBracket) ∷ []) refl refl refl refl
    (c.if-sees.ensures, tt) (take K c.symbol.ensures (name_goes K c.name.ensures))))

pub index-returns : goal.index-returns
index-returns t c = part (made.index_made _ _)
    (rule_goes K (chosen K 1 (kind (Symbol symbols.LeftBracket)) refl c.requires
    (here_goes K c.subscripts-exprs.ensures)))
