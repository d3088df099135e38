use Rattle.std.proofs.Common.{refl, ◌∷◌}
use Rattle.est_lexer.specs.declared.kind.Symbol.TheVariants as symbols
use Rattle.est_lexer.specs.declared.kind.TokenKind.TheVariants.{Identifier, Symbol}
use Rattle.text_reader.specs.Tests.{kind}
use Rattle.text_reader.proofs.Going.{take, then, rule_goes, here_goes, part}
use Rattle.text_reader.proofs.Going.{part_still, opt_in, opt_out, chosen}
use Rattle.text_reader.proofs.Steps.{still_here}
use Rattle.text_reader.proofs.Single.{name_goes}
use Rattle.text_reader.proofs.Seen.{chosen_by, opt_in_by, box_holds, no_box}
use Rattle.text_productions.specs.Tokens as tokens
use Rattle.text_productions.proofs.Fits.{K}
use Rattle.est_grammar.proofs.Made as made
use Rattle.text_productions.proofs.Made as expressions
use Rattle.est_grammar.proofs.statement.assignment_or_call.Goals as goal

pub returns-then-sees : goal.returns-then-sees
returns-then-sees c =
    part_still (rule_goes K (here_goes K (opt_in K (kind Identifier) refl refl c.requires
    (chosen K 1 (kind Identifier) refl c.requires (then K refl (name_goes K c.name-name.ensures)
    (opt_in K (kind (Symbol symbols.LeftParenthesis)) refl refl c.if-sees.ensures
    (chosen K 1 (kind (Symbol symbols.LeftParenthesis)) refl c.if-sees.ensures
    c.called-arguments.ensures))))))) still_here (λ w. let f = expressions.some_exprs _ _ _
    c.called-arguments.ensures w in rw f.2 (made.call_made _ _ _))

pub returns-then-not-sees_assigned : goal.returns-then-not-sees_assigned
returns-then-not-sees_assigned c = part (rw c.new-arguments.ensures (made.call_made _ _ _))
    (rule_goes K (here_goes K (opt_in K (kind Identifier) refl refl c.requires
    (chosen K 1 (kind Identifier) refl c.requires (then K refl (name_goes K c.name-name.ensures)
    (opt_out K (kind (Symbol symbols.LeftParenthesis) ∷ tokens.assigned_tokens) refl refl
    (c.if-sees.ensures, c.if-not-sees_assigned.ensures)))))))

pub returns-in-Some : goal.returns-in-Some
returns-in-Some c =
    part_still (rule_goes K (here_goes K (opt_in K (kind Identifier) refl refl c.requires
    (chosen K 1 (kind Identifier) refl c.requires (then K refl (name_goes K c.name-name.ensures)
    (opt_in_by K tokens.assigned_tokens refl refl c.if-not-sees_assigned.ensures
    (chosen_by K 0 tokens.assigned_tokens refl c.if-not-sees_assigned.ensures
    (then K refl c.path-path.ensures (take K c.symbol.ensures c.expr-value.ensures)))))))))
    c.boxed.ensures.still (λ w. rw (box_holds c.in-Some.is c.boxed.ensures.boxed w)
    (made.assign_made _ _ _ _))

pub returns-in-None : goal.returns-in-None
returns-in-None c =
    part_still (rule_goes K (here_goes K (opt_in K (kind Identifier) refl refl c.requires
    (chosen K 1 (kind Identifier) refl c.requires (then K refl (name_goes K c.name-name.ensures)
    (opt_in_by K tokens.assigned_tokens refl refl c.if-not-sees_assigned.ensures
    (chosen_by K 0 tokens.assigned_tokens refl c.if-not-sees_assigned.ensures
    (then K refl c.path-path.ensures (take K c.symbol.ensures c.expr-value.ensures)))))))))
    c.boxed.ensures.still (λ w. absurd (no_box c.in-None.is c.boxed.ensures.boxed w))
