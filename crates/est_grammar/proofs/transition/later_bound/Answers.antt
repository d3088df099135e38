use Rattle.std.proofs.Common.{refl, [], ◌∷◌}
use Rattle.est_lexer.specs.declared.kind.Symbol.TheVariants as symbols
use Rattle.est_lexer.specs.declared.kind.TokenKind.TheVariants.{Symbol}
use Rattle.text_reader.specs.Tests.{kind}
use Rattle.text_reader.proofs.Going.{take, last, goes_still, opt_in, opt_out, chosen, first_else}
use Rattle.text_reader.proofs.Seen.{box_holds, no_box}
use Rattle.text_productions.proofs.Fits.{K}
use Rattle.est_grammar.proofs.transition.later_bound.Goals as goal

pub returns-then-not-sees : goal.returns-then-not-sees
returns-then-not-sees c = opt_out K (kind (Symbol symbols.Comma) ∷ []) refl refl
    (c.if-not-sees.ensures, tt)

pub returns-then-sees : goal.returns-then-sees
returns-then-sees c = opt_in K (kind (Symbol symbols.Comma)) refl refl c.if-not-sees.ensures
    (take K c.symbol.ensures (chosen K 1 (kind (Symbol symbols.Star)) refl c.if-sees.ensures
    (last K c.symbol-then-sees.ensures)))

pub returns-in-Some : goal.returns-in-Some
returns-in-Some c = goes_still (opt_in K (kind (Symbol symbols.Comma)) refl refl
    c.if-not-sees.ensures (take K c.symbol.ensures (first_else K (kind (Symbol symbols.Star) ∷ [])
    refl refl refl refl (c.if-sees.ensures, tt) c.expr-bound.ensures))) c.boxed.ensures.still
    (λ w. rw (box_holds c.in-Some.is c.boxed.ensures.boxed w) refl)

pub returns-in-None : goal.returns-in-None
returns-in-None c = goes_still (opt_in K (kind (Symbol symbols.Comma)) refl refl
    c.if-not-sees.ensures (take K c.symbol.ensures (first_else K (kind (Symbol symbols.Star) ∷ [])
    refl refl refl refl (c.if-sees.ensures, tt) c.expr-bound.ensures))) c.boxed.ensures.still
    (λ w. absurd (no_box c.in-None.is c.boxed.ensures.boxed w))
