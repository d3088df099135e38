-- What is provided, condition by condition.
use Rattle.std.proofs.Common.{◌≡◌, refl, ap, ◌∙◌, ℕ, ◌≤◌, Bool, ◌&&◌}
use Rattle.std.proofs.Common.{◌||◌, List, [], ◌∷◌, map, length, take}
use Rattle.std.proofs.lemmas.List.{take_all}
use Rattle.std.specs.Borrow.{Bor}
use Rattle.std.specs.List.{list_all, list_any}
use Rattle.est_syntax.specs.declared.expression.Expr.{Expr}
use Rattle.est_meaning.specs.mean_blocks.WorkingState.{View}
use Rattle.plain_transitions.specs.WrittenTransitions.{referred}
use Rattle.est_meaning.specs.ClauseContexts.{Otherwise}
use Rattle.est_meaning.specs.GuardParts.{part_of, is_limit, is_unmet}
use Rattle.plain_clauses.specs.declared.met.Met.{Met}
use Rattle.plain_clauses.specs.JudgedClauses.{IsMet}

-- whether a condition is unmet, and whether it passes its limit
abbrev pub unmet : ℕ → View → Bor Expr → Bool
unmet limit v e = is_unmet (part_of limit e.now v)

abbrev pub past : ℕ → View → Bor Expr → Bool
past limit v e = is_limit (part_of limit e.now v)

all_referred : (limit : ℕ) (v : View) (es : List (Bor Expr))
    → list_all (unmet limit v) es
    ≡ list_all (λ e. is_unmet (part_of limit e v)) (referred es)
all_referred limit v [] = refl
all_referred limit v (e ∷ es) = ap (λ b. unmet limit v e && b) (all_referred limit v es)

any_referred : (limit : ℕ) (v : View) (es : List (Bor Expr)) → list_any (past limit v) es
    ≡ list_any is_limit (map (λ e. part_of limit e v) (referred es))
any_referred limit v [] = refl
any_referred limit v (e ∷ es) = ap (λ b. past limit v e || b) (any_referred limit v es)

-- all conditions to which an `otherwise` refers
pub otherwise_met : (limit : ℕ) (v : View) (es : List (Bor Expr)) (i : ℕ) (m : Met)
    → length es ≤ i → m.holds ≡ list_all (unmet limit v) (take i es)
    → m.passes ≡ list_any (past limit v) (take i es)
    → IsMet limit (Otherwise (referred es)) v m
otherwise_met limit v es i m h a p = record {
  holds_is = a ∙ ap (list_all (unmet limit v)) (take_all i es h) ∙ all_referred limit v es;
  passes_is = p ∙ ap (list_any (past limit v)) (take_all i es h) ∙ any_referred limit v es;
}
