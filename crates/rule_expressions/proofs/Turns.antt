-- Turns of the loops over lists.
use Rattle.std.proofs.Common.{◌≡◌, refl, sym, ap, ◌∙◌, ℕ, ◌+◌, ◌<◌, Bool, true, false}
use Rattle.std.proofs.Common.{◌&&◌, List, ◌∷◌, ◌++◌, Option, length, drop, get_or}
use Rattle.std.proofs.lemmas.List.{drop_more}
use Rattle.est_syntax.specs.declared.expression.Expr.{Expr}
use Rattle.est_syntax.specs.declared.rule.Fault.{Fault}
use Rattle.rule_scope.specs.LeastSoFar.{least_with}
use Rattle.rule_scope.specs.Outline.{Outline}
use Rattle.rule_scope.proofs.LeastLaws.{least_append}
use Rattle.rule_expressions.specs.declared.receivers.Receiver.{Receiver}
use Rattle.rule_expressions.specs.Calls.{is_received}
use Rattle.rule_expressions.specs.Expressions.{expr_type, are_taken, are_taken_faults, one_faults}

-- what a list makes of what was there before it, an item at a time
pub after_loop : {X S : Type 0} (F : S → List X → S) (g : S → X → S) (xs : List X) (i : ℕ) (x : X)
    (before after : S) (total : S)
    → ((s : S) (y : X) (ys : List X) → F s (y ∷ ys) ≡ F (g s y) ys)
    → i < length xs → x ≡ get_or xs i x → after ≡ g before x
    → F before (drop i xs) ≡ total → F after (drop (i + 1) xs) ≡ total
after_loop F g xs i x before after total step within is done h =
    ap (λ s. F s (drop (i + 1) xs)) done
    ∙ sym (step before x (drop (i + 1) xs))
    ∙ ap (λ y. F before (y ∷ drop (i + 1) xs)) is
    ∙ ap (F before) (sym (drop_more xs i x within))
    ∙ h

-- and what it breaks after that
pub broken_loop : {X S : Type 0} (F : S → List X → List Fault) (f : S → X → List Fault) (g : S → X
    → S) (xs : List X) (i : ℕ) (x : X)
    (s t : S) (before after total : Option Fault)
    → ((r : S) (y : X) (ys : List X) → F r (y ∷ ys) ≡ f r y ++ F (g r y) ys)
    → i < length xs → x ≡ get_or xs i x → t ≡ g s x → after ≡ least_with before (f s x)
    → least_with before (F s (drop i xs)) ≡ total → least_with after (F t (drop (i + 1) xs)) ≡ total
broken_loop F f g xs i x s t before after total step within is state done h =
    (λ j. least_with (done j) (F (state j) (drop (i + 1) xs)))
    ∙ sym (least_append before (f s x) (F (g s x) (drop (i + 1) xs)))
    ∙ ap (least_with before) (sym (step s x (drop (i + 1) xs)))
    ∙ ap (λ y. least_with before (F s (y ∷ drop (i + 1) xs))) is
    ∙ ap (λ l. least_with before (F s l)) (sym (drop_more xs i x within))
    ∙ h

-- one more argument or subscript, by its number
and_joined : (a b c : Bool) → ((a && b) && c) ≡ (a && (b && c))
and_joined true b c = refl
and_joined false b c = refl

pub taken_turn : (o : Outline) (r : Option Receiver) (es : List Expr) (i : ℕ) (e : Expr)
    (b c total : Bool)
    → i < length es → e ≡ get_or es i e → c ≡ (b && is_received o r i (expr_type o e))
    → (b && are_taken o r i (drop i es)) ≡ total → (c && are_taken o r (i + 1) (drop (i + 1) es))
    ≡ total
taken_turn o r es i e b c total within is done h =
    ap (λ z. z && are_taken o r (i + 1) (drop (i + 1) es)) done
    ∙ and_joined b (is_received o r i (expr_type o e)) (are_taken o r (i + 1) (drop (i + 1) es))
    ∙ ap (λ y. b && are_taken o r i (y ∷ drop (i + 1) es)) is
    ∙ ap (λ l. b && are_taken o r i l) (sym (drop_more es i e within))
    ∙ h

pub taken_broken_turn : (o : Outline) (r : Option Receiver) (name : ℕ) (es : List Expr) (i : ℕ)
    (e : Expr) (before after total : Option Fault)
    → i < length es → e ≡ get_or es i e → after ≡ least_with before (one_faults o r i e)
    → least_with before (are_taken_faults o r i name (drop i es)) ≡ total
    → least_with after (are_taken_faults o r (i + 1) name (drop (i + 1) es)) ≡ total
taken_broken_turn o r name es i e before after total within is done h =
    ap (λ l. least_with l (are_taken_faults o r (i + 1) name (drop (i + 1) es))) done
    ∙ sym (least_append before (one_faults o r i e) (are_taken_faults o r (i + 1) name
    (drop (i + 1) es)))
    ∙ ap (λ y. least_with before (are_taken_faults o r i name (y ∷ drop (i + 1) es))) is
    ∙ ap (λ l. least_with before (are_taken_faults o r i name l)) (sym (drop_more es i e within))
    ∙ h
