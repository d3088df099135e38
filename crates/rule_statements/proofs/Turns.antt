-- Turns of the loops over lists.
use Rattle.std.proofs.Common.{arith, ◌≡◌, sym, ap, ◌∙◌, ℕ, ◌+◌, ◌<◌}
use Rattle.std.proofs.Common.{List, ◌∷◌, Option, length, drop, get_or}
use Rattle.std.proofs.lemmas.List.{drop_more, drop_all}
use Rattle.est_syntax.specs.declared.expression.Expr.{Expr}
use Rattle.est_syntax.specs.declared.rule.Fault.{Fault}
use Rattle.rule_scope.specs.LeastSoFar.{least_with}
use Rattle.rule_scope.specs.Outline.{Outline}
use Rattle.rule_scope.proofs.LeastLaws.{least_append}
use Rattle.rule_expressions.specs.declared.receivers.Receiver.TheVariants as receiver
use Rattle.rule_expressions.specs.Receivers.{number_faults}
use Rattle.rule_statements.specs.Statements.{argument_faults, arguments_faults}

-- one more argument of a procedure, by its number
pub arguments_turn : (o : Outline) (f : Option ℕ) (loops : List ℕ) (p name : ℕ) (es : List Expr)
    (i : ℕ) (e : Expr) (before after total : Option Fault)
    → i < length es → e ≡ get_or es i e
    → after ≡ least_with before (argument_faults o f loops p i e)
    → least_with before (arguments_faults o f loops p i name (drop i es)) ≡ total
    → least_with after (arguments_faults o f loops p (i + 1) name (drop (i + 1) es)) ≡ total
arguments_turn o f loops p name es i e before after total within is done h =
    ap (λ l. least_with l (arguments_faults o f loops p (i + 1) name (drop (i + 1) es))) done
    ∙ sym (least_append before (argument_faults o f loops p i e) (arguments_faults o f loops p
    (i + 1) name (drop (i + 1) es)))
    ∙ ap (λ y. least_with before (arguments_faults o f loops p i name (y ∷ drop (i + 1) es))) is
    ∙ ap (λ l. least_with before (arguments_faults o f loops p i name l))
    (sym (drop_more es i e within))
    ∙ h

-- and after the last one
pub arguments_end : (o : Outline) (f : Option ℕ) (loops : List ℕ) (p name : ℕ) (es : List Expr)
    (i : ℕ) (before after total : Option Fault)
    → i ≡ length es → after ≡ least_with before (number_faults o (receiver.Parameters p) (length es)
    name)
    → least_with before (arguments_faults o f loops p i name (drop i es)) ≡ total → after ≡ total
arguments_end o f loops p name es i before after total end done h =
    done
    ∙ ap (λ n. least_with before (number_faults o (receiver.Parameters p) n name)) (sym end)
    ∙ ap (λ l. least_with before (arguments_faults o f loops p i name l))
    (sym (drop_all i es (omega (arith, end))))
    ∙ h
