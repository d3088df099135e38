-- Turns of the loops over lists.
use Rattle.std.proofs.Common.{◌≡◌, sym, ap, ◌∙◌, ℕ, ◌+◌, ◌<◌, List}
use Rattle.std.proofs.Common.{◌∷◌, Option, length, drop, get_or}
use Rattle.std.proofs.lemmas.List.{drop_more}
use Rattle.est_syntax.specs.declared.rule.Fault.{Fault}
use Rattle.est_syntax.specs.declared.transition.Transition.{Transition}
use Rattle.rule_scope.specs.LeastSoFar.{least_with}
use Rattle.rule_scope.specs.Outline.{Outline}
use Rattle.rule_scope.proofs.LeastLaws.{least_append}
use Rattle.rule_declares.specs.declared.context.Given.{Given}
use Rattle.rule_ports.specs.GivenClauses.{with_clauses}
use Rattle.est_check.specs.inside.BlockParts.{transition_faults, transitions_faults}

-- a transition, which gets the clauses of those before it
pub transition_turn : (o : Outline) (ts : List Transition) (i : ℕ) (t : Transition)
    (gs hs : List Given) (before after total : Option Fault)
    → i < length ts → t ≡ get_or ts i t → hs ≡ with_clauses gs t.clauses
    → after ≡ least_with before (transition_faults o gs t)
    → least_with before (transitions_faults o gs (drop i ts)) ≡ total
    → least_with after (transitions_faults o hs (drop (i + 1) ts)) ≡ total
transition_turn o ts i t gs hs before after total within is given done h =
    (λ j. least_with (done j) (transitions_faults o (given j) (drop (i + 1) ts)))
    ∙ sym (least_append before (transition_faults o gs t)
    (transitions_faults o (with_clauses gs t.clauses) (drop (i + 1) ts)))
    ∙ ap (λ y. least_with before (transitions_faults o gs (y ∷ drop (i + 1) ts))) is
    ∙ ap (λ l. least_with before (transitions_faults o gs l)) (sym (drop_more ts i t within))
    ∙ h
