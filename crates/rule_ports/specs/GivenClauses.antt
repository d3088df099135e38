-- The clauses that a transition is given, and a delay among them (ISO 9074, transition-group and
-- delay-clause).
use Rattle.std.specs.Prelude.{ℕ, Bool, ◌||◌, List, [], ◌∷◌, Option, Some, None, is_some}
use Rattle.est_syntax.specs.Clauses.{clause_place}
use Rattle.est_syntax.specs.Faults.{broken_if}
use Rattle.est_syntax.specs.declared.rule.Fault.{Fault}
use Rattle.est_syntax.specs.declared.rule.Rule.TheVariants.{DelayNotAlone}
use Rattle.est_syntax.specs.declared.transition.Clause.{Clause}
use Rattle.rule_declares.specs.Contexts as context
use Rattle.rule_declares.specs.Contexts.{kind_of}
use Rattle.rule_declares.specs.declared.context.ClauseKind.{ClauseKind}
use Rattle.rule_declares.specs.declared.context.ClauseKind.TheVariants as given
use Rattle.rule_declares.specs.declared.context.Given.{Given}

-- The clauses of a transition with one more, by the place of its first token: a clause takes the
-- place of that of its kind, and of all that were given after that one.
abbrev pub with_clause : List Given → Clause → List Given
with_clause gs c =
    context.given (kind_of c) (Some (clause_place c)) (context.dropped (kind_of c) gs)

-- the clauses of a transition with more of them, in order
abbrev pub with_clauses : List Given → List Clause → List Given
with_clauses gs [] = gs
with_clauses gs (c ∷ cs) = with_clauses (with_clause gs c) cs

-- whether a transition has a clause of a kind
abbrev pub has : ClauseKind → List Given → Bool
has k gs = is_some (context.region_of k gs)

-- a delay stands without a `when` and without an `any`
abbrev pub delay_by : Option ℕ → List Given → List Fault
delay_by None gs = []
delay_by (Some place) gs = broken_if (has given.When gs || has given.Any gs) place DelayNotAlone

-- what a delay among the clauses of a transition breaks
abbrev pub delay_faults : List Given → List Fault
delay_faults gs = delay_by (context.region_of given.Delay gs) gs
