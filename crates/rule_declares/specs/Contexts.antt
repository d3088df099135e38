-- The clauses that a transition has: its own, and those before it in its group that none of its own
-- replaces (ISO 9074, transition-group).
use Rattle.std.specs.Prelude.{ℕ, Bool, List, [], ◌∷◌, ◌++◌, Option, None, if◌then◌else◌}
use Rattle.est_syntax.specs.declared.transition.Clause.{Clause}
use Rattle.est_syntax.specs.declared.transition.Clause.TheVariants as clauses
use Rattle.rule_kinds.specs.rule_scope.declared.declaration.Within.{Within}
use Rattle.rule_declares.specs.declared.context.ClauseKind.{ClauseKind}
use Rattle.rule_declares.specs.declared.context.ClauseKind.TheVariants as clause
use Rattle.rule_declares.specs.declared.context.Given.{Given}
use Rattle.rule_declares.specs.contracts.context.ClauseKindPartialEq.TheImpl.{ghosts}
use Rattle.rule_declares.specs.Entries.{with_region}

-- the kind of a clause: an `otherwise` stands where a `provided` may
abbrev pub kind_of : Clause → ClauseKind
kind_of (clauses.From states place) = clause.From
kind_of (clauses.To state place) = clause.To
kind_of (clauses.When at signal place) = clause.When
kind_of (clauses.Provided condition place) = clause.Provided
kind_of (clauses.Otherwise place) = clause.Provided
kind_of (clauses.Any names place) = clause.Any
kind_of (clauses.Priority value place) = clause.Priority
kind_of (clauses.Delay least most place) = clause.Delay

-- whether two kinds of clause are one: the comparison that the type derives
abbrev pub is_same : ClauseKind → ClauseKind → Bool
is_same a b = ghosts.eq a b

-- a clause takes the place of that of its kind, and of all that were given after that one
abbrev pub dropped : ClauseKind → List Given → List Given
dropped k [] = []
dropped k (g ∷ gs) = if is_same k g.kind then [] else g ∷ dropped k gs

-- the clauses with one more, which opens this region, if any
abbrev pub given : ClauseKind → Option ℕ → List Given → List Given
given k region gs = gs ++ record { kind = k; region = region } ∷ []

-- the region that the clause of a kind opens
abbrev pub region_of : ClauseKind → List Given → Option ℕ
region_of k [] = None
region_of k (g ∷ gs) = if is_same k g.kind then g.region else region_of k gs

-- what stands after these clauses: the parameters of the `when` lie within the `any` variables
abbrev pub under : Within → List Given → Within
under w gs = with_region (region_of clause.When gs) (with_region (region_of clause.Any gs) w)
