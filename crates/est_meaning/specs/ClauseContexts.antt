-- The transitions of a body, each with all its clauses (ISO 9074, 7: transition-declaration and
-- transition-group).
--
-- A context is the list of the clauses that a transition has, in the order in which they were
-- given: its own, and those before it after the same `trans` that none of its own replaces.
use Rattle.std.specs.Prelude.{◌≡◌, ℕ, Bool, false, not, ◌&&◌, nat_eq, nat_lt, List, [], ◌∷◌}
use Rattle.std.specs.Prelude.{◌++◌, map, Option, Some, None, slice_get, unwrap_or}
use Rattle.std.specs.Cmp.Lexicographic.{pointwise}
use Rattle.std.specs.List.{filter, filter_map, flat_map, list_any, take_while}
use Rattle.std.specs.Option.{option_map_or}
use Rattle.est_syntax.specs.declared.body.Block.{Block}
use Rattle.est_syntax.specs.declared.body.Body.{Body, out-Body}
use Rattle.est_syntax.specs.declared.constant.Constant.{Constant}
use Rattle.est_syntax.specs.declared.expression.Access.{Access}
use Rattle.est_syntax.specs.declared.expression.Expr.{Expr}
use Rattle.est_syntax.specs.declared.name.Used.{Used}
use Rattle.est_syntax.specs.declared.transition.Clause.{Clause}
use Rattle.est_syntax.specs.declared.transition.Clause.TheVariants as clause
use Rattle.est_syntax.specs.declared.transition.Group.{Group, out-Group}
use Rattle.est_syntax.specs.declared.transition.Most.{Most}
use Rattle.est_syntax.specs.declared.transition.Transition.{Transition, out-Transition}
use Rattle.mean_blocks.specs.rule_declares.declared.context.Given.{Given}
use Rattle.mean_blocks.specs.rule_declares.Contexts.{is_same}
use Rattle.est_syntax.specs.Clauses.{clause_place}
use Rattle.mean_blocks.specs.rule_declares.Contexts.{kind_of}
use Rattle.rule_ports.specs.GivenClauses as rules
use Rattle.mean_blocks.specs.TextByPlace.{Text, body_at}

-- CONTEXTS

-- whether two clauses are of one kind, of which a context has one at most; an `otherwise` is of
-- that of a `provided`
abbrev pub is_same_kind : Clause → Clause → Bool
is_same_kind c d = is_same (kind_of c) (kind_of d)

-- the clauses of a context before the one that is of this kind, or all where none is
abbrev pub before : Clause → List Clause → List Clause
before c cs = take_while (λ d. not (is_same_kind c d)) cs

-- a context with a clause more, which takes the place of that of its kind and of all that were
-- given after that one (ISO 9074, 7: transition-group)
abbrev pub context_with : List Clause → Clause → List Clause
context_with cs c = before c cs ++ c ∷ []

-- a context with more clauses, which are given in order
abbrev pub context_after : List Clause → List Clause → List Clause
context_after cs [] = cs
context_after cs (d ∷ ds) = context_after (context_with cs d) ds

-- EARLIER CONDITIONS

-- a clause where it is given, with those of the context before it
pub record GivenClause : Type 0 where
  pub under : List Clause
  pub clause : Clause

-- clauses that are given in order, after those of a context
abbrev pub given_after : List Clause → List Clause → List GivenClause
given_after cs [] = []
given_after cs (d ∷ ds) =
    record { under = before d cs; clause = d } ∷ given_after (context_with cs d) ds

-- whether both are the same clauses of the text
abbrev pub are_same : List Clause → List Clause → Bool
are_same cs ds = pointwise nat_eq (map clause_place cs) (map clause_place ds)

-- whether a clause is given before the place of another, under the same clauses as that
abbrev pub is_earlier : ℕ → List Clause → GivenClause → Bool
is_earlier place under g = nat_lt (clause_place g.clause) place && are_same under g.under

-- the condition of a `provided`
abbrev pub condition_in : Clause → Option Expr
condition_in (clause.Provided condition place) = Some condition
condition_in _ = None

-- The conditions to which a clause of a context refers that is a `provided otherwise`: those that
-- are given before it after the same `trans`, under the same clauses (ISO 9074, 7:
-- provided-clause). An earlier `provided otherwise` is none (profile).
abbrev pub referred : List GivenClause → List Clause → Clause → List Expr
referred gs cs (clause.Otherwise place) = filter_map (λ (g : GivenClause). condition_in g.clause)
    (filter (is_earlier place (before (clause.Otherwise place) cs)) gs)
referred gs cs _ = []

-- TRANSITIONS

-- a transition with all its clauses, its block, and the earlier conditions to which the `provided
-- otherwise` among the clauses refers, if one is there
pub record FullTransition : Type 0 where
  pub clauses : List Clause
  pub earlier : List Expr
  pub block : Block

-- a transition with the clauses of a context
abbrev pub full : List GivenClause → List Clause → Block → FullTransition
full gs cs b = record { clauses = cs; earlier = flat_map (referred gs cs) cs; block = b }

-- transitions after a context, each with the clauses of the context at its block
abbrev pub full_after : List GivenClause → List Clause → List Transition → List FullTransition
full_after gs cs [] = []
full_after gs cs (x ∷ xs) = let ds = context_after cs (out-Transition x).clauses in
    full gs ds (out-Transition x).block ∷ full_after gs ds xs

-- all clauses of transitions, in the order of the text
abbrev pub clauses_of : List Transition → List Clause
clauses_of xs = flat_map (λ (x : Transition). (out-Transition x).clauses) xs

-- the transitions after one `trans`, which begins without a context
abbrev pub group_transitions : Group → List FullTransition
group_transitions g = let xs = (out-Group g).transitions in
    full_after (given_after [] (clauses_of xs)) [] xs

-- the transitions of the body whose name stands at a place, in the order of their blocks
abbrev pub transitions_of : Text → ℕ → List FullTransition
transitions_of t place = option_map_or
    (λ (b : Body). flat_map group_transitions (out-Body b).groups) (body_at t place) []

-- CLAUSES OF A TRANSITION

-- what the first of these clauses gives that gives something
abbrev pub given_by : {A : Type 0} → (Clause → Option A) → List Clause → Option A
given_by of cs = slice_get (filter_map of cs) 0

-- the states that a `from` names
abbrev pub states_in : Clause → Option (List Used)
states_in (clause.From states place) = Some states
states_in _ = None

-- the states that the `from` of a transition names, if it has one
abbrev pub from_of : FullTransition → Option (List Used)
from_of x = given_by states_in x.clauses

-- the state that a `to` names, if it does not say `same`
abbrev pub state_in : Clause → Option Used
state_in (clause.To state place) = state
state_in _ = None

-- the next state that a transition names, if it does
abbrev pub to_of : FullTransition → Option Used
to_of x = given_by state_in x.clauses

-- an interaction that is awaited at an interaction point
pub record Awaited : Type 0 where
  pub at : Access
  pub signal : Used

-- what a `when` awaits
abbrev pub awaited_in : Clause → Option Awaited
awaited_in (clause.When at signal place) = Some (record { at = at; signal = signal })
awaited_in _ = None

-- what a transition awaits, if it has a `when`
abbrev pub when_of : FullTransition → Option Awaited
when_of x = given_by awaited_in x.clauses

-- the region of the variables of an `any`
abbrev pub variables_in : Clause → Option ℕ
variables_in (clause.Any names place) = Some place
variables_in _ = None

-- the region of the `any` variables of a transition, if it has some
abbrev pub any_of : FullTransition → Option ℕ
any_of x = given_by variables_in x.clauses

-- the constant of a `priority`
abbrev pub constant_in : Clause → Option Constant
constant_in (clause.Priority value place) = Some value
constant_in _ = None

-- the priority of a transition, if it has one
abbrev pub priority_of : FullTransition → Option Constant
priority_of x = given_by constant_in x.clauses

-- an earlier and a later bound
pub record Delay : Type 0 where
  pub least : Expr
  pub most : Most

-- the bounds of a `delay`
abbrev pub delay_in : Clause → Option Delay
delay_in (clause.Delay least most place) = Some (record { least = least; most = most })
delay_in _ = None

-- the delay of a transition, if it has one
abbrev pub delay_of : FullTransition → Option Delay
delay_of x = given_by delay_in x.clauses

-- what a transition provides: nothing, a condition, or that none of these holds
pub data Condition : Type 0 where
  Always : Condition
  Provided : Expr → Condition
  Otherwise : List Expr → Condition

-- what a `provided` provides, where an `otherwise` refers to these conditions
abbrev pub provided_in : List Expr → Clause → Option Condition
provided_in earlier (clause.Provided condition place) = Some (Provided condition)
provided_in earlier (clause.Otherwise place) = Some (Otherwise earlier)
provided_in earlier _ = None

-- what a transition provides
abbrev pub condition_of : FullTransition → Condition
condition_of x = unwrap_or (given_by (provided_in x.earlier) x.clauses) Always

-- LAWS

-- a clause, as the rules note it
abbrev pub noted : Clause → Given
noted c = record { kind = kind_of c; region = Some (clause_place c) }

-- the context of a transition is the one that the rules go by
abbrev pub ContextsAreThoseOfTheRules : Type 0
ContextsAreThoseOfTheRules = (cs ds : List Clause)
    → rules.with_clauses (map noted cs) ds ≡ map noted (context_after cs ds)

-- a transition has one clause of a kind at most
abbrev pub HasOneOfEach : List Clause → Type 0
HasOneOfEach [] = Unit {0}
HasOneOfEach (c ∷ cs) = (list_any (λ d. is_same_kind d c) cs ≡ false) × HasOneOfEach cs

-- so it is in each context, where it is so in what comes before it
abbrev pub ContextsHaveOneOfEach : Type 0
ContextsHaveOneOfEach = (cs ds : List Clause) → HasOneOfEach cs → HasOneOfEach (context_after cs ds)

-- where the clauses of a transition break no rule on delays, it has no `when` and no `any` if it
-- has a delay (ISO 9074, 7: delay-clause; that it has no `any` is profile)
abbrev pub DelaysStandAlone : Type 0
DelaysStandAlone = (x : FullTransition) (d : Delay) → rules.delay_faults (map noted x.clauses) ≡ []
    → delay_of x ≡ Some d → (when_of x ≡ None) × (any_of x ≡ None)
