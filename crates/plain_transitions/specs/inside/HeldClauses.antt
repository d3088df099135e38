-- Clauses in contexts, as the program holds them.
use Rattle.std.specs.Prelude.{ℕ, not, List, [], map, Option, Some, None, Bool, ◌&&◌, nat_eq}
use Rattle.std.specs.Prelude.{nat_lt}
use Rattle.std.specs.Borrow.{Bor}
use Rattle.std.specs.Cmp.Lexicographic.{pointwise}
use Rattle.std.specs.List.{filter, filter_map, flat_map, prefix_len}
use Rattle.std.specs.Option.{option_map}
use Rattle.est_syntax.specs.declared.body.Block.{Block}
use Rattle.est_syntax.specs.declared.expression.Expr.{Expr}
use Rattle.est_syntax.specs.declared.transition.Clause.{Clause}
use Rattle.est_syntax.specs.declared.transition.Clause.TheVariants as clause
use Rattle.est_syntax.specs.Clauses.{clause_place}
use Rattle.est_meaning.specs.ClauseContexts.{GivenClause, FullTransition, is_same_kind, before}
use Rattle.est_meaning.specs.ClauseContexts.{condition_in}
use Rattle.plain_transitions.specs.declared.conditions.Given.{Given}

-- CONTEXTS

-- the clauses that are referred to
abbrev pub held : List (Bor Clause) → List Clause
held cs = map (λ (c : Bor Clause). c.now) cs

-- how many clauses of a context stand before the one that is of this kind
abbrev pub count_before : Clause → List (Bor Clause) → ℕ
count_before c cs = prefix_len (λ (d : Bor Clause). not (is_same_kind c d.now)) cs

-- the places of the clauses of a context before the one that is of this kind
abbrev pub places_before : Clause → List Clause → List ℕ
places_before c cs = map clause_place (before c cs)

-- a clause, if it says what is provided
abbrev pub ruling_in : Clause → Option Clause
ruling_in (clause.Provided condition place) = Some (clause.Provided condition place)
ruling_in (clause.Otherwise place) = Some (clause.Otherwise place)
ruling_in _ = None

-- CONDITIONS

-- a condition where it is given, with the places of the clauses of the context before it
pub record Condition : Type 0 where
  pub under : List ℕ
  pub place : ℕ
  pub condition : Expr

-- the condition that a given clause has
abbrev pub given_condition : GivenClause → Option Condition
given_condition g = option_map (λ (e : Expr). record {
  under = map clause_place g.under;
  place = clause_place g.clause;
  condition = e;
}) (condition_in g.clause)

-- the conditions of given clauses
abbrev pub given_conditions : List GivenClause → List Condition
given_conditions gs = filter_map given_condition gs

-- conditions as they are held
abbrev pub condition_of : Given → Condition
condition_of g =
    record { under = g.under.items; place = g.place; condition = g.condition.now }

abbrev pub conditions_of : List Given → List Condition
conditions_of gs = map condition_of gs

-- whether a condition is given before a place, under the clauses at these places
abbrev pub is_before : List ℕ → ℕ → Condition → Bool
is_before under place c = nat_lt c.place place && pointwise nat_eq under c.under

-- those of some conditions
abbrev pub conditions_before : List ℕ → ℕ → List Condition → List Expr
conditions_before under place cs =
    map (λ (c : Condition). c.condition) (filter (is_before under place) cs)

-- the conditions to which a clause of a context refers
abbrev pub referred_by : List Condition → List Clause → Clause → List Expr
referred_by gs cs (clause.Otherwise place) =
    conditions_before (places_before (clause.Otherwise place) cs) place gs
referred_by gs cs _ = []

-- a transition with the clauses of a context, where these conditions are given in its group
abbrev pub written_of : List Condition → List Clause → Block → FullTransition
written_of gs cs b = record {
  clauses = cs;
  earlier = flat_map (referred_by gs cs) cs;
  block = b;
}
