-- Which transitions may fire (ISO 9074, 5: selection of transitions).
use Rattle.std.specs.Prelude.{◌≡◌, ℕ, ◌-◌, ℤ, int_lt, Bool, true, false, ◌&&◌, Option, Some}
use Rattle.std.specs.Prelude.{None, IsTrue, option_and_then}
use Rattle.std.specs.List.{list_any}
use Rattle.std.specs.Option.{option_map, option_map_or}
use Rattle.mean_blocks.specs.rule_kinds.declared.value.Valued.{Valued}
use Rattle.mean_blocks.specs.rule_kinds.Constants.{constant_value}
use Rattle.mean_blocks.specs.rule_scope.Outline.{Outline}
use Rattle.mean_blocks.specs.declared.situation.Row.{Row}
use Rattle.mean_blocks.specs.TextByPlace.{Text}
use Rattle.mean_blocks.specs.GlobalSituation.{Situation, Clocked, row_of}
use Rattle.mean_blocks.specs.WorkingState.{View}
use Rattle.est_meaning.specs.declared.firing.Firing.{Firing}
use Rattle.est_meaning.specs.ClauseContexts.{FullTransition, Delay, delay_of, condition_of}
use Rattle.est_meaning.specs.ClauseContexts.{priority_of}
use Rattle.est_meaning.specs.TransitionChoices.{Choice, choice_of, is_choice}
use Rattle.est_meaning.specs.GuardParts.{is_limit, view_of, is_provided, has_bounds}
use Rattle.est_meaning.specs.GuardParts.{is_least_reached, is_most_reached, parts_of}

-- SETTLED SITUATIONS

-- whether a part of the guard of a choice passes its limit
abbrev pub passes_limit : ℕ → Text → Situation → Choice → Bool
passes_limit limit t s c = list_any is_limit (parts_of limit t s c)

-- no part of the guard of any choice passes its limit (profile)
unfoldable pub IsSettled : ℕ → Text → Situation → Type 0
IsSettled limit t s = (f : Firing) → IsTrue (is_choice (passes_limit limit t s) t s f) → ⊥

-- ENABLED, OFFERED AND DUE

-- the transition of a choice, by its numbers
abbrev pub clocked : Choice → Clocked
clocked c = record { instance = c.row.number; transition = c.number }

-- for how long a transition has been enabled, if it has a stamp
abbrev pub age_of : Situation → Clocked → Option ℕ
age_of s k = option_map (λ (since : ℕ). s.clock - since) (s.stamps k)

-- whether a delay, if there is one, is reached at an age, if that is known
abbrev pub is_waited : (Delay → ℕ → Bool) → Option Delay → Option ℕ → Bool
is_waited reached None age = true
is_waited reached (Some d) None = false
is_waited reached (Some d) (Some age) = reached d age

-- whether what a choice provides holds, and the bounds of its delay have values
abbrev pub holds : ℕ → Choice → View → Bool
holds limit c v = is_provided limit (condition_of c.transition) v
    && has_bounds limit (delay_of c.transition) v

-- whether the earlier bound of its delay is reached too
abbrev pub holds_least : ℕ → Situation → Choice → View → Bool
holds_least limit s c v = holds limit c v
    && is_waited (λ d age. is_least_reached limit d age v) (delay_of c.transition)
    (age_of s (clocked c))

-- whether the later one is reached too
abbrev pub holds_most : ℕ → Situation → Choice → View → Bool
holds_most limit s c v = holds_least limit s c v
    && is_waited (λ d age. is_most_reached limit d age v) (delay_of c.transition)
    (age_of s (clocked c))

-- whether all clauses of a choice hold, but for the time that its delay asks for
abbrev pub is_enabled_choice : ℕ → Text → Situation → Choice → Bool
is_enabled_choice limit t s c = option_map_or (holds limit c) (view_of limit t s c) false

-- whether they hold, and the earlier bound of the delay is reached
abbrev pub is_offered_choice : ℕ → Text → Situation → Choice → Bool
is_offered_choice limit t s c = option_map_or (holds_least limit s c) (view_of limit t s c) false

-- whether they hold, and both bounds are reached
abbrev pub is_due_choice : ℕ → Text → Situation → Choice → Bool
is_due_choice limit t s c = option_map_or (holds_most limit s c) (view_of limit t s c) false

-- a firing whose choice is enabled (ISO 9074, 5: enabled transitions)
abbrev pub is_enabled : ℕ → Text → Situation → Firing → Bool
is_enabled limit t s f = is_choice (is_enabled_choice limit t s) t s f

-- a firing that is offered (ISO 9074, 7: delay-clause)
abbrev pub is_offered : ℕ → Text → Situation → Firing → Bool
is_offered limit t s f = is_choice (is_offered_choice limit t s) t s f

-- a firing that is due (ISO 9074, 7: delay-clause)
abbrev pub is_due : ℕ → Text → Situation → Firing → Bool
is_due limit t s f = is_choice (is_due_choice limit t s) t s f

-- PRIORITY AND PRECEDENCE

-- whether a priority goes before another: a smaller number before a greater one, and each number
-- before none (ISO 9074, 7: priority-clause)
abbrev pub outranks : Option ℤ → Option ℤ → Bool
outranks None other = false
outranks (Some a) None = true
outranks (Some a) (Some b) = int_lt a b

-- the number of the priority of a transition, if it has one
abbrev pub priority_in : Outline → FullTransition → Option ℤ
priority_in o x =
    option_map (λ (v : Valued). v.ordinal) (option_and_then (constant_value o) (priority_of x))

-- the number of the priority of a firing, if it has one
abbrev pub priority_at : Text → Situation → Firing → Option ℤ
priority_at t s f = option_and_then (λ (c : Choice). priority_in t.outline c.transition)
    (choice_of t s f)

-- an instance descends from another (ISO 9074, 5: module instances)
pub data IsAncestor (s : Situation) (ancestor : ℕ) : ℕ → Type 0 where
  parent : (number : ℕ) (row : Row) → row_of s number ≡ Some row → row.parent ≡ ancestor
      → IsAncestor s ancestor number
  beyond : (number : ℕ) (row : Row) → row_of s number ≡ Some row → IsAncestor s ancestor row.parent
      → IsAncestor s ancestor number

-- In a settled situation a firing that is offered may be tried, unless one that is due goes before
-- it: one of the same instance with a higher priority, or any of an instance above (ISO 9074, 5:
-- selection of transitions; that what is offered and not due stops nothing is profile).
pub record MayFire (limit : ℕ) (t : Text) (s : Situation) (f : Firing) : Type 0 where
  pub settled : IsSettled limit t s
  pub offered : IsTrue (is_offered limit t s f)
  pub unranked : (g : Firing) → g.instance ≡ f.instance → IsTrue (is_due limit t s g)
      → IsTrue (outranks (priority_at t s g) (priority_at t s f)) → ⊥
  pub unpreceded : (g : Firing) → IsAncestor s g.instance f.instance
      → IsTrue (is_due limit t s g) → ⊥

-- the firing may be tried
unfoldable pub IsPossible : ℕ → Text → Situation → Firing → Type 0
IsPossible limit t s f = MayFire limit t s f
