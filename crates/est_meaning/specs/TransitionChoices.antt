-- Choices of transitions (ISO 9074, 7: any-clause).
use Rattle.std.specs.Prelude.{ℕ, zero, suc, ℤ, List, [], ◌∷◌, map, slice_get, Bool, false}
use Rattle.std.specs.Prelude.{Option, None, option_and_then}
use Rattle.std.specs.List.{filter_map}
use Rattle.std.specs.Option.{option_map, option_map_or}
use Rattle.est_values.specs.declared.value.Value.{Value}
use Rattle.est_values.specs.declared.value.Value.TheVariants as value
use Rattle.est_values.specs.OrdinalTuples.{ordinal_tuples}
use Rattle.mean_blocks.specs.rule_scope.declared.declaration.Sort.TheVariants as sort
use Rattle.mean_blocks.specs.rule_scope.Outline.{Outline}
use Rattle.mean_blocks.specs.declared.frame.Slot.TheVariants as slot
use Rattle.mean_blocks.specs.declared.situation.Row.{Row}
use Rattle.mean_blocks.specs.TextByPlace.{Text}
use Rattle.mean_blocks.specs.GlobalSituation.{Frame, Situation, row_of}
use Rattle.mean_blocks.specs.NamesInRuns.{kind_at, places_of}
use Rattle.mean_blocks.specs.FunctionCalls.{bound}
use Rattle.est_meaning.specs.declared.firing.Firing.{Firing}
use Rattle.est_meaning.specs.ClauseContexts.{FullTransition, transitions_of, any_of}

-- names with their values
abbrev pub bound_all : List ℕ → List Value → Frame
bound_all (p ∷ ps) (v ∷ vs) = bound p (slot.Value v) ∷ bound_all ps vs
bound_all _ _ = []

-- the item of a list that has this number, counted from 1
abbrev pub numbered : {A : Type 0} → List A → ℕ → Option A
numbered xs zero = None
numbered xs (suc n) = slice_get xs n

-- the `any` variables of a transition, in the order of the text
abbrev pub any_places : Outline → FullTransition → List ℕ
any_places o x = option_map_or (places_of o sort.Variable) (any_of x) []

-- the tuples of their values, ascending; where there are no variables there is one
abbrev pub any_tuples : Outline → FullTransition → List (List ℤ)
any_tuples o x = ordinal_tuples (filter_map (kind_at o) (any_places o x))

-- the variables with a tuple of values
abbrev pub any_frame : Outline → FullTransition → List ℤ → Frame
any_frame o x zs = bound_all (any_places o x) (map (λ (z : ℤ). value.Ordinal z) zs)

-- A choice: a transition of a living instance, with its number in the body, and with values of its
-- `any` variables.
pub record Choice : Type 0 where
  pub row : Row
  pub number : ℕ
  pub transition : FullTransition
  pub chosen : Frame

-- the choice of a transition that has a number, if it has so many: transition n of the row
abbrev pub choice_by : Text → Row → ℕ → ℕ → FullTransition → Option Choice
choice_by t r n number x = option_map
    (λ zs. record { row = r; number = n; transition = x; chosen = any_frame t.outline x zs })
    (numbered (any_tuples t.outline x) number)

-- the choice that a firing names of an instance, if the instance has it
abbrev pub choice_in : Text → Firing → Row → Option Choice
choice_in t f r = option_and_then (choice_by t r f.transition f.choice)
    (numbered (transitions_of t r.body) f.transition)

-- the choice that a firing names, if its instance lives and has it
abbrev pub choice_of : Text → Situation → Firing → Option Choice
choice_of t s f = option_and_then (choice_in t f) (row_of s f.instance)

-- whether the choice that a firing names passes a test
abbrev pub is_choice : (Choice → Bool) → Text → Situation → Firing → Bool
is_choice test t s f = option_map_or test (choice_of t s f) false
