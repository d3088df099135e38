-- What comes of the parts of guards, as the program holds it.
use Rattle.std.specs.Prelude.{◌≡◌, ℕ, ℤ, pos, int_le, nat_eq, Bool, true, false, not, List, []}
use Rattle.std.specs.Prelude.{◌∷◌, Option, Some, None, Result, Ok, Err, option_and_then}
use Rattle.std.specs.List.{list_any}
use Rattle.std.specs.Option.{option_map, option_map_or}
use Rattle.est_values.specs.declared.value.Value.{Value}
use Rattle.est_meaning.specs.mean_blocks.declared.fault.BlockFault.{BlockFault}
use Rattle.est_meaning.specs.mean_blocks.declared.stop.Stop.{Stop}
use Rattle.est_meaning.specs.mean_blocks.AnswersOfCalls.{Answers}
use Rattle.est_meaning.specs.mean_blocks.OrdinalOperators.{is_true}
use Rattle.est_meaning.specs.mean_blocks.Outcome.{Outcome, Done, Fault, Limit, onward}
use Rattle.est_meaning.specs.mean_blocks.ValueOperators.{ordinal}
use Rattle.est_meaning.specs.GuardParts.{Part}
use Rattle.plain_clauses.specs.declared.evaluated.Evaluated.{Evaluated}
use Rattle.plain_clauses.specs.declared.evaluated.Evaluated.TheVariants as part

-- what is held of a part
abbrev pub held : Part → Evaluated
held (Done z n) = part.Ordinal z
held (Fault f) = part.Fault
held Limit = part.Limit

-- what is held of an ordinal or its fault
abbrev pub held_by : Result ℤ BlockFault → Evaluated
held_by (Ok z) = part.Ordinal z
held_by (Err f) = part.Fault

-- the same of what is made of an ordinal, if there is one
abbrev pub held_onward : Evaluated → (ℤ → Result ℤ BlockFault) → Evaluated
held_onward (part.Ordinal z) go = held_by (go z)
held_onward part.Fault go = part.Fault
held_onward part.Limit go = part.Limit

-- what is held of the ordinal that the answer of an evaluation is
abbrev pub IsOrdinalOf : Result Value Stop → Evaluated → Type 0
IsOrdinalOf r e = (o : Outcome ℕ Value) (n : ℕ) → Answers o r n → e ≡ held (onward o ordinal)

-- whether a part passed its limit
abbrev pub is_past : Evaluated → Bool
is_past part.Limit = true
is_past _ = false

-- its ordinal, if it has one
abbrev pub ordinal_held : Evaluated → Option ℤ
ordinal_held (part.Ordinal z) = Some z
ordinal_held _ = None

-- the ordinals of parts, if each has one
abbrev pub ordinals_held : List Evaluated → Option (List ℤ)
ordinals_held [] = Some []
ordinals_held (x ∷ xs) =
    option_and_then (λ z. option_map (λ zs. z ∷ zs) (ordinals_held xs)) (ordinal_held x)

-- whether a condition holds
abbrev pub is_held_met : Evaluated → Bool
is_held_met (part.Ordinal z) = is_true z
is_held_met _ = false

-- whether a condition is false or has a fault
abbrev pub is_held_unmet : Evaluated → Bool
is_held_unmet (part.Ordinal z) = not (is_true z)
is_held_unmet part.Fault = true
is_held_unmet part.Limit = false

-- whether a bound is not above an age, if that is known
abbrev pub is_held_reached : Evaluated → Option ℕ → Bool
is_held_reached e None = false
is_held_reached e (Some age) = option_map_or (λ z. int_le z (pos age)) (ordinal_held e) false

-- whether a state is one of those that a `from` stands for, if there is a `from`
abbrev pub fits_places : Option (List ℕ) → Option ℕ → Bool
fits_places None state = true
fits_places (Some ps) None = false
fits_places (Some ps) (Some state) = list_any (nat_eq state) ps
