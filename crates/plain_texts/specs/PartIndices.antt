-- The routines and the bodies among parts of a text, by the places of their names.
use Rattle.std.specs.Prelude.{◌≡◌, ℕ, Bool, nat_eq, List, Option, find}
use Rattle.std.specs.Borrow.{Bor}
use Rattle.std.specs.List.{filter_map}
use Rattle.std.specs.Map.{lookup}
use Rattle.std.specs.Option.{option_copied, option_or}
use Rattle.est_syntax.specs.declared.body.Body.{Body, out-Body}
use Rattle.est_syntax.specs.declared.body.Part.{Part}
use Rattle.est_syntax.specs.declared.routine.Routine.{Routine, out-Routine}
use Rattle.plain_declared.specs.mean_blocks.TextByPlace.{routine_in, body_in}
use Rattle.plain_texts.specs.declared.indices.Index.{Index}

-- what is found at a place
abbrev pub found : {T : Type 0} → List (ℕ × Bor T) → ℕ → Option T
found entries place = option_copied (lookup (nat_eq place) entries)

-- whether the name of a routine, or of a body, stands at a place
abbrev pub is_routine : ℕ → Routine → Bool
is_routine place r = nat_eq place (out-Routine r).name.place

abbrev pub is_body : ℕ → Body → Bool
is_body place b = nat_eq place (out-Body b).name.place

-- the first routine, or body, of parts whose name stands at a place
abbrev pub first_routine : List Part → ℕ → Option Routine
first_routine ps place = find (is_routine place) (filter_map routine_in ps)

abbrev pub first_body : List Part → ℕ → Option Body
first_body ps place = find (is_body place) (filter_map body_in ps)

-- an index with these parts more: at each place the first one stays
pub record IsNoted (parts : List Part) (old new : Index) : Type 0 where
  pub routines : (place : ℕ) → found new.routines.entries place
      ≡ option_or (found old.routines.entries place) (first_routine parts place)
  pub bodies : (place : ℕ) → found new.bodies.entries place
      ≡ option_or (found old.bodies.entries place) (first_body parts place)

-- the index of these parts
pub record IsIndex (parts : List Part) (index : Index) : Type 0 where
  pub routines : (place : ℕ) → found index.routines.entries place ≡ first_routine parts place
  pub bodies : (place : ℕ) → found index.bodies.entries place ≡ first_body parts place
