-- The numbers of transitions by the states that they fit.
use Rattle.std.specs.Prelude.{◌≡◌, ℕ, nat_eq, Bool, true, false, List, [], ◌∷◌, ◌++◌, map, Option}
use Rattle.std.specs.Prelude.{Some, None, ◌||◌, if◌then◌else◌}
use Rattle.std.specs.List.{filter, list_any}
use Rattle.std.specs.Option.{option_map_or}
use Rattle.est_meaning.specs.TransitionChoices.{numbered}
use Rattle.plain_transitions.specs.declared.fitting.Fitting.{Fitting}
use Rattle.plain_transitions.specs.declared.written.Written.{Written}
use Rattle.plain_transitions.specs.inside.KeyedNumbers.{listed, AreNumbers}

-- the states that a transition names
abbrev pub names_in : Option (List ℕ) → List ℕ
names_in None = []
names_in (Some ss) = ss

-- whether a transition names no states, and so fits each
abbrev pub fits_each : Option (List ℕ) → Bool
fits_each None = true
fits_each (Some ss) = false

-- whether a transition names a state
abbrev pub names_state : ℕ → Option (List ℕ) → Bool
names_state state ss = list_any (nat_eq state) (names_in ss)

-- whether a transition fits a state
abbrev pub fits_by : Option ℕ → Option (List ℕ) → Bool
fits_by None ss = fits_each ss
fits_by (Some state) ss = fits_each ss || names_state state ss

-- whether the states of the transition of a number pass a test
abbrev pub passes : (Option (List ℕ) → Bool) → List Written → ℕ → Bool
passes test ws n = option_map_or (λ (w : Written). test w.states) (numbered ws n) false

-- as often as a list of states has a state, the number
abbrev pub as_often : ℕ → List ℕ → ℕ → List ℕ
as_often number ss state = map (λ (s : ℕ). number) (filter (nat_eq state) ss)

-- a number is put under the states that its transition names
abbrev pub ArePut : ℕ → List ℕ → List (ℕ × List ℕ) → List (ℕ × List ℕ) → Type 0
ArePut number ss old new =
    (state : ℕ) → listed new state ≡ listed old state ++ as_often number ss state

-- the number of a transition more
pub record IsPut (number : ℕ) (ss : Option (List ℕ)) (old new : Fitting) : Type 0 where
  pub each : new.each ≡ old.each ++ (if fits_each ss then number ∷ [] else [])
  pub named : ArePut number (names_in ss) old.named new.named

-- of the first transitions, the numbers by the states that they fit
pub record AreByStates (ws : List Written) (last : ℕ) (f : Fitting) : Type 0 where
  pub each : AreNumbers (passes fits_each ws) last f.each
  pub named : (state : ℕ) → AreNumbers (passes (names_state state) ws) last (listed f.named state)
