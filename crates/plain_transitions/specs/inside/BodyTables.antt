-- The transitions of bodies in tables.
use Rattle.std.specs.Prelude.{◌≡◌, ◌<◌, ◌^◌, ℕ, nat_eq, Bool, false, List, [], map, length}
use Rattle.std.specs.Prelude.{Option, Some, None, find}
use Rattle.std.specs.Borrow.{Bor}
use Rattle.std.specs.List.{AllZip, filter_map}
use Rattle.std.specs.Map.{lookup}
use Rattle.std.specs.Option.{option_map, option_map_or, option_or}
use Rattle.est_syntax.specs.declared.body.Body.{Body, out-Body}
use Rattle.est_syntax.specs.declared.body.Part.{Part}
use Rattle.est_meaning.specs.mean_blocks.TextByPlace.{Text, body_in, body_at}
use Rattle.est_meaning.specs.ClauseContexts.{FullTransition, transitions_of, from_of}
use Rattle.est_meaning.specs.GuardParts.{fits_state}
use Rattle.est_meaning.specs.TransitionChoices.{numbered}
use Rattle.plain_transitions.specs.declared.fitting.Fitting.{Fitting}
use Rattle.plain_transitions.specs.declared.written.Written.{Written}
use Rattle.plain_transitions.specs.FittingTransitions.{AtState, IsNextFitting, are_timed}
use Rattle.plain_transitions.specs.WrittenTransitions.{IsWritten}
use Rattle.plain_transitions.specs.inside.KeyedNumbers.{Ascend, IsLeastAbove, listed, smaller}
use Rattle.plain_transitions.specs.inside.StateNumbers.{AreByStates}

-- TABLES

-- a body of a text, by the place of its name
pub record Sited : Type 0 where
  pub text : Text
  pub place : ℕ

-- the transitions of a body are written, and are found by the states that they fit; it is known
-- whether one has a delay
pub record IsTable (s : Sited) (ws : List Written) (f : Fitting) (timed : Bool) : Type 0 where
  pub written : AllZip (IsWritten s.text.outline) (transitions_of s.text s.place) ws
  pub few : length ws < 2 ^ 32
  pub fitting : AreByStates ws (length ws) f
  pub delays : timed ≡ are_timed (transitions_of s.text s.place)

-- the numbers of the transitions that name a state
abbrev pub naming : Fitting → Option ℕ → List ℕ
naming f None = []
naming f (Some state) = listed f.named state

-- the transitions of a body are written, and the numbers of those that fit a state ascend, of those
-- that fit each and of those that name it; it is known whether one has a delay
pub record AreFitting (s : AtState) (ws : List Written) (each named : List ℕ) (timed : Bool)
    : Type 0 where
  pub written : AllZip (IsWritten s.text.outline) (transitions_of s.text s.body) ws
  pub ascend_each : Ascend each
  pub ascend_named : Ascend named
  pub next : (after : ℕ) (q r : Option ℕ) → IsLeastAbove each after q
      → IsLeastAbove named after r → IsNextFitting s.text s.body s.state after (smaller q r)
  pub delays : timed ≡ are_timed (transitions_of s.text s.body)

-- whether the transition of a number fits a state
abbrev pub fits_at : Sited → Option ℕ → ℕ → Bool
fits_at s state n = option_map_or
    (λ (x : FullTransition). fits_state s.text.outline (from_of x) state)
    (numbered (transitions_of s.text s.place) n) false

-- TABLES OF BODIES

-- the bodies that are referred to
abbrev pub bodies_held : List (Bor Body) → List Body
bodies_held bs = map (λ (b : Bor Body). b.now) bs

-- the bodies among parts
abbrev pub bodies_in : List Part → List Body
bodies_in ps = filter_map body_in ps

-- the first body whose name stands at a place
abbrev pub first_at : List Body → ℕ → Option Body
first_at bs place = find (λ (b : Body). nat_eq place (out-Body b).name.place) bs

-- what stands under a place where there is a body
abbrev pub site : Text → ℕ → Option Body → Option Sited
site t place b = option_map (λ (x : Body). record { text = t; place = place }) b

-- the tables of these bodies of a text, after others
abbrev pub AreTabled : Text → List Body → List (ℕ × Sited) → List (ℕ × Sited) → Type 0
AreTabled t bs old new = (place : ℕ) → lookup (nat_eq place) new
    ≡ option_or (lookup (nat_eq place) old) (site t place (first_at bs place))

-- the tables of all bodies of a text
abbrev pub HasTables : Text → List (ℕ × Sited) → Type 0
HasTables t es = (place : ℕ) → lookup (nat_eq place) es ≡ site t place (body_at t place)
