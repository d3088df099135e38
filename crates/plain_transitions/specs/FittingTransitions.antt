-- The transitions of a body: those whose `from` fits a state, and whether one has a delay.
use Rattle.std.specs.Prelude.{◌≡◌, ◌<◌, ℕ, Bool, true, List, Option, Some, None, is_some}
use Rattle.std.specs.Borrow.{Bor}
use Rattle.std.specs.List.{list_any}
use Rattle.est_meaning.specs.mean_blocks.TextByPlace.{Text}
use Rattle.est_meaning.specs.ClauseContexts.{FullTransition, transitions_of, from_of, delay_of}
use Rattle.est_meaning.specs.TransitionChoices.{numbered}
use Rattle.est_meaning.specs.GuardParts.{fits_state}
use Rattle.plain_transitions.specs.declared.written.Written.{Written}
use Rattle.plain_transitions.specs.WrittenTransitions.{IsWritten}

-- a body of a text, and a state that an instance of it may be in
pub record AtState : Type 0 where
  pub text : Text
  pub body : ℕ
  pub state : Option ℕ

-- the transition of a body that has a number, as it is held, or none where it has not so many
abbrev pub IsTransition : Text → ℕ → ℕ → Option (Bor Written) → Type 0
IsTransition t body number (Some w) =
    (x : FullTransition) × (numbered (transitions_of t body) number ≡ Some x)
    × IsWritten t.outline x w.now
IsTransition t body number None = numbered (transitions_of t body) number ≡ None

-- the `from` of a transition of a body fits a state (ISO 9074, 7: from-clause)
pub record IsFitting (t : Text) (body : ℕ) (state : Option ℕ) (number : ℕ) : Type 0 where
  pub transition : FullTransition
  pub is : numbered (transitions_of t body) number ≡ Some transition
  pub fits : fits_state t.outline (from_of transition) state ≡ true

-- the first transition after one of which that holds, if there is one
abbrev pub IsNextFitting : Text → ℕ → Option ℕ → ℕ → Option ℕ → Type 0
IsNextFitting t body state after (Some n) = (after < n) × IsFitting t body state n
    × ((m : ℕ) → after < m → m < n → IsFitting t body state m → ⊥)
IsNextFitting t body state after None =
    (m : ℕ) → after < m → IsFitting t body state m → ⊥

-- whether one of these transitions has a delay
abbrev pub are_timed : List FullTransition → Bool
are_timed xs = list_any (λ (x : FullTransition). is_some (delay_of x)) xs

-- no transition of a body has a delay
pub record AreUntimed (t : Text) (body : ℕ) : Type 0 where
  pub full : (number : ℕ) (x : FullTransition)
      → numbered (transitions_of t body) number ≡ Some x → delay_of x ≡ None
  pub held : (number : ℕ) (w : Bor Written) → IsTransition t body number (Some w)
      → w.now.delay ≡ None
