-- What the program answers of the guard of a choice.
use Rattle.std.specs.Prelude.{◌≡◌, ℕ, Bool, true, false, List, [], Option, Some, None}
use Rattle.std.specs.Prelude.{if◌then◌else◌}
use Rattle.std.specs.List.{list_any}
use Rattle.est_meaning.specs.mean_blocks.declared.situation.InteractionPoint.{InteractionPoint}
use Rattle.est_meaning.specs.mean_blocks.TextByPlace.{Text}
use Rattle.est_meaning.specs.mean_blocks.GlobalSituation.{Frame, Situation}
use Rattle.est_meaning.specs.ClauseContexts.{when_of}
use Rattle.est_meaning.specs.TransitionChoices.{Choice}
use Rattle.est_meaning.specs.GuardParts.{is_from, is_limit, seen_by, subscripts, view_of}
use Rattle.est_meaning.specs.TransitionSelection.{passes_limit, is_enabled_choice}
use Rattle.est_meaning.specs.TransitionSelection.{is_offered_choice, is_due_choice}
use Rattle.est_meaning.specs.FiringSteps.{taking_point}
use Rattle.plain_transitions.specs.WrittenTransitions.{IsWritten}
use Rattle.plain_clauses.specs.declared.candidate.Candidate.{Candidate}
use Rattle.plain_clauses.specs.declared.sights.Sight.{Sight}
use Rattle.plain_clauses.specs.declared.verdict.Verdict.{Verdict}

-- a choice is that of a candidate, with these values of its `any` variables
pub record IsOf (t : Text) (x : Candidate) (chosen : Frame) (c : Choice) : Type 0 where
  pub instance : c.row.number ≡ x.instance
  pub state : c.row.state ≡ x.state
  pub number : c.number ≡ x.number
  pub transition : IsWritten t.outline c.transition x.transition.now
  pub chosen_is : c.chosen ≡ chosen

-- the condition and the bounds of a choice see these frames, if its `from` and its `when` hold
abbrev pub IsView : ℕ → Text → Situation → Choice → List Frame → Bool → Type 0
IsView limit t s c frames true = view_of limit t s c ≡ Some (seen_by t s c frames)
IsView limit t s c frames false = view_of limit t s c ≡ None

-- the interaction point at which a choice takes an interaction, where its `from` and `when` hold
abbrev pub IsTaking : ℕ → Text → Situation → Choice → Option InteractionPoint → Bool → Type 0
IsTaking limit t s c taken true = taken ≡ taking_point limit t s c
IsTaking limit t s c taken false = Unit {0}

-- whether the `from` and the `when` of a choice hold, and what it then sees and takes
pub record IsSight (limit : ℕ) (t : Text) (s : Situation) (c : Choice) (frames : List Frame)
    (x : Sight) : Type 0 where
  pub view : IsView limit t s c frames x.holds
  pub taken : IsTaking limit t s c x.taken x.holds
  pub passes : x.passes
      ≡ list_any is_limit
      (if is_from t c then subscripts limit t s c (when_of c.transition) else [])

-- what a guard says whose `when` fails, though no part of it passes its limit
abbrev pub says_nothing : Verdict
says_nothing = record { passes = false; enabled = false; offered = false; due = false }

-- what the guard of a choice says
pub record IsVerdict (limit : ℕ) (t : Text) (s : Situation) (c : Choice) (v : Verdict)
    : Type 0 where
  pub passes : v.passes ≡ passes_limit limit t s c
  pub enabled : v.enabled ≡ is_enabled_choice limit t s c
  pub offered : v.offered ≡ is_offered_choice limit t s c
  pub due : v.due ≡ is_due_choice limit t s c
