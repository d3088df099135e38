-- Each `attach` of a specification names a child of the instance that executes it (ISO 9074,
-- attach-statement and all-statement).
use Rattle.std.specs.Prelude.{◌≡◌, ◌⊎◌, ℕ, List, [], ◌∷◌, Some}
use Rattle.est_syntax.specs.declared.body.Block.{out-Block}
use Rattle.est_syntax.specs.declared.specification.Spec.{Spec}
use Rattle.mean_blocks.specs.TextByPlace.{Text}
use Rattle.est_meaning.specs.ClauseContexts.{FullTransition, transitions_of}
use Rattle.est_meaning.specs.TransitionChoices.{numbered}
use Rattle.law_runs.specs.AttachTargets.{BlockTargets, BegunTargets}
use Rattle.law_runs.specs.NamesOfAlls.{IsOfAll}

-- a place is one of these
abbrev pub IsPlaceOf : List ℕ → ℕ → Type 0
IsPlaceOf [] p = ⊥
IsPlaceOf (q ∷ qs) p = (q ≡ p) ⊎ IsPlaceOf qs p

-- a place is one of these, or none of those that have a property
abbrev pub IsAroundOrNone : (ℕ → Type 0) → List ℕ → ℕ → Type 0
IsAroundOrNone X w p = IsPlaceOf w p ⊎ (X p → ⊥)

-- at a place stands the name of one of these `all`s, or of none of the specification
abbrev pub IsInside : Spec → List ℕ → ℕ → Type 0
IsInside s w p = IsAroundOrNone (IsOfAll s) w p

-- An `attach` of a specification names a child by the name of an `all` around it, or by a name that
-- is none of an `all`, as that of a module variable.
pub record TargetsStandInside (t : Text) : Type 0 where
  pub begun : BegunTargets t (IsOfAll t.spec) (IsInside t.spec)
  pub transitions : (body n : ℕ) (x : FullTransition)
      → numbered (transitions_of t body) n ≡ Some x
      → BlockTargets t.outline (IsOfAll t.spec) (IsInside t.spec) (out-Block x.block).statements
