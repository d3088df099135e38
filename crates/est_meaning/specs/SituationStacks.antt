-- What a world says of itself.
use Rattle.std.specs.Prelude.{◌≡◌, ℕ, List, [], ◌∷◌}
use Rattle.est_syntax.specs.declared.specification.Spec.{Spec}
use Rattle.mean_blocks.specs.Outcome.{Outcome, Done, Fault, Limit}
use Rattle.mean_blocks.specs.TextByPlace.{text_of}
use Rattle.mean_blocks.specs.GlobalSituation.{Situation}
use Rattle.est_meaning.specs.declared.event.Event.{Event}
use Rattle.est_meaning.specs.FiringSteps.{start_of}
use Rattle.est_meaning.specs.declared.answers.Fired.{Fired}
use Rattle.est_meaning.specs.declared.answers.Fired.TheVariants as fired
use Rattle.est_meaning.specs.declared.answers.Started.{Started}
use Rattle.est_meaning.specs.declared.answers.Started.TheVariants as started

-- the situations that a world can go back to: the current one, and those below it, the latest first
pub record Stack : Type 0 where
  pub now : Situation
  pub below : List Situation

-- a situation on top of a stack
abbrev pub pushed : Situation → Stack → Stack
pushed s stack = record { now = s; below = stack.now ∷ stack.below }

-- the current situation alone
abbrev pub alone : Stack → Stack
alone stack = record { now = stack.now; below = [] }

-- a call changes neither of which specifications a world speaks nor its limit
pub record Keeps {W : Type 0} (speaks : W → Spec → Type 0) (limit : W → ℕ)
    (old new : W) : Type 0 where
  pub forward : (spec : Spec) → speaks old spec → speaks new spec
  pub backward : (spec : Spec) → speaks new spec → speaks old spec
  pub limit_is : limit new ≡ limit old

-- the stack is as it was, for each specification and in every part
abbrev pub SameStack : {W : Type 0} → (W → Spec → Type 0) → (W → Spec → Stack) → W → W → Type 0
SameStack speaks stack old new = (spec : Spec) → speaks old spec → stack new spec ≡ stack old spec

-- what a firing answers, with its events and the stack that it leaves
abbrev pub FiredAs : Outcome Situation (List Event) → Fired → List Event → Stack → Stack → Type 0
FiredAs (Done outs s) fired.Done events old new = (events ≡ outs) × (new ≡ pushed s old)
FiredAs (Done outs s) (fired.Fault g) events old new = ⊥
FiredAs (Done outs s) fired.Limit events old new = ⊥
FiredAs (Fault f) fired.Done events old new = ⊥
FiredAs (Fault f) (fired.Fault g) events old new = (f ≡ g) × (events ≡ []) × (new ≡ old)
FiredAs (Fault f) fired.Limit events old new = ⊥
FiredAs Limit fired.Done events old new = ⊥
FiredAs Limit (fired.Fault g) events old new = ⊥
FiredAs Limit fired.Limit events old new = (events ≡ []) × (new ≡ old)

-- a world as it is after a start
pub record IsFresh {W : Type 0} (speaks : W → Spec → Type 0) (stack : W → Spec → Stack)
    (limit fired : W → ℕ) (statements : ℕ) (world : W) (outs : List Event) : Type 0 where
  pub stack_is : (spec : Spec) → speaks world spec
      → start_of statements (text_of spec) ≡ Done outs (stack world spec).now
  pub nothing_below : (spec : Spec) → speaks world spec → (stack world spec).below ≡ []
  pub limit_is : limit world ≡ statements
  pub fired_none : fired world ≡ 0

-- what a start of a specification answers
abbrev pub StartedAs : {W : Type 0} → (W → Spec → Type 0) → (W → Spec → Stack) → (W → ℕ) → (W → ℕ)
    → ℕ → Spec → Started W → Type 0
StartedAs speaks stack limit fired statements own (started.Ready world outs) =
    speaks world own × IsFresh speaks stack limit fired statements world outs
StartedAs speaks stack limit fired statements own (started.Fault f) =
    start_of statements (text_of own) ≡ Fault f
StartedAs speaks stack limit fired statements own started.Limit =
    start_of statements (text_of own) ≡ Limit
