-- Where a search began: the last situation that a world can go back to.
use Rattle.std.specs.Prelude.{◌≡◌, List, [], ◌∷◌}
use Rattle.est_syntax.specs.declared.specification.Spec.{Spec}
use Rattle.est_meaning.specs.mean_blocks.GlobalSituation.{Situation}
use Rattle.est_meaning.specs.SituationStacks.{Stack}

-- the last of these situations
abbrev pub bottom_from : Situation → List Situation → Situation
bottom_from s [] = s
bottom_from s (t ∷ below) = bottom_from t below

-- where no move was made
abbrev pub bottom_of : Stack → Situation
bottom_of stack = bottom_from stack.now stack.below

-- for each specification the bottom of the stack is as it was
abbrev pub SameBottom : {W : Type 0} → (W → Spec → Type 0) → (W → Spec → Stack) → W → W → Type 0
SameBottom speaks stack old new =
    (spec : Spec) → speaks old spec → bottom_of (stack new spec) ≡ bottom_of (stack old spec)
