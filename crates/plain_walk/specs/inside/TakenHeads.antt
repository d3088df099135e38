-- What is taken, by the steps in which it is found.
use Rattle.std.specs.Prelude.{◌≡◌, ℕ, Option, Some, option_and_then}
use Rattle.std.specs.Option.{option_map_or}
use Rattle.est_meaning.specs.mean_blocks.declared.situation.InteractionPoint.{InteractionPoint}
use Rattle.est_meaning.specs.mean_blocks.declared.situation.Item.{Item}
use Rattle.est_meaning.specs.mean_blocks.declared.situation.Row.{Row}
use Rattle.est_meaning.specs.mean_blocks.TextByPlace.{Text}
use Rattle.est_meaning.specs.mean_blocks.GlobalSituation.{Situation}
use Rattle.est_meaning.specs.mean_blocks.QueueEffects.{head_at, without_head}
use Rattle.est_meaning.specs.ClauseContexts.{FullTransition}
use Rattle.est_meaning.specs.TransitionChoices.{Choice, choice_by}
use Rattle.est_plain.specs.plain_guards.plain_transitions.WrittenTransitions.{IsWritten}
use Rattle.est_plain.specs.plain_guards.plain_clauses.declared.candidate.Candidate.{Candidate}
use Rattle.plain_walk.specs.TakenItems.{IsTaken}

-- an item is the first of the queue of an interaction point, where one is given, and the situation
-- is without it
pub record IsTakenAt (t : Text) (point : Option InteractionPoint) (s : Situation)
    (item : Option Item) (u : Situation) : Type 0 where
  pub item_is : item ≡ option_and_then (λ p. head_at t p s) point
  pub rest : u ≡ option_map_or (λ p. without_head t p s) point s

-- what the choice takes that has a number among those of a candidate
abbrev pub IsTakenBy : ℕ → Text → Situation → Candidate → ℕ → Option Item → Situation → Type 0
IsTakenBy limit t s y number item u = (r : Row) (x : FullTransition) → r.number ≡ y.instance
    → r.state ≡ y.state → IsWritten t.outline x y.transition.now
    → (c : Choice) → choice_by t r y.number number x ≡ Some c → IsTaken limit t s c item u
