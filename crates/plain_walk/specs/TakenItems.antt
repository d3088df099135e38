-- What firings take out of queues.
use Rattle.std.specs.Prelude.{◌≡◌, ℕ, Option, Some, option_and_then}
use Rattle.est_meaning.specs.mean_blocks.declared.situation.Item.{Item}
use Rattle.est_meaning.specs.mean_blocks.TextByPlace.{Text}
use Rattle.est_meaning.specs.mean_blocks.GlobalSituation.{Situation}
use Rattle.est_meaning.specs.mean_blocks.QueueEffects.{head_at}
use Rattle.est_meaning.specs.mean_blocks.WorkingState.{View}
use Rattle.est_meaning.specs.declared.firing.Firing.{Firing}
use Rattle.est_meaning.specs.GuardParts.{view_of}
use Rattle.est_meaning.specs.TransitionChoices.{Choice, choice_of}
use Rattle.est_meaning.specs.FiringSteps.{taking_point, without_awaited}

-- what a choice takes whose `from` and `when` hold, and the situation without it
abbrev pub IsTaken : ℕ → Text → Situation → Choice → Option Item → Situation → Type 0
IsTaken limit t s c item u = (v : View) → view_of limit t s c ≡ Some v
    → (item ≡ option_and_then (λ p. head_at t p s) (taking_point limit t s c))
    × (u ≡ without_awaited limit t s c)

-- what a firing takes, and the situation without it, in which the same instances live
pub record IsTakenOf (limit : ℕ) (t : Text) (s : Situation) (f : Firing) (item : Option Item)
    (u : Situation) : Type 0 where
  pub rows : u.rows ≡ s.rows
  pub taken : (c : Choice) → choice_of t s f ≡ Some c → IsTaken limit t s c item u
