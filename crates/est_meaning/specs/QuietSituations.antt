-- Situations in which nothing has to happen.
use Rattle.std.specs.Prelude.{ℕ, IsTrue}
use Rattle.mean_blocks.specs.TextByPlace.{Text}
use Rattle.mean_blocks.specs.GlobalSituation.{Situation}
use Rattle.est_meaning.specs.declared.firing.Firing.{Firing}
use Rattle.est_meaning.specs.TransitionSelection.{IsSettled, is_due}

-- some choice of some instance is due
abbrev pub HasDue : ℕ → Text → Situation → Type 0
HasDue limit t s = (f : Firing) × IsTrue (is_due limit t s f)

-- Quiet: no part of a guard passes its limit, and nothing is due. What is offered and not due yet
-- may still fire (profile).
pub record IsQuiet (limit : ℕ) (t : Text) (s : Situation) : Type 0 where
  pub settled : IsSettled limit t s
  pub idle : HasDue limit t s → ⊥
