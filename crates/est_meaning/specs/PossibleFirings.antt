-- What is answered of the firings that are possible (ISO 9074, 5: selection of transitions).
use Rattle.std.specs.Prelude.{◌≡◌, ℕ, List, []}
use Rattle.est_syntax.specs.Least.{IsIn}
use Rattle.mean_blocks.specs.TextByPlace.{Text}
use Rattle.mean_blocks.specs.GlobalSituation.{Situation}
use Rattle.est_meaning.specs.declared.firing.Firing.{Firing}
use Rattle.est_meaning.specs.TransitionSelection.{IsSettled, IsPossible}
use Rattle.est_meaning.specs.declared.answers.Offers.{Offers}
use Rattle.est_meaning.specs.declared.answers.Offers.TheVariants.{Settled, Unsettled}
use Rattle.est_meaning.specs.FiringOrder.{IsAscending}

-- these are exactly the possible firings, in order
pub record AreOptions (limit : ℕ) (t : Text) (s : Situation) (firings : List Firing) : Type 0 where
  pub ascending : IsAscending firings
  pub sound : (f : Firing) → IsIn f firings → IsPossible limit t s f
  pub complete : (f : Firing) → IsPossible limit t s f → IsIn f firings

-- a settled situation with its possible firings, or one that is not settled with none
abbrev pub OffersAre : ℕ → Text → Situation → Offers → List Firing → Type 0
OffersAre limit t s Settled firings = IsSettled limit t s × AreOptions limit t s firings
OffersAre limit t s Unsettled firings = (IsSettled limit t s → ⊥) × (firings ≡ [])
