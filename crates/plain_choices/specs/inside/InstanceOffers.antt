-- The offered choices of one instance, as they are gathered in order, and which of them may fire.
use Rattle.std.specs.Prelude.{◌≡◌, ◌<◌, ◌⊎◌, ℕ, Bool, true, false, not, List, map, Option, Some}
use Rattle.std.specs.Prelude.{None}
use Rattle.est_syntax.specs.Least.{IsIn}
use Rattle.est_meaning.specs.mean_blocks.declared.situation.Row.{Row}
use Rattle.est_meaning.specs.mean_blocks.TextByPlace.{Text}
use Rattle.est_meaning.specs.mean_blocks.GlobalSituation.{Frame, Situation, row_of}
use Rattle.est_meaning.specs.declared.firing.Firing.{Firing}
use Rattle.est_meaning.specs.ClauseContexts.{FullTransition, transitions_of}
use Rattle.est_meaning.specs.TransitionChoices.{Choice, choice_of, is_choice, numbered}
use Rattle.est_meaning.specs.TransitionSelection.{passes_limit, IsSettled, is_offered, is_due}
use Rattle.est_meaning.specs.TransitionSelection.{outranks, priority_at}
use Rattle.plain_guards.specs.plain_transitions.WrittenTransitions.{IsWritten}
use Rattle.plain_guards.specs.plain_clauses.declared.candidate.Candidate.{Candidate}
use Rattle.plain_guards.specs.plain_clauses.JudgedGuards.{IsOf}
use Rattle.est_meaning.specs.declared.answers.Offers.{Offers}
use Rattle.est_meaning.specs.declared.answers.Offers.TheVariants.{Settled, Unsettled}
use Rattle.est_meaning.specs.FiringOrder.{IsAscending}
use Rattle.plain_choices.specs.declared.offers.Instance.{Instance}
use Rattle.plain_choices.specs.declared.offers.Offer.{Offer}

-- INSTANCES

-- what is looked up of an instance
abbrev pub instance_of : Row → Instance
instance_of r = record { number = r.number; body = r.body; state = r.state }

-- this was looked up of a living instance
abbrev pub IsLiving : Situation → Instance → Type 0
IsLiving s x = (r : Row) × (row_of s x.number ≡ Some r) × (x ≡ instance_of r)

-- SURVEYS

-- an offered choice, with whether it is due and its priority number
pub record IsOffer (limit : ℕ) (t : Text) (s : Situation) (o : Offer) : Type 0 where
  pub offered : is_offered limit t s o.firing ≡ true
  pub due : o.due ≡ is_due limit t s o.firing
  pub priority : o.priority ≡ priority_at t s o.firing

-- the firings of offers
abbrev pub firings_of : List Offer → List Firing
firings_of os = map (λ (o : Offer). o.firing) os

-- No guard of these firings passes its limit, and these are exactly those that are offered, in
-- order.
pub record IsSurvey (limit : ℕ) (t : Text) (s : Situation) (Reached : Firing → Type 0)
    (os : List Offer) : Type 0 where
  pub settled : (f : Firing) → Reached f → is_choice (passes_limit limit t s) t s f ≡ false
  pub ascending : IsAscending (firings_of os)
  pub reached : (f : Firing) → IsIn f (firings_of os) → Reached f
  pub sound : (o : Offer) → IsIn o os → IsOffer limit t s o
  pub complete : (f : Firing) → Reached f → is_offered limit t s f ≡ true
      → (o : Offer) × IsIn o os × (o.firing ≡ f)

-- a firing of an instance comes before a choice of a transition
pub record IsUpTo (instance transition choice : ℕ) (f : Firing) : Type 0 where
  pub of : f.instance ≡ instance
  pub before : (f.transition < transition)
      ⊎ ((f.transition ≡ transition) × (f.choice < choice))

-- a firing is one of an instance
abbrev pub IsFiringOf : ℕ → Firing → Type 0
IsFiringOf instance f = f.instance ≡ instance

-- these firings are surveyed, or a guard passes its limit
abbrev pub IsGathered : ℕ → Text → Situation → (Firing → Type 0) → List Offer → Offers → Type 0
IsGathered limit t s Reached os Settled = IsSurvey limit t s Reached os
IsGathered limit t s Reached os Unsettled = IsSettled limit t s → ⊥

-- the firing of a choice of a candidate
abbrev pub firing_of : Candidate → ℕ → Firing
firing_of x choice =
    record { instance = x.instance; transition = x.number; choice = choice }

-- a candidate has a choice of a number, with these values of its `any` variables
abbrev pub HasChoice : Text → Situation → Candidate → ℕ → Frame → Type 0
HasChoice t s x choice chosen =
    (c : Choice) × IsOf t x chosen c × (choice_of t s (firing_of x choice) ≡ Some c)

-- a candidate is a transition of a living instance
pub record IsCandidate (t : Text) (s : Situation) (x : Candidate) : Type 0 where
  pub row : Row
  pub is : row_of s x.instance ≡ Some row
  pub instance : row.number ≡ x.instance
  pub state : row.state ≡ x.state
  pub transition : FullTransition
  pub found : numbered (transitions_of t row.body) x.number ≡ Some transition
  pub written : IsWritten t.outline transition x.transition.now

-- RANKS

-- the best of the offers that are due, if one is
abbrev pub IsBestDue : List Offer → Option Offer → Type 0
IsBestDue os None = (o : Offer) → IsIn o os → o.due ≡ false
IsBestDue os (Some b) = IsIn b os × (b.due ≡ true)
    × ((o : Offer) → IsIn o os → o.due ≡ true → outranks o.priority b.priority ≡ false)

-- whether an offer may fire beside the best one of its instance that is due
abbrev pub is_unranked : Option Offer → Offer → Bool
is_unranked None o = true
is_unranked (Some b) o = not (outranks b.priority o.priority)

-- whether a due offer is the best one beside the best of others
abbrev pub is_better : Option Offer → Offer → Bool
is_better None o = true
is_better (Some b) o = outranks o.priority b.priority
