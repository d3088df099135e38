-- The offered choices of a system that may fire, as far as their instances say.
use Rattle.std.specs.Prelude.{◌≡◌, ◌↔◌, ◌<◌, ◌≤◌, ℕ, true, false, List, length, get_or, None}
use Rattle.est_syntax.specs.Least.{IsIn}
use Rattle.est_meaning.specs.mean_blocks.TextByPlace.{Text}
use Rattle.est_meaning.specs.mean_blocks.GlobalSituation.{Situation, row_of}
use Rattle.est_meaning.specs.declared.firing.Firing.{Firing}
use Rattle.est_meaning.specs.TransitionChoices.{is_choice}
use Rattle.est_meaning.specs.TransitionSelection.{passes_limit, IsSettled, is_offered, is_due}
use Rattle.est_meaning.specs.TransitionSelection.{outranks, priority_at, IsAncestor}
use Rattle.est_meaning.specs.declared.answers.Offers.{Offers}
use Rattle.est_meaning.specs.declared.answers.Offers.TheVariants.{Settled, Unsettled}
use Rattle.est_meaning.specs.FiringOrder.{IsAscending}
use Rattle.plain_choices.specs.declared.found.Found.{Found}

-- a firing that is offered, and that no due one of its instance outranks
pub record IsUnranked (limit : ℕ) (t : Text) (s : Situation) (f : Firing) : Type 0 where
  pub offered : is_offered limit t s f ≡ true
  pub unranked : (g : Firing) → g.instance ≡ f.instance → is_due limit t s g ≡ true
      → outranks (priority_at t s g) (priority_at t s f) ≡ true → ⊥

-- numbers do not descend
abbrev pub AreSorted : List ℕ → Type 0
AreSorted ns = (i j : ℕ) → i ≤ j → j < length ns → get_or ns i 0 ≤ get_or ns j 0

-- No guard of an instance below a number passes its limit; these are exactly the firings of those
-- instances that are offered and not outranked, and those instances that have a due one.
pub record IsFound (limit : ℕ) (t : Text) (s : Situation) (end : ℕ) (x : Found) : Type 0 where
  pub settled : (f : Firing) → f.instance < end → is_choice (passes_limit limit t s) t s f ≡ false
  pub ascending : IsAscending x.firings.items
  pub within : (f : Firing) → IsIn f x.firings.items → f.instance < end
  pub sound : (f : Firing) → IsIn f x.firings.items → IsUnranked limit t s f
  pub complete : (f : Firing) → f.instance < end → IsUnranked limit t s f
      → IsIn f x.firings.items
  pub dues_sorted : AreSorted x.dues.items
  pub dues_within : (n : ℕ) → IsIn n x.dues.items → n < end
  pub dues_sound : (n : ℕ) → IsIn n x.dues.items
      → (g : Firing) × (g.instance ≡ n) × (is_due limit t s g ≡ true)
  pub dues_complete : (g : Firing) → g.instance < end → is_due limit t s g ≡ true
      → IsIn g.instance x.dues.items

-- what is found of the instances below a number, or a guard passes its limit
abbrev pub IsFoundBelow : ℕ → Text → Situation → ℕ → Found → Offers → Type 0
IsFoundBelow limit t s end x Settled = IsFound limit t s end x
IsFoundBelow limit t s end x Unsettled = IsSettled limit t s → ⊥

-- what is found of instances below a number from which on there are none, or a guard passes its
-- limit
abbrev pub IsAllFound : ℕ → Text → Situation → Found → Offers → Type 0
IsAllFound limit t s x Settled =
    (end : ℕ) × IsFound limit t s end x × ((n : ℕ) → end ≤ n → row_of s n ≡ None)
IsAllFound limit t s x Unsettled = IsSettled limit t s → ⊥

-- an instance descends from one of these
abbrev pub IsPreceded : Situation → List ℕ → ℕ → Type 0
IsPreceded s dues n = (a : ℕ) × IsIn a dues × IsAncestor s a n

-- these are exactly the instances below a number that descend from some of others, in order
pub record AreBlockedBelow (s : Situation) (dues : List ℕ) (end : ℕ) (ns : List ℕ) : Type 0 where
  pub sorted : AreSorted ns
  pub within : (n : ℕ) → IsIn n ns → n < end
  pub sound : (n : ℕ) → IsIn n ns → IsPreceded s dues n
  pub complete : (n : ℕ) → n < end → IsPreceded s dues n → IsIn n ns

-- these are exactly the instances that descend from some of others, in order
abbrev pub AreBlocked : Situation → List ℕ → List ℕ → Type 0
AreBlocked s dues ns = AreSorted ns × ((n : ℕ) → (IsIn n ns ↔ IsPreceded s dues n))

-- these are exactly the firings of others of instances that descend from none of these, in order
pub record IsKept (s : Situation) (dues : List ℕ) (found kept : List Firing) : Type 0 where
  pub ascending : IsAscending kept
  pub sound : (f : Firing) → IsIn f kept
      → IsIn f found × (IsPreceded s dues f.instance → ⊥)
  pub complete : (f : Firing) → IsIn f found → (IsPreceded s dues f.instance → ⊥)
      → IsIn f kept
