-- What a step does to what is known.
use Rattle.std.proofs.Common.{◌≡◌, ℕ, ◌⊎◌, Bool, true, false, List, subst, inl, inr}
use Rattle.est_meaning.specs.declared.run.Move.{Move}
use Rattle.est_meaning.specs.Order.{Mark, marks_of}
use Rattle.est_meaning.specs.Run.{Setup}
use Rattle.est_meaning.specs.Trials.{IsTrial, HasMany, PassesLimit}
use Rattle.est_meaning.proofs.OrderLaws.{marks_same}
use Rattle.est_meaning.proofs.TreeLaws.{trial_in_tree, passes_in_tree}
use Rattle.est_search.specs.inside.Known.{KnowsTrials}
use Rattle.est_search.proofs.AheadLaws.{Turn, Skip}
use Rattle.est_search.proofs.KnownLaws.{trials_on}
use Rattle.est_watch.specs.inside.Known.{IsSought, IsMet, Knows}
use Rattle.est_watch.proofs.Sought.{sought_in_tree}

-- what was tried are trials
pub many_tried : (c : Setup) (P : List Mark → Type 0) (tried : ℕ) → KnowsTrials c P tried
    → HasMany (IsTrial c) tried
many_tried c P tried k = record {
  runs = k.trials;
  count = k.count;
  distinct = k.distinct;
  each = k.each;
}

-- NOTHING IS DEALT WITH

module _ (c : Setup) (exact : Bool) (P P' : List Mark → Type 0) (skip : Skip c P P') where
  met_skip : (passed : Bool) → IsMet c P passed → IsMet c P' passed
  met_skip false m = λ x k. skip.on x (passes_in_tree c x k) (m x k)
  met_skip true m = m

  pub known_skip : (tried : ℕ) (passed : Bool) → Knows c exact P tried passed
      → Knows c exact P' tried passed
  known_skip tried passed k = record {
    trials = record {
      trials = k.trials.trials;
      count = k.trials.count;
      distinct = k.trials.distinct;
      each = k.trials.each;
      all = λ x t. elim (k.trials.all x t) [
        | inl a ↦ inl a
        | inr p ↦ inr (skip.on (marks_of x) (trial_in_tree c x t) p)
      ];
      earlier = λ x y a p. k.trials.earlier x y a (skip.back y p);
    };
    sought = λ r s. skip.on (marks_of r) (sought_in_tree c exact r s) (k.sought r s);
    met = met_skip passed k.met;
  }

-- ONE IS DEALT WITH

module _ (c : Setup) (exact : Bool) (P P' : List Mark → Type 0) (z : List Mark)
    (turn : Turn c P P' z) where
  pub met_on : (PassesLimit c z → ⊥) → (passed : Bool) → IsMet c P passed → IsMet c P' passed
  met_on never false m = λ x k. elim (turn.on x (passes_in_tree c x k) (m x k)) [
    | inl p ↦ p
    | inr e ↦ absurd (never (subst (PassesLimit c) e k))
  ]
  met_on never true m = m

  -- it passes its limit
  pub met_now : PassesLimit c z → IsMet c P' true
  met_now is = (z, is)

  pub sought_on : ((r : List Move) → marks_of r ≡ z → IsSought c exact r → ⊥)
      → ((r : List Move) → IsSought c exact r → P (marks_of r)) → (r : List Move)
      → IsSought c exact r → P' (marks_of r)
  sought_on never all r s =
      elim (turn.on (marks_of r) (sought_in_tree c exact r s) (all r s)) [
        | inl p ↦ p
        | inr w ↦ absurd (never r w s)
      ]

  pub known_on : (tried : ℕ) (passed : Bool)
      → ((x : List Move) → marks_of x ≡ z → IsTrial c x → ⊥)
      → ((r : List Move) → marks_of r ≡ z → IsSought c exact r → ⊥)
      → (PassesLimit c z → ⊥) → Knows c exact P tried passed → Knows c exact P' tried passed
  known_on tried passed untried unsought quiet k = record {
    trials = trials_on c P P' z turn tried untried k.trials;
    sought = sought_on unsought k.sought;
    met = met_on quiet passed k.met;
  }

-- A RUN IS DEALT WITH

module _ (c : Setup) (exact : Bool) (P P' : List Mark → Type 0) (z : List Move)
    (turn : Turn c P P' (marks_of z)) where
  -- it may be one that is sought
  pub sought_or : ((r : List Move) → IsSought c exact r → P (marks_of r)) → (r : List Move)
      → IsSought c exact r → (r ≡ z) ⊎ P' (marks_of r)
  sought_or all r s =
      elim (turn.on (marks_of r) (sought_in_tree c exact r s) (all r s)) [
        | inl p ↦ inr p
        | inr w ↦ inl (marks_same r z w)
      ]

  -- or is not
  pub unsought_on : (IsSought c exact z → ⊥) → (r : List Move) → marks_of r ≡ marks_of z
      → IsSought c exact r → ⊥
  unsought_on never r same s = never (subst (IsSought c exact) (marks_same r z same) s)
