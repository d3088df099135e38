-- What a step does to what is known.
use Rattle.std.proofs.Common.{◌≡◌, ℕ, ◌+◌, ◌<◌, ◌≤◌, ◌⊎◌, List, ◌∷◌, Option, Some, None}
use Rattle.std.proofs.Common.{refl, sym, subst, inl, inr, arith}
use Rattle.std.specs.Option.{option_or}
use Rattle.est_syntax.specs.Least.{IsIn}
use Rattle.est_meaning.specs.declared.run.Move.{Move}
use Rattle.est_meaning.specs.Order.{Mark, marks_of, Before, NotAfter, IsFirst}
use Rattle.est_meaning.specs.Run.{Setup, Explains, YieldsFirst}
use Rattle.est_meaning.specs.Trials.{IsTrial, IsTrialUpTo, HasMany, PassesLimit, Faults}
use Rattle.est_meaning.proofs.OrderLaws.{marks_same, before_irreflexive, not_after_before}
use Rattle.est_meaning.proofs.TreeLaws.{IsInTree, explains_in_tree, trial_in_tree, yields_in_tree}
use Rattle.est_meaning.proofs.TreeLaws.{passes_in_tree, faults_in_tree}
use Rattle.est_search.specs.inside.Known.{KnowsTrials, KnowsBest, IsNoted, Knows}
use Rattle.est_search.specs.inside.Walk.{Accepts, IsOver}
use Rattle.est_search.proofs.AheadLaws.{Turn, Skip}

-- NOTHING IS DEALT WITH

module _ (c : Setup) (P P' : List Mark → Type 0) (skip : Skip c P P') where
  noted_skip : (K : List Mark → Type 0) → ((x : List Mark) → K x → IsInTree c x)
      → (o : Option (List Mark)) → IsNoted K P o → IsNoted K P' o
  noted_skip K tree None n = λ x k. skip.on x (tree x k) (n x k)
  noted_skip K tree (Some x) n = n

  pub knows_skip : (tried most : ℕ) (run : List Move) (passed faulted : Option (List Mark))
      → Knows c P tried most run passed faulted → Knows c P' tried most run passed faulted
  knows_skip tried most run passed faulted k = record {
    trials = record {
      trials = k.trials.trials;
      count = k.trials.count;
      distinct = k.trials.distinct;
      each = k.trials.each;
      all = λ x t. elim (k.trials.all x t) [
        | inl a ↦ inl a
        | inr p ↦ inr (skip.on (marks_of x) (trial_in_tree c x t) p)
      ];
      earlier = λ x y a p. k.trials.earlier x y a (skip.back y p);
    };
    explaining = λ r e. skip.on (marks_of r) (explains_in_tree c r e) (k.explaining r e);
    best = record {
      has = k.best.has;
      least = k.best.least;
      more = λ r j y lt. skip.on (marks_of r) (yields_in_tree c r j y) (k.best.more r j y lt);
    };
    passes = noted_skip (PassesLimit c) (passes_in_tree c) passed k.passes;
    faults = noted_skip (Faults c) (faults_in_tree c) faulted k.faults;
  }

-- ONE IS DEALT WITH

module _ (c : Setup) (P P' : List Mark → Type 0) (z : List Mark) (turn : Turn c P P' z) where
  pub noted_on : (K : List Mark → Type 0) → ((x : List Mark) → K x → IsInTree c x) → (K z → ⊥)
      → (o : Option (List Mark)) → IsNoted K P o → IsNoted K P' o
  noted_on K tree never None n = λ x k. elim (turn.on x (tree x k) (n x k)) [
    | inl p ↦ p
    | inr e ↦ absurd (never (subst K e k))
  ]
  noted_on K tree never (Some x) n = n

  pub noted_now : (K : List Mark → Type 0) → ((x : List Mark) → K x → IsInTree c x) → K z
      → (o : Option (List Mark)) → IsNoted K P o → IsNoted K P' (option_or o (Some z))
  noted_now K tree is None n = record {
    has = is;
    least = λ y k. elim (turn.on y (tree y k) (n y k)) [
      | inl p ↦ inr (turn.after y p)
      | inr e ↦ inl (sym e)
    ];
  }
  noted_now K tree is (Some x) n = n

  pub explaining_on : ((r : List Move) → marks_of r ≡ z → Explains c r → ⊥)
      → ((r : List Move) → Explains c r → P (marks_of r))
      → (r : List Move) → Explains c r → P' (marks_of r)
  explaining_on never all r e =
      elim (turn.on (marks_of r) (explains_in_tree c r e) (all r e)) [
        | inl p ↦ p
        | inr w ↦ absurd (never r w e)
      ]

  pub trials_on : (tried : ℕ) → ((x : List Move) → marks_of x ≡ z → IsTrial c x → ⊥)
      → KnowsTrials c P tried → KnowsTrials c P' tried
  trials_on tried never k = record {
    trials = k.trials;
    count = k.count;
    distinct = k.distinct;
    each = k.each;
    all = λ x t. elim (k.all x t) [
      | inl a ↦ inl a
      | inr p ↦ elim (turn.on (marks_of x) (trial_in_tree c x t) p) [
        | inl q ↦ inr q
        | inr e ↦ absurd (never x e t)
      ]
    ];
    earlier = λ x y a p. k.earlier x y a (turn.back y p);
  }

  pub best_on : (most : ℕ) (run : List Move)
      → ((r : List Move) (j : ℕ) → marks_of r ≡ z → YieldsFirst c r j → j ≤ most)
      → KnowsBest c P most run → KnowsBest c P' most run
  best_on most run few k = record {
    has = k.has;
    least = k.least;
    more = λ r j y lt. elim (turn.on (marks_of r) (yields_in_tree c r j y) (k.more r j y lt)) [
      | inl p ↦ p
      | inr e ↦ (let le = few r j e y in absurd (omega arith))
    ];
  }

-- A RUN IS DEALT WITH

module _ (c : Setup) (P P' : List Mark → Type 0) (z : List Move)
    (turn : Turn c P P' (marks_of z)) where
  pub best_more : (most n : ℕ) (run : List Move) → YieldsFirst c z n
      → ((j : ℕ) → YieldsFirst c z j → j ≤ n) → most < n → KnowsBest c P most run
      → KnowsBest c P' n z
  best_more most n run y few lt k = record {
    has = y;
    least = λ r q. elim (turn.on (marks_of r) (yields_in_tree c r n q) (k.more r n q lt)) [
      | inl p ↦ inr (turn.after (marks_of r) p)
      | inr e ↦ inl (sym (marks_same r z e))
    ];
    more = λ r j q more. elim (turn.on (marks_of r) (yields_in_tree c r j q)
        (k.more r j q (omega arith))) [
          | inl p ↦ p
          | inr e ↦
              (let le = few j (subst (λ w. YieldsFirst c w j) (marks_same r z e) q) in
              absurd (omega arith))
        ];
  }

  -- the run is not among the trials so far
  fresh : (tried : ℕ) (k : KnowsTrials c P tried) → IsIn z k.trials → ⊥
  fresh tried k a = before_irreflexive (marks_of z) (k.earlier z (marks_of z) a turn.was)

  -- the run that explains the trace is the first
  first_now : ((r : List Move) → Explains c r → P (marks_of r)) → Explains c z
      → IsFirst (Explains c) z
  first_now all e = record {
    has = e;
    least = λ r x. elim (turn.on (marks_of r) (explains_in_tree c r x) (all r x)) [
      | inl p ↦ inr (turn.after (marks_of r) p)
      | inr w ↦ inl (sym (marks_same r z w))
    ];
  }

  up_to : (tried : ℕ) (k : KnowsTrials c P tried) (x : List Move) → IsIn x k.trials
      → IsTrialUpTo c z x
  up_to tried k x a = (k.each x a, inr (k.earlier x (marks_of z) a turn.was))

  -- a trial up to the run was tried, or is the run
  up_to_cases : (tried : ℕ) (k : KnowsTrials c P tried) (x : List Move) → IsTrialUpTo c z x
      → IsIn x k.trials ⊎ (z ≡ x)
  up_to_cases tried k x t = elim (k.all x t.0) [
    | inl a ↦ inl a
    | inr p ↦ elim (turn.on (marks_of x) (trial_in_tree c x t.0) p) [
      | inl q ↦ absurd (not_after_before x z t.1 (turn.after (marks_of x) q))
      | inr e ↦ inr (sym (marks_same x z e))
    ]
  ]

  pub accepts_untried : (tried : ℕ) → (IsTrial c z → ⊥) → Explains c z
      → ((r : List Move) → Explains c r → P (marks_of r)) → KnowsTrials c P tried
      → Accepts c z tried
  accepts_untried tried never e all k = record {
    first = first_now all e;
    tried_is = record {
      found = record {
        runs = k.trials;
        count = k.count;
        distinct = k.distinct;
        each = up_to tried k;
      };
      all = λ x t. elim (up_to_cases tried k x t) [
        | inl a ↦ a
        | inr w ↦ absurd (never (subst (IsTrial c) (sym w) t.0))
      ];
    };
  }

  -- THE RUN IS A TRIAL

  module _ (tried : ℕ) (trial : IsTrial c z) (k : KnowsTrials c P tried) where
    pub trials_more : KnowsTrials c P' (tried + 1)
    trials_more = record {
      trials = z ∷ k.trials;
      count = (let n = k.count in omega arith);
      distinct = (fresh tried k, k.distinct);
      each = λ x a. elim a [
        | inl e ↦ subst (IsTrial c) e trial
        | inr b ↦ k.each x b
      ];
      all = λ x t. elim (k.all x t) [
        | inl a ↦ inl (inr a)
        | inr p ↦ elim (turn.on (marks_of x) (trial_in_tree c x t) p) [
          | inl q ↦ inr q
          | inr e ↦ inl (inl (sym (marks_same x z e)))
        ]
      ];
      earlier = λ x y a p. elim a [
        | inl e ↦ subst (λ w. Before (marks_of w) y) e (turn.after y p)
        | inr b ↦ k.earlier x y b (turn.back y p)
      ];
    }

    many_up_to : (run : List Move) → NotAfter z run → P (marks_of run)
        → HasMany (IsTrialUpTo c run) (tried + 1)
    many_up_to run le p = record {
      runs = z ∷ k.trials;
      count = (let n = k.count in omega arith);
      distinct = (fresh tried k, k.distinct);
      each = λ x a. elim a [
        | inl e ↦ subst (IsTrialUpTo c run) e (trial, le)
        | inr b ↦ (k.each x b, inr (k.earlier x (marks_of run) b p))
      ];
    }

    pub accepts_tried : Explains c z → ((r : List Move) → Explains c r → P (marks_of r))
        → Accepts c z (tried + 1)
    accepts_tried e all = record {
      first = first_now all e;
      tried_is = record {
        found = record {
          runs = z ∷ k.trials;
          count = (let n = k.count in omega arith);
          distinct = (fresh tried k, k.distinct);
          each = λ x a. elim a [
            | inl w ↦ subst (IsTrialUpTo c z) w (trial, inl refl)
            | inr b ↦ up_to tried k x b
          ];
        };
        all = λ x t. elim (up_to_cases tried k x t) [
          | inl a ↦ inr a
          | inr w ↦ inl w
        ];
      };
    }

    -- where the budget is used up
    pub over_now : ((r : List Move) → Explains c r → P (marks_of r)) → IsOver c tried
    over_now all = record {
      size = record {
        runs = z ∷ k.trials;
        count = (let n = k.count in omega arith);
        distinct = (fresh tried k, k.distinct);
        each = λ x a. elim a [
          | inl e ↦ subst (IsTrial c) e trial
          | inr b ↦ k.each x b
        ];
      };
      late = λ run e. many_up_to run (elim (turn.on (marks_of run) (explains_in_tree c run e)
          (all run e)) [
            | inl p ↦ inr (turn.after (marks_of run) p)
            | inr w ↦ inl (sym (marks_same run z w))
          ]) (all run e);
    }
