-- What a step does to what is known.
use Rattle.std.proofs.Common.{◌≡◌, ℕ, ◌+◌, ◌≤◌, List, ◌∷◌, Option, Some, None}
use Rattle.std.proofs.Common.{refl, sym, subst, inl, inr, arith}
use Rattle.std.specs.Option.{option_or}
use Rattle.est_meaning.specs.Run.{Setup}
use Rattle.est_meaning.specs.declared.firing.Firing.{Firing}
use Rattle.mean_ports.specs.declared.lists.PortLists.{PortLists}
use Rattle.mean_ports.specs.declared.moves.PortMove.{PortMove}
use Rattle.mean_ports.specs.declared.moves.PortMove.TheVariants.{Fire}
use Rattle.mean_ports.specs.HowMany.{HasMany}
use Rattle.mean_ports.specs.PortTrials.{IsPortTrial, IsFiringTrial, PassesIn, PassesOnTree}
use Rattle.mean_ports.specs.PortYields.{PortYields}
use Rattle.est_ports.specs.declared.walk.Passed.{Passed}
use Rattle.est_ports.specs.inside.Known.{KnowsFirings, KnowsTrials, IsUsing, KnowsUsing, KnowsMore}
use Rattle.est_ports.specs.inside.Known.{IsPassAhead, IsPassNoted, IsNoted, Knows}
use Rattle.est_ports.proofs.AheadLaws.{Turn, Skip, GuardsOn}
use Rattle.est_ports.proofs.PortTree.{IsOnTree, IsInTree, run_in_tree, trial_in_tree}
use Rattle.est_ports.proofs.PortTree.{yields_in_tree, defined_in_tree}

module _ (c : Setup) (lists : PortLists) where
  -- a passed block is that of a trial
  passing_in_tree : (u : PassesOnTree c lists) (f : Firing) → u.firing ≡ Some f
      → IsInTree c lists (Fire f ∷ u.run)
  passing_in_tree u f is = defined_in_tree c lists (Fire f) u.run (record {
    place = u.place;
    is_run = u.inner.is_run;
    defined = (let p = subst (λ o. PassesIn c u.place.situation o) is u.passes in p.0);
  })

  using_in_tree : (x : List PortMove) → IsUsing c lists x → IsInTree c lists x
  using_in_tree x u = run_in_tree c lists x (u.place, u.is_run)

  pub trials_many : (P : List PortMove → Type 0) (tried fired : ℕ)
      → KnowsTrials c lists P tried fired → HasMany (IsPortTrial c lists) tried
  trials_many P tried fired k = record {
    runs = k.trials;
    count = k.count;
    distinct = k.distinct;
    each = k.each;
  }

  pub firings_many : (trials : List (List PortMove)) (fired : ℕ)
      → KnowsFirings c lists trials fired → HasMany (IsFiringTrial c lists) fired
  firings_many trials fired k = record {
    runs = k.firings;
    count = k.count;
    distinct = k.distinct;
    each = k.each;
  }

  -- NOTHING IS DEALT WITH

  module _ (P P' G G' : List PortMove → Type 0) (skip : Skip c lists P P') where
    trials_skip : (tried fired : ℕ) → KnowsTrials c lists P tried fired
        → KnowsTrials c lists P' tried fired
    trials_skip tried fired k = record {
      trials = k.trials;
      count = k.count;
      distinct = k.distinct;
      each = k.each;
      all = λ x t. elim (k.all x t) [
        | inl a ↦ inl a
        | inr p ↦ inr (skip.on x (trial_in_tree c lists x t) p)
      ];
      apart = λ x i p. k.apart x i (skip.back x p);
      firings = k.firings;
    }

    -- whatever is noted then
    pub skip_with : (tried fired most : ℕ) (passed passed' : Option Passed)
        → IsNoted c lists P' G' passed' → Knows c lists P G tried fired most passed
        → Knows c lists P' G' tried fired most passed'
    skip_with tried fired most passed passed' noted k = record {
      trials = trials_skip tried fired k.trials;
      using = λ r u. skip.on r (using_in_tree r u) (k.using r u);
      more = λ r j y lt. skip.on r (yields_in_tree c lists r j y) (k.more r j y lt);
      passes = noted;
    }

    pub firing_skip : (u : PassesOnTree c lists) (o : Option Firing) → u.firing ≡ o
        → (u.firing ≡ None → IsOnTree c lists u.run → G u.run → G' u.run)
        → IsPassAhead P G u.run o → IsPassAhead P' G' u.run o
    firing_skip u None is guards a = guards is (u.place, u.inner.is_run) a
    firing_skip u (Some f) is guards a =
        skip.on (Fire f ∷ u.run) (passing_in_tree u f is) a

    pub noted_skip : GuardsOn c lists G G' → (passed : Option Passed)
        → IsNoted c lists P G passed → IsNoted c lists P' G' passed
    noted_skip guards None n = λ u. firing_skip u u.firing refl (λ none. guards u.run) (n u)
    noted_skip guards (Some p) n = n

    pub knows_skip : GuardsOn c lists G G' → (tried fired most : ℕ) (passed : Option Passed)
        → Knows c lists P G tried fired most passed → Knows c lists P' G' tried fired most passed
    knows_skip guards tried fired most passed k =
        skip_with tried fired most passed passed (noted_skip guards passed k.passes) k

  -- A RUN IS DEALT WITH

  module _ (P P' G G' : List PortMove → Type 0) (z : List PortMove) (turn : Turn c lists P P' z)
    where
      -- a take was tried
      pub takes_more : (trials : List (List PortMove)) (fired : ℕ)
          → KnowsFirings c lists trials fired → KnowsFirings c lists (z ∷ trials) fired
      takes_more trials fired k = record {
        firings = k.firings;
        count = k.count;
        distinct = k.distinct;
        each = k.each;
        tried = λ x i. inr (k.tried x i);
      }

      -- a firing was tried
      pub firings_more : (tried fired : ℕ) → IsFiringTrial c lists z
          → (k : KnowsTrials c lists P tried fired)
          → KnowsFirings c lists (z ∷ k.trials) (fired + 1)
      firings_more tried fired is k = record {
        firings = z ∷ k.firings.firings;
        count = (let n = k.firings.count in omega arith);
        distinct = (λ i. k.apart z (k.firings.tried z i) turn.was, k.firings.distinct);
        each = λ x i. elim i [
          | inl e ↦ subst (IsFiringTrial c lists) e is
          | inr j ↦ k.firings.each x j
        ];
        tried = λ x i. elim i [ inl e ↦ inl e | inr j ↦ inr (k.firings.tried x j) ];
      }

      -- one trial more was tried
      pub trials_more : (tried fired fired' : ℕ) → IsPortTrial c lists z
          → (k : KnowsTrials c lists P tried fired)
          → KnowsFirings c lists (z ∷ k.trials) fired'
          → KnowsTrials c lists P' (tried + 1) fired'
      trials_more tried fired fired' is k firings = record {
        trials = z ∷ k.trials;
        count = (let n = k.count in omega arith);
        distinct = (λ i. k.apart z i turn.was, k.distinct);
        each = λ x i. elim i [
          | inl e ↦ subst (IsPortTrial c lists) e is
          | inr j ↦ k.each x j
        ];
        all = λ x t. elim (k.all x t) [
          | inl i ↦ inl (inr i)
          | inr p ↦ elim (turn.on x (trial_in_tree c lists x t) p) [
            | inl q ↦ inr q
            | inr e ↦ inl (inl (sym e))
          ]
        ];
        apart = λ x i p. elim i [
          | inl e ↦ turn.gone (subst P' (sym e) p)
          | inr j ↦ k.apart x j (turn.back x p)
        ];
        firings = firings;
      }

      -- the budget is used up: there is one trial more than were tried
      pub one_more : (tried fired : ℕ) → IsPortTrial c lists z → KnowsTrials c lists P tried fired
          → HasMany (IsPortTrial c lists) (tried + 1)
      one_more tried fired is k = record {
        runs = z ∷ k.trials;
        count = (let n = k.count in omega arith);
        distinct = (λ i. k.apart z i turn.was, k.distinct);
        each = λ x i. elim i [
          | inl e ↦ subst (IsPortTrial c lists) e is
          | inr j ↦ k.each x j
        ];
      }

      using_on : (IsUsing c lists z → ⊥) → KnowsUsing c lists P → KnowsUsing c lists P'
      using_on never k r u = elim (turn.on r (using_in_tree r u) (k r u)) [
        | inl p ↦ p
        | inr e ↦ absurd (never (subst (IsUsing c lists) e u))
      ]

      more_on : (most most' : ℕ) → most ≤ most'
          → ((j : ℕ) → PortYields c lists z j → j ≤ most') → KnowsMore c lists P most
          → KnowsMore c lists P' most'
      more_on most most' le few k r j y lt =
          elim (turn.on r (yields_in_tree c lists r j y) (k r j y (omega arith))) [
            | inl p ↦ p
            | inr e ↦
                (let n = few j (subst (λ w. PortYields c lists w j) e y) in absurd (omega arith))
          ]

      firing_on : (u : PassesOnTree c lists) (o : Option Firing) → u.firing ≡ o
          → (IsOnTree c lists u.run → G u.run → G' u.run)
          → ((f : Firing) → u.firing ≡ Some f → Fire f ∷ u.run ≡ z → ⊥)
          → IsPassAhead P G u.run o → IsPassAhead P' G' u.run o
      firing_on u None is guards never a = guards (u.place, u.inner.is_run) a
      firing_on u (Some f) is guards never a =
          elim (turn.on (Fire f ∷ u.run) (passing_in_tree u f is) a) [
            | inl p ↦ p
            | inr e ↦ absurd (never f is e)
          ]

      -- where the block of the run does not pass its limit
      pub noted_on : GuardsOn c lists G G'
          → ((u : PassesOnTree c lists) (f : Firing) → u.firing ≡ Some f → Fire f ∷ u.run ≡ z → ⊥)
          → (passed : Option Passed) → IsNoted c lists P G passed → IsNoted c lists P' G' passed
      noted_on guards never None n =
          λ u. firing_on u u.firing refl (guards u.run) (never u) (n u)
      noted_on guards never (Some p) n = n

      -- all that is known then
      pub knows_turn : (tried fired fired' most most' : ℕ) (passed passed' : Option Passed)
          → IsPortTrial c lists z → (IsUsing c lists z → ⊥) → most ≤ most'
          → ((j : ℕ) → PortYields c lists z j → j ≤ most')
          → (k : Knows c lists P G tried fired most passed)
          → KnowsFirings c lists (z ∷ k.trials.trials) fired'
          → IsNoted c lists P' G' passed'
          → Knows c lists P' G' (tried + 1) fired' most' passed'
      knows_turn tried fired fired' most most' passed passed' is never le few k firings noted =
          record {
            trials = trials_more tried fired fired' is k.trials firings;
            using = using_on never k.using;
            more = more_on most most' le few k.more;
            passes = noted;
          }

  -- the first of what was noted is kept
  pub noted_first : (P G P' G' : List PortMove → Type 0) (old : Option Passed) (now : Passed)
      → IsPassNoted c lists now → IsNoted c lists P G old
      → IsNoted c lists P' G' (option_or old (Some now))
  noted_first P G P' G' None now is n = is
  noted_first P G P' G' (Some p) now is n = n
