-- What is known where a walk stops says which answers are right.
use Rattle.std.proofs.Common.{◌≡◌, ℕ, ◌+◌, ◌≤◌, Bool, true, false, List, ◌∷◌, length, map}
use Rattle.std.proofs.Common.{refl, sym, subst, inl, inr, arith}
use Rattle.est_meaning.specs.declared.event.Event.{Event}
use Rattle.est_meaning.specs.declared.trace.Expected.TheVariants.{Known}
use Rattle.est_meaning.specs.declared.run.Move.{Move}
use Rattle.est_meaning.specs.Order.{Mark, Guarding, Trying, marks_of}
use Rattle.est_meaning.specs.Run.{Setup, YieldsFirst}
use Rattle.est_meaning.specs.Trials.{IsTrial, HasMany, HasAtMost, PassesLimit, guards, block}
use Rattle.mean_watch.specs.declared.watched.Watched.TheVariants.{Possible, Impossible}
use Rattle.mean_watch.specs.declared.watched.Watched.TheVariants.{OverFirings, OverAction}
use Rattle.mean_watch.specs.Watching.{so_far, IsWatchTrial, PassesBehind, IsYielded, IsWatched}
use Rattle.mean_watch.specs.Watching.{IsFinished}
use Rattle.mean_watch.specs.Watching as behind
use Rattle.mean_watch.proofs.Growing.{known_length, inner_of, behind_of, trials_grow}
use Rattle.est_watch.specs.inside.Known.{Knows}

module _ (c : Setup) (given : List Event) where
  abbrev now : Setup
  now = so_far c given

  -- TRIALS

  -- as many trials as there are of the trace are there behind the events
  pub watch_many : (many : ℕ) → HasMany (IsTrial now) many → HasMany (IsWatchTrial c given) many
  watch_many many h = record {
    runs = h.runs;
    count = h.count;
    distinct = h.distinct;
    each = λ x i. trials_grow.all c given x (h.each x i);
  }

  module _ (exact : Bool) (tried budget : ℕ) (passed : Bool) (le : tried ≤ budget)
      (k : Knows now exact (λ x. ⊥) tried passed) where
    all_trials : HasAtMost (IsTrial now) budget
    all_trials = (
      tried,
      le,
      record {
        found = record {
          runs = k.trials.trials;
          count = k.trials.count;
          distinct = k.trials.distinct;
          each = k.trials.each;
        };
        all = λ x t. elim (k.trials.all x t) [ inl a ↦ a | inr p ↦ absurd p ];
      },
    )

    all_watch_trials : HasAtMost (IsWatchTrial c given) budget
    unfolding watch_many
    all_watch_trials = (
      tried,
      le,
      record {
        found = watch_many tried (record {
          runs = k.trials.trials;
          count = k.trials.count;
          distinct = k.trials.distinct;
          each = k.trials.each;
        });
        all = λ x t. elim (k.trials.all x (trials_grow.last c given x t)) [
          | inl a ↦ a
          | inr p ↦ absurd p
        ];
      },
    )

  -- PASSED LIMITS

  passes_there : PassesBehind c given → (x : List Mark) × PassesLimit now x
  passes_there (behind.guards run p b u) = (
    Guarding ∷ marks_of run,
    guards run refl (record { place = p; inner = inner_of c given run p b; unsettled = u }),
  )
  passes_there (behind.block run p f b i o) = (
    Trying f ∷ marks_of run,
    block run f refl (record {
      place = p;
      inner = inner_of c given run p b;
      possible = i;
      outcome_is = o;
    }),
  )

  passes_behind : (x : List Mark) → PassesLimit now x → PassesBehind c given
  passes_behind x (guards run at u) =
      behind.guards run u.place (behind_of c given run u.place u.inner) u.unsettled
  passes_behind x (block run f at t) =
      behind.block run t.place f (behind_of c given run t.place t.inner) t.possible t.outcome_is

  -- ANSWERS TO EVENTS

  none_yields : ((run : List Move) → YieldsFirst now run (length now.trace.events) → ⊥)
      → IsYielded c given → ⊥
  none_yields none y =
      let n : length (map Known given) ≡ length given = known_length given in
      elim y.1 [
        | inl a ↦ none y.0 (subst (λ k. YieldsFirst now y.0 k) (sym n) a)
        | inr a ↦ (let e = a.0 in let never : ⊥ = omega arith in absurd never)
      ]

  pub watched_possible : (budget : ℕ) (run : List Move)
      → YieldsFirst now run (length now.trace.events) → IsWatched c budget given Possible
  watched_possible budget run y =
      (run, inl (subst (λ k. YieldsFirst now run k) (known_length given) y))

  pub watched_over : (budget : ℕ) → HasMany (IsTrial now) (budget + 1)
      → IsWatched c budget given OverFirings
  watched_over budget h = watch_many (budget + 1) h

  module _ (tried budget : ℕ) (le : tried ≤ budget) where
    pub watched_none : Knows now false (λ x. ⊥) tried false → IsWatched c budget given Impossible
    watched_none k = (
      all_watch_trials false tried budget false le k,
      none_yields k.sought,
      λ u. (let p = passes_there u in k.met p.0 p.1),
    )

    pub watched_passed : Knows now false (λ x. ⊥) tried true → IsWatched c budget given OverAction
    watched_passed k = (
      all_watch_trials false tried budget true le k,
      none_yields k.sought,
      passes_behind k.met.0 k.met.1,
    )

    -- ANSWERS AT THE END

    pub finished_none : Knows now true (λ x. ⊥) tried false → IsFinished c budget given Impossible
    finished_none k = (
      all_trials true tried budget false le k,
      λ x. k.sought x.0 x.1,
      λ u. k.met u.0 u.1,
    )

    pub finished_passed : Knows now true (λ x. ⊥) tried true → IsFinished c budget given OverAction
    finished_passed k = (
      all_trials true tried budget true le k,
      λ x. k.sought x.0 x.1,
      k.met,
    )
