-- What the answer that ends a watch decides, where the limits suffice.
use Rattle.std.proofs.Common.{◌≡◌, ◌∙◌, ◌⊎◌, inl, inr, ℕ, ◌+◌, List, [], ◌∷◌, ◌++◌, length}
use Rattle.std.proofs.Common.{sym, subst, refl, append_assoc, arith}
use Rattle.std.proofs.lemmas.List.{append-nil, length-append}
use Rattle.est_meaning.specs.declared.event.Event.{Event}
use Rattle.est_meaning.specs.declared.run.Move.{Move}
use Rattle.est_meaning.specs.Run.{Setup, Explains, YieldsFirst}
use Rattle.est_meaning.specs.Trials.{IsTrial, HasMany}
use Rattle.est_meaning.specs.Trials.{guards as limit_guards, block as limit_block}
use Rattle.est_meaning.proofs.RunLaws.{explains_yields}
use Rattle.mean_watch.specs.declared.watched.Watched.{Watched}
use Rattle.mean_watch.specs.declared.watched.Watched.TheVariants.{Possible, Impossible}
use Rattle.mean_watch.specs.declared.watched.Watched.TheVariants.{OverFirings, OverAction}
use Rattle.mean_watch.specs.Watching.{so_far, IsWatchTrial, PassesBehind, guards, block}
use Rattle.mean_watch.specs.Watching.{IsWatched, IsFinished, IsYielded, PassesInside}
use Rattle.mean_watch.proofs.Growing.{known_length, inner_of, trials_grow}
use Rattle.mean_watch.proofs.Parting.{frontiers_part}
use Rattle.est_search.proofs.OneVerdict.{too_many}
use Rattle.call_files.specs.declared.status.Status.{Status}
use Rattle.call_files.specs.declared.status.Status.TheVariants.{Fine, Refused}
use Rattle.call_watch.specs.Answers.{Watch, watched_status}
use Rattle.law_calls.specs.Completeness.{IsWithinLimits, Decides}
use Rattle.law_calls.proofs.WatchLines.{EndsWith, at_event, at_end}

-- a run yields the first of some events where a run yields all
record IsYieldedBy (c : Setup) (events : List Event) : Type 0 where
  run : List Move
  yields : YieldsFirst (so_far c events) run (length events)

first_yielded : (c : Setup) (first rest : List Event) → IsYieldedBy c (first ++ rest)
    → IsYieldedBy c first
first_yielded c first [] y =
    subst (λ (es : List Event). IsYieldedBy c es) (append-nil first) y
first_yielded c first (e ∷ rest) y =
    let z = first_yielded c (first ++ e ∷ []) rest
    (subst (λ (es : List Event). IsYieldedBy c es) (sym (append_assoc first (e ∷ []) rest)) y) in
    let b = frontiers_part.yields c first e z.run
    (subst (λ (n : ℕ). YieldsFirst (so_far c (first ++ e ∷ [])) z.run n)
    (length-append first (e ∷ [])) z.yields) in
    record { run = b.first; yields = b.yields }

-- where a run explains all events, one yields the first of them
explained_yielded : (c : Setup) (first rest : List Event) (run : List Move)
    → Explains (so_far c (first ++ rest)) run → IsYielded c first
explained_yielded c first rest run x =
    let n = known_length (first ++ rest) in
    let y = first_yielded c first rest (record {
      run = run;
      yields = explains_yields (so_far c (first ++ rest)) run (length (first ++ rest))
          (omega (arith, n)) x;
    }) in
    (y.run, inl y.yields)

-- trials behind the first of them are trials of all
all_tried : (c : Setup) (first rest : List Event) (many : ℕ) → HasMany (IsWatchTrial c first) many
    → HasMany (IsTrial (so_far c (first ++ rest))) many
all_tried c first rest many x = record {
  runs = x.runs;
  count = x.count;
  distinct = x.distinct;
  each = λ run i. trials_grow.last c (first ++ rest) run
      (trials_grow.grow c first rest run (x.each run i));
}

-- and what passes its limit behind them passes it on the way
passes_inside : (c : Setup) (events : List Event) → PassesBehind c events → PassesInside c events
passes_inside c events (guards run p behind unsettled) = (
  _,
  limit_guards run refl (record {
    place = p;
    inner = inner_of c events run p behind;
    unsettled = unsettled;
  }),
)
passes_inside c events (block run p f behind possible outcome) = (
  _,
  limit_block run f refl (record {
    place = p;
    inner = inner_of c events run p behind;
    possible = possible;
    outcome_is = outcome;
  }),
)

passes_all : (c : Setup) (first rest : List Event) → PassesBehind c first
    → PassesInside c (first ++ rest)
passes_all c first rest x =
    let y = passes_inside c first x in (y.0, frontiers_part.more c first rest y.0 y.1)

-- it is accepted or refused, and this is right
pub record IsDecision (c : Setup) (status : Status) : Type 0 where
  pub decides : Decides c status
  pub either : (status ≡ Fine) ⊎ (status ≡ Refused)

fine : (c : Setup) (status : Status) (run : List Move) → Explains c run → status ≡ Fine
    → IsDecision c status
fine c status run x same = record {
  decides = record {
    fine = (λ e. (run, x), λ e. same);
    refused = (
      λ e. absurd (let f : Refused ≡ Fine = sym e ∙ same in cc),
      λ none. absurd (none run x),
    );
  };
  either = inl same;
}

refused : (c : Setup) (status : Status) → ((run : List Move) → Explains c run → ⊥)
    → status ≡ Refused → IsDecision c status
refused c status none same = record {
  decides = record {
    fine = (
      λ e. absurd (let f : Fine ≡ Refused = sym e ∙ same in cc),
      λ run. absurd (none run.0 run.1),
    );
    refused = (λ e. none, λ n. same);
  };
  either = inr same;
}

module _ (c : Setup) (budget : ℕ) (status : Status) where
  finish_decides : (events : List Event) (answer : Watched) → IsFinished c budget events answer
      → status ≡ watched_status answer → IsWithinLimits (so_far c events) budget
      → IsDecision (so_far c events) status
  finish_decides events Possible is same within = fine (so_far c events) status is.0 is.1 same
  finish_decides events Impossible is same within =
      refused (so_far c events) status (λ run x. is.1 (run, x)) same
  finish_decides events OverFirings is same within =
      absurd (too_many (IsTrial (so_far c events)) budget is within.size)
  finish_decides events OverAction (size, none, passes) same within =
      absurd (within.passes passes.0 passes.1)

  event_decides : (first rest : List Event) (answer : Watched) → (answer ≡ Possible → ⊥)
      → IsWatched c budget first answer → status ≡ watched_status answer
      → IsWithinLimits (so_far c (first ++ rest)) budget
      → IsDecision (so_far c (first ++ rest)) status
  event_decides first rest Possible impossible is same within = absurd (impossible refl)
  event_decides first rest Impossible impossible is same within =
      refused (so_far c (first ++ rest)) status
      (λ run x. is.1 (explained_yielded c first rest run x)) same
  event_decides first rest OverFirings impossible is same within =
      absurd (too_many (IsTrial (so_far c (first ++ rest))) budget
      (all_tried c first rest (budget + 1) is) within.size)
  event_decides first rest OverAction impossible (size, none, passes) same within =
      let x = passes_all c first rest passes in absurd (within.passes x.0 x.1)

pub end_decides : (w : Watch) (events : List Event) (status : Status) → EndsWith w events status
    → IsWithinLimits (so_far w.setup events) w.budget → IsDecision (so_far w.setup events) status
end_decides w events status (at_end x) within =
    finish_decides w.setup w.budget status events x.answer x.is x.status_is within
end_decides w events status (at_event x) within =
    subst (λ (es : List Event). IsDecision (so_far w.setup es) status) (sym x.events_are)
    (event_decides w.setup w.budget status x.first x.rest x.answer x.impossible x.is x.status_is
    (subst (λ (es : List Event). IsWithinLimits (so_far w.setup es) w.budget) x.events_are within))
