-- Where a watcher begins, and what it keeps.
use Rattle.std.proofs.Common.{◌≡◌, ℕ, zero, suc, ◌<◌, ◌⊎◌, false, All}
use Rattle.std.proofs.Common.{List, [], ◌∷◌, ◌++◌, None, length, map, refl, sym, subst}
use Rattle.std.proofs.Common.{inl, inr, arith}
use Rattle.std.proofs.lemmas.List.{append-nil, length-append}
use Rattle.est_syntax.specs.declared.specification.Spec.{Spec}
use Rattle.est_meaning.specs.declared.event.Event.{Event}
use Rattle.est_meaning.specs.declared.trace.Expected.TheVariants.{Known}
use Rattle.est_meaning.specs.AllowedEvents.{IsAllowed, IsAllowedExpected, most_events}
use Rattle.est_meaning.specs.RecordedTraces.{known_trace}
use Rattle.est_meaning.specs.SituationStacks.{Stack}
use Rattle.est_meaning.specs.declared.run.Move.{Move}
use Rattle.est_meaning.specs.Order.{Mark, marks_of}
use Rattle.est_meaning.specs.Run.{Setup, IsBegun, IsBoundedRun}
use Rattle.est_meaning.specs.Task.{Suits}
use Rattle.est_meaning.specs.Trials.{IsTrial, HasMany, PassesLimit, guards, block}
use Rattle.est_meaning.proofs.OrderLaws.{starts_cases, marks_same}
use Rattle.run_paths.specs.Paths.{first_view}
use Rattle.est_search.specs.inside.Ahead.{IsAhead}
use Rattle.est_search.specs.inside.Path.{AreLower}
use Rattle.mean_watch.specs.Watching.{so_far, IsWatchTrial}
use Rattle.mean_watch.proofs.Growing.{known_joined, known_length, trials_grow}
use Rattle.est_watch.specs.inside.Walk.{IsFound}

-- each list goes on from the empty one, or is it
nil_or_ahead : (x : List Mark) → (x ≡ []) ⊎ IsAhead [] None x
nil_or_ahead x = elim (starts_cases x [] (x, sym (append-nil x))) [
  | inl e ↦ inl e
  | inr s ↦ inr (inl (s.0, tt, s.1))
]

run_or_ahead : (r : List Move) → (r ≡ []) ⊎ IsAhead [] None (marks_of r)
run_or_ahead r = elim (nil_or_ahead (marks_of r)) [
  | inl e ↦ inl (marks_same r [] e)
  | inr a ↦ inr a
]

nil_passes : (c : Setup) → PassesLimit c [] → ⊥
nil_passes c (guards run at u) = cc
nil_passes c (block earlier f at t) = cc

module _ (c : Setup) (stack : Stack) (now : c.start ≡ stack.now) (below : stack.below ≡ []) where
  abbrev none_given : Setup
  none_given = so_far c []

  at_start : IsBoundedRun none_given []
      (record { situation = c.start; events = c.start_outs; silent_in_row = 0 })
  at_start = refl

  -- no event was given yet: what the start sent is to come
  pub start_found : IsFound none_given false stack (first_view 0) c.start_outs 0 false
  start_found = record {
    stands = record {
      events = [];
      is_run = subst (λ s. IsBoundedRun none_given []
          (record { situation = s; events = c.start_outs; silent_in_row = 0 })) now at_start;
      agree = tt;
      before = tt;
      matched = refl;
      fresh = refl;
      none_left = refl;
      lower = subst (λ ss. AreLower none_given [] [] ss []) (sym below) tt;
    };
    ends = λ t. (let never : ⊥ = cc in absurd never);
    trials = record {
      trials = [];
      count = refl;
      distinct = tt;
      each = λ x i. absurd i;
      all = λ x t. elim (run_or_ahead x) [
        | inl e ↦ absurd (subst (IsTrial none_given) e t)
        | inr p ↦ inr p
      ];
      earlier = λ x y i p. absurd i;
    };
    sought = λ r s. run_or_ahead r;
    met = λ x k. elim (nil_or_ahead x) [
      | inl e ↦ absurd (nil_passes none_given (subst (PassesLimit none_given) e k))
      | inr p ↦ p
    ];
  }

  pub start_suits : (spec : Spec) (limit silent : ℕ) → c.spec ≡ spec → c.limit ≡ limit
      → c.silent ≡ silent → IsBegun c
      → Suits none_given spec limit silent (known_trace [])
  start_suits spec limit silent spec_is limit_is silent_is begun = record {
    spec_is = spec_is;
    limit_is = limit_is;
    silent_is = silent_is;
    trace_is = refl;
    begun = begun;
    allowed = record {
      few = omega arith;
      each = λ k d lt. (let never : ⊥ = omega arith in absurd never);
    };
  }

-- nothing was tried
pub none_tried : (P : List Move → Type 0) → HasMany P 0
none_tried P = record { runs = []; count = refl; distinct = tt; each = λ x i. absurd i }

-- ONE MORE IS GIVEN

all_more : {X : Type 0} (P : X → Type 0) (xs : List X) (x : X) → All P xs → P x
    → All P (xs ++ x ∷ [])
all_more P [] x a p zero d lt = p
all_more P [] x a p (suc k) d lt = (let never : ⊥ = omega arith in absurd never)
all_more P (y ∷ ys) x a p zero d lt = a 0 d (omega arith)
all_more P (y ∷ ys) x a p (suc k) d lt =
    all_more P ys x (λ j b less. a (suc j) b (omega arith)) p k d (omega arith)

pub suits_grow : (c : Setup) (given : List Event) (e : Event) (spec : Spec) (limit silent : ℕ)
    → IsAllowed spec e → length given < most_events
    → Suits (so_far c given) spec limit silent (known_trace given)
    → Suits (so_far c (given ++ e ∷ [])) spec limit silent (known_trace (given ++ e ∷ []))
suits_grow c given e spec limit silent allowed few s = record {
  spec_is = s.spec_is;
  limit_is = s.limit_is;
  silent_is = s.silent_is;
  trace_is = refl;
  begun = s.begun;
  allowed = record {
    few = (let n = known_length (given ++ e ∷ []) in let m = length-append given (e ∷ []) in
        omega arith);
    each = subst (All (IsAllowedExpected c.spec)) (sym (known_joined given (e ∷ [])))
        (all_more (IsAllowedExpected c.spec) (map Known given) (Known e) s.allowed.each
        (subst (λ x. IsAllowed x e) (sym s.spec_is) allowed));
  };
}

-- what was tried behind the events is behind more
pub size_grows : (c : Setup) (given : List Event) (e : Event) (many : ℕ)
    → HasMany (IsWatchTrial c given) many → HasMany (IsWatchTrial c (given ++ e ∷ [])) many
size_grows c given e many h = record {
  runs = h.runs;
  count = h.count;
  distinct = h.distinct;
  each = λ x i. trials_grow.grow c given (e ∷ []) x (h.each x i);
}
