-- The start of a search, and the verdicts that it may give at once.
use Rattle.std.proofs.Common.{◌≡◌, ℕ, ◌+◌, ◌-◌, ◌<◌, ◌≤◌, ◌⊎◌, List, [], ◌∷◌, ◌++◌, None}
use Rattle.std.proofs.Common.{length, take, reverse, refl, sym, ap, subst, ◌∙◌, inl, inr}
use Rattle.std.proofs.Common.{zero-le, arith}
use Rattle.std.proofs.lemmas.List.{append-nil}
use Rattle.est_syntax.specs.declared.specification.Spec.{Spec}
use Rattle.est_meaning.specs.mean_blocks.GlobalSituation.{Situation}
use Rattle.est_meaning.specs.mean_blocks.TextByPlace.{text_of}
use Rattle.est_meaning.specs.declared.event.Event.{Event}
use Rattle.est_meaning.specs.Endings.{IsTraceEnd}
use Rattle.est_meaning.specs.RecordedTraces.{Recorded}
use Rattle.est_meaning.specs.Agreement.{AgreeAll}
use Rattle.est_meaning.specs.SituationStacks.{Stack}
use Rattle.est_meaning.specs.declared.run.Move.{Move}
use Rattle.est_meaning.specs.declared.run.Move.TheVariants.{Take, Fire}
use Rattle.est_meaning.specs.Order.{Mark, marks_of, Before, longer, differs, NotAfter}
use Rattle.est_meaning.specs.Run.{Setup, Place, first_place, IsBoundedRun, Follows, Explains}
use Rattle.est_meaning.specs.Run.{IsWhole, YieldsFirst}
use Rattle.est_meaning.specs.Trials.{IsTrial, HasMany, PassesLimit, guards, block, Faults}
use Rattle.est_meaning.proofs.Endings.{whole_ends, ends_there, ends_here}
use Rattle.est_meaning.proofs.OrderLaws.{starts_cases, marks_same}
use Rattle.est_meaning.proofs.RunLaws.{explains_follows, yields_below_all}
use Rattle.est_meaning.proofs.TreeLaws.{IsOnTree, starts_on_tree, nothing_starts}
use Rattle.run_paths.specs.declared.path.Best.{Best}
use Rattle.est_search.specs.declared.walk.Walk.{Walk}
use Rattle.est_search.specs.Verdict.{IsRefused, IsVerdict, IsWithinTried}
use Rattle.est_search.specs.declared.verdict.Verdict.TheVariants.{Accepted, Refused}
use Rattle.est_search.specs.inside.Ahead.{IsAhead}
use Rattle.est_search.specs.inside.Agreement.{AgreeFor}
use Rattle.run_paths.specs.Paths.{first_view, view_of}
use Rattle.est_search.specs.inside.Path.{AreLower}
use Rattle.est_search.specs.inside.Walk.{Accepts, IsStarting, IsBeginning, IsReady, IsOnWay}
use Rattle.est_search.proofs.EventLaws.{yields_so, yields_no_more, departs, agree_now}
use Rattle.est_search.proofs.EventLaws.{is_unfinished, explains_so}

-- each list goes on from the empty one, or is it
nil_or_ahead : (x : List Mark) → (x ≡ []) ⊎ IsAhead [] None x
nil_or_ahead x = elim (starts_cases x [] (x, sym (append-nil x))) [
  | inl e ↦ inl e
  | inr s ↦ inr (inl (s.0, tt, s.1))
]

run_or_ahead : (r : List Move) → (r ≡ []) ⊎ IsAhead [] None (marks_of r)
run_or_ahead r = elim (nil_or_ahead (marks_of r)) [
  | inl e ↦ inl (marks_same r [] e)
  | inr a ↦ inr a
]

-- the run without moves comes first
pub nil_first : (r : List Move) → NotAfter [] r
nil_first r = elim (starts_cases (marks_of r) [] (marks_of r, sym (append-nil (marks_of r)))) [
  | inl e ↦ inl (sym (marks_same r [] e))
  | inr s ↦ inr (longer s.0 s.1)
]

nil_last : (x : List Mark) → Before x [] → ⊥
nil_last x (longer m s) = nothing_starts m x s
nil_last x (differs common m n lt s t) = nothing_starts n common t

nil_passes : (c : Setup) → PassesLimit c [] → ⊥
nil_passes c (guards run at u) = cc
nil_passes c (block earlier f at t) = cc

nil_faults : (c : Setup) → Faults c [] → ⊥
nil_faults c t = (let e = t.at in cc)

-- THE EVENTS OF THE START AGREE WITH THE TRACE

module _ (c : Setup) (k : ℕ) (a : AgreeFor c.trace.events 0 c.start_outs k) where
  at_start : IsBoundedRun c [] (first_place c)
  at_start = refl

  most : (j : ℕ) → YieldsFirst c [] j → j ≤ k
  most j y = (let le = yields_no_more c [] (first_place c) at_start [] c.start_outs 0 k tt refl a j
      y in omega arith)

  has : YieldsFirst c [] k
  has = (let e : 0 + k ≡ k = omega arith in subst (λ n. YieldsFirst c [] n) e
      (yields_so c [] (first_place c) at_start [] c.start_outs 0 k tt refl a tt))

  -- THE EVENTS OF THE START DEPART FROM THE TRACE

  module _ (short : k < length c.start_outs) where
    off : IsOnTree c [] → ⊥
    off = departs c [] (first_place c) at_start [] c.start_outs 0 k tt refl a short

    off_run : (r : List Move) (p : Place) → IsBoundedRun c r p → Follows c p → ⊥
    off_run r p is f = off (starts_on_tree c r [] p is f (r, sym (append-nil r)))

    no_trial : (x : List Move) → IsTrial c x → ⊥
    no_trial [] t = t
    no_trial (Take ∷ e) t = t
    no_trial (Fire f ∷ e) t = off_run e t.0 t.1.is_run t.1.follows

    no_run : (r : List Move) → Explains c r → ⊥
    no_run r e = off_run r e.place e.is_run (explains_follows c r e)

    no_pass : (x : List Mark) → PassesLimit c x → ⊥
    no_pass x (guards run at u) = off_run run u.place u.inner.is_run u.inner.follows
    no_pass x (block earlier f at t) = off_run earlier t.place t.inner.is_run t.inner.follows

    no_fault : (x : List Mark) → Faults c x → ⊥
    no_fault x t = off_run t.earlier t.comes.place t.comes.inner.is_run t.comes.inner.follows

    least : (r : List Move) (j : ℕ) → YieldsFirst c r j → j ≤ k
    least [] j y = most j y
    least (m ∷ e) j y = absurd (off_run e y.before.0 y.before.1 y.before.2)

    pub start_refused : (budget : ℕ) → IsRefused c budget (k + 1) [] None
    start_refused budget = record {
      unexplained = record {
        size = (
          0,
          zero-le,
          record {
            found = record { runs = []; count = refl; distinct = tt; each = λ x i. absurd i };
            all = λ x t. absurd (no_trial x t);
          },
        );
        none = no_run;
      };
      within = no_pass;
      least = record {
        unyielded = λ r y. elim y [
          | inl b ↦ (let le = least r (k + 1) b in omega arith)
          | inr b ↦ no_run r b.1
        ];
        below = λ j lt. ([], yields_below_all.smaller c [] k j (omega arith) (inl has));
      };
      first = λ j e. record {
        has = yields_below_all.smaller c [] k j (omega arith) (inl has);
        least = λ r y. nil_first r;
      };
      faulted_is = no_fault;
    }

module _ (c : Setup) (a : AgreeFor c.trace.events 0 c.start_outs (length c.start_outs)) where
  whole_start : IsBoundedRun c [] (first_place c)
  whole_start = refl

  all_outs : 0 + length c.start_outs ≡ length c.start_outs
  all_outs = omega arith

  -- the trace ends with so many events, at the start
  abbrev EndsWith : ℕ → Type 0
  EndsWith n = IsTraceEnd c.trace c.limit (text_of c.spec) c.start n

  -- it ends with the events of the start
  pub start_accepts : EndsWith (length c.start_outs) → Accepts c [] 0
  start_accepts end = record {
    first = record {
      has = explains_so c [] (first_place c) whole_start [] c.start_outs 0 tt refl a
          (subst EndsWith (sym all_outs) end);
      least = λ r x. nil_first r;
    };
    tried_is = record {
      found = record { runs = []; count = refl; distinct = tt; each = λ x i. absurd i };
      all = λ x t. absurd (elim t.1 [
        | inl w ↦ subst (IsTrial c) w t.0
        | inr b ↦ nil_last (marks_of x) b
      ]);
    };
  }

  -- it does not
  module _ (never : EndsWith (length c.start_outs) → ⊥) where
    unfinished : Explains c [] → ⊥
    unfinished = is_unfinished c [] (first_place c) whole_start [] c.start_outs 0 tt refl a
        (λ end. never (subst EndsWith all_outs end))

    -- where the run without moves stands, in this situation
    abbrev place_in : Situation → Place
    place_in s = record { situation = s; events = c.start_outs; silent_in_row = 0 }

    start_place : IsBoundedRun c [] (place_in c.start)
    start_place = refl

    start_within : length c.start_outs ≤ length c.trace.events
    start_within = (let w = a.within in omega arith)

    start_agrees : AgreeAll (take (length c.start_outs) c.trace.events) c.start_outs
    start_agrees = subst (λ k. AgreeAll (take k c.trace.events) c.start_outs) all_outs
        (agree_now c [] (first_place c) whole_start [] c.start_outs 0 tt refl a)

    start_open : (s : Situation) → c.start ≡ s → IsWhole c (place_in s) → ⊥
    start_open s now whole =
        never (whole_ends c (place_in c.start) (length c.start_outs) start_within start_agrees
        (subst (λ u. IsWhole c (place_in u)) (sym now) whole))

    start_on : (stack : Stack) (best : Best Move) → c.start ≡ stack.now → stack.below ≡ []
        → best.yields ≡ length c.start_outs → best.common ≡ 0 → best.tail.items ≡ []
        → IsOnWay c stack (first_view (length c.start_outs)) 0 best
        (record { passed = None; faulted = None })
    start_on stack best now below yields common tail = record {
      dealt = None;
      at = record {
        mine = [];
        rest = [];
        firings_are = refl;
        count = refl;
        node = record {
          events = c.start_outs;
          is_run = subst (λ s. IsBoundedRun c [] (place_in s)) now start_place;
          within = start_within;
          agree = start_agrees;
          unfinished = start_open stack.now now;
        };
        stage = (refl, refl);
        lower = subst (λ ss. AreLower c [] [] ss []) (sym below) tt;
      };
      all = record {
        run = [];
        kept = record {
          start = [];
          starts = ([], refl);
          common = sym common;
          run_is = sym (ap (λ w. w ++ []) tail);
        };
        knows = record {
          trials = record {
            trials = [];
            count = refl;
            distinct = tt;
            each = λ x i. absurd i;
            all = λ x t. elim (run_or_ahead x) [
              | inl e ↦ absurd (subst (IsTrial c) e t)
              | inr p ↦ inr p
            ];
            earlier = λ x y i p. absurd i;
          };
          explaining = λ r e. elim (run_or_ahead r) [
            | inl w ↦ absurd (unfinished (subst (Explains c) w e))
            | inr p ↦ p
          ];
          best = record {
            has = subst (λ n. YieldsFirst c [] n) (sym yields) (has c (length c.start_outs) a);
            least = λ r y. nil_first r;
            more = λ r j y more. elim (run_or_ahead r) [
              | inl w ↦
                  (let le = most c (length c.start_outs) a j (subst (λ u. YieldsFirst c u j) w y) in
                  absurd (omega arith))
              | inr p ↦ p
            ];
          };
          passes = λ x k. elim (nil_or_ahead x) [
            | inl e ↦ absurd (nil_passes c (subst (PassesLimit c) e k))
            | inr p ↦ p
          ];
          faults = λ x k. elim (nil_or_ahead x) [
            | inl e ↦ absurd (nil_faults c (subst (Faults c) e k))
            | inr p ↦ p
          ];
        };
        noted = (tt, tt);
      };
    }

-- AS THE CODE ASKS IT

module _ (c : Setup) (spec : Spec) (limit silent : ℕ) (trace : Recorded) (stack : Stack)
    (outs : List Event) (s : IsStarting c spec limit silent trace stack outs) (k : ℕ)
    (a : AgreeFor trace.events 0 outs k) where
  agree : AgreeFor c.trace.events 0 c.start_outs k
  agree = subst (λ (t : Recorded). AgreeFor t.events 0 c.start_outs k) (sym s.setup.suits.trace_is)
      (subst (λ es. AgreeFor trace.events 0 es k) (sym s.setup.outs_are) a)

  outs_length : length c.start_outs ≡ length outs
  outs_length = ap length s.setup.outs_are

  outs_many : length outs ≤ k → length c.start_outs ≡ k
  outs_many le = (let m = a.many in let o = outs_length in omega arith)

  pub answer_departs : (budget at : ℕ) (run : List Move) → k < length outs → at ≡ k + 1
      → run ≡ [] → IsVerdict c budget (Refused at run None)
  answer_departs budget at run lt at_is run_is =
      let o = outs_length in
      subst (λ n. IsRefused c budget n (reverse run) None) (sym at_is)
      (subst (λ r. IsRefused c budget (k + 1) (reverse r) None) (sym run_is)
      (start_refused c k agree (omega arith) budget))

  module _ (le : length outs ≤ k) where
    -- the trace ends at the start
    module _ (end : IsTraceEnd trace limit (text_of spec) stack.now k) (run : List Move)
        (run_is : run ≡ []) where
      end_there : IsTraceEnd c.trace c.limit (text_of c.spec) c.start (length c.start_outs)
      end_there = subst (λ n. IsTraceEnd c.trace c.limit (text_of c.spec) c.start n)
          (sym (outs_many le)) (ends_there c spec limit silent trace s.setup.suits c.start k
          (subst (λ (u : Situation). IsTraceEnd trace limit (text_of spec) u k)
          (sym s.setup.start_is) end))

      accepts : Accepts c (reverse run) 0
      accepts = subst (λ r. Accepts c (reverse r) 0) (sym run_is)
          (start_accepts c (subst (λ n. AgreeFor c.trace.events 0 c.start_outs n)
          (sym (outs_many le)) agree) end_there)

      pub answer_whole : (budget : ℕ) → IsVerdict c budget (Accepted run)
      answer_whole budget = record {
        first = accepts.first;
        tried = (0, zero-le, accepts.tried_is);
      }

      pub whole_tried : (many : ℕ) → many ≡ 0 → IsWithinTried c (Accepted run) many
      whole_tried many none = subst (λ n. IsWithinTried c (Accepted run) n) (sym none)
          accepts.tried_is.found

    -- it does not, and the world stands there again
    pub beginning : (IsTraceEnd trace limit (text_of spec) stack.now k → ⊥) → (limit' : ℕ)
        (stack' : Stack) → limit' ≡ limit → stack' ≡ stack
        → IsBeginning c spec limit' silent trace stack' k
    beginning never limit' stack' l e =
        subst (λ n. IsBeginning c spec n silent trace stack' k) (sym l)
        (subst (λ (x : Stack). IsBeginning c spec limit silent trace x k) (sym e) (record {
          suits = s.setup.suits;
          start_is = s.setup.start_is;
          bottom = s.bottom;
          many = outs_many le;
          agree = agree;
          unfinished = λ end. never
              (subst (λ (u : Situation). IsTraceEnd trace limit (text_of spec) u k)
              s.setup.start_is (ends_here c spec limit silent trace s.setup.suits c.start k end));
        }))

-- no move was made yet
pub ready_at_start : (c : Setup) (spec : Spec) (limit silent : ℕ) (trace : Recorded)
    (stack : Stack) (k : ℕ) (w : Walk) → IsBeginning c spec limit silent trace stack k
    → view_of w.path ≡ first_view k → w.best.yields ≡ k → w.best.common ≡ 0
    → w.best.tail.items ≡ [] → w.notes ≡ record { passed = None; faulted = None }
    → w.tried ≡ 0 → IsReady c spec limit silent trace stack w
ready_at_start c spec limit silent trace stack k w b path yields common tail notes tried = record {
  suits = b.suits;
  on_way = subst (λ v. IsOnWay c stack v w.tried w.best w.notes) (ap first_view b.many ∙ sym path)
      (subst (λ n. IsOnWay c stack (first_view (length c.start_outs)) n w.best w.notes) (sym tried)
      (subst (λ n. IsOnWay c stack (first_view (length c.start_outs)) 0 w.best n) (sym notes)
      (start_on c (subst (λ n. AgreeFor c.trace.events 0 c.start_outs n) (sym b.many) b.agree)
      (λ end. b.unfinished
      (subst (λ n. IsTraceEnd c.trace c.limit (text_of c.spec) c.start n) b.many end)) stack w.best
      b.start_is b.bottom (yields ∙ sym b.many) common tail)));
}

-- nothing was fired
pub none_fired : (P : List Move → Type 0) (new old : ℕ) → new ≡ old → HasMany P (new - old)
none_fired P new old same =
    let none : new - old ≡ 0 = omega arith in
    subst (HasMany P) (sym none)
    (record { runs = []; count = refl; distinct = tt; each = λ x i. absurd i })
