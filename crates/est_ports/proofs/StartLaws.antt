-- The start of a walk, and the verdicts that it may give at once.
use Rattle.std.proofs.Common.{◌≡◌, ℕ, ◌-◌, ◌<◌, ◌≤◌, ◌⊎◌, List, [], ◌∷◌, ◌++◌, Option, Some, None}
use Rattle.std.proofs.Common.{length, take, reverse, refl, sym, ap, subst, ◌∙◌, inl, inr, zero-le}
use Rattle.std.proofs.Common.{arith}
use Rattle.std.specs.Prelude.{slice_get}
use Rattle.std.proofs.lemmas.List.{append-nil, length-append, length-take-le, take_all}
use Rattle.est_syntax.specs.declared.specification.Spec.{Spec}
use Rattle.est_meaning.proofs.OrderLaws.{starts_cases}
use Rattle.est_meaning.specs.AllowedEvents.{most_events}
use Rattle.est_meaning.specs.RecordedTraces.{Recorded, known_trace}
use Rattle.est_meaning.specs.Run.{Setup}
use Rattle.est_meaning.specs.SituationStacks.{Stack}
use Rattle.est_meaning.specs.declared.event.Event.{Event}
use Rattle.est_meaning.specs.declared.firing.Firing.{Firing}
use Rattle.est_meaning.specs.declared.run.Move.{Move}
use Rattle.est_meaning.specs.mean_blocks.GlobalSituation.{Situation}
use Rattle.mean_ports.proofs.Finishing.{all_even, all_first, some_finish, start_even, started}
use Rattle.mean_ports.proofs.Lengths.{known_length, merges_as_long}
use Rattle.mean_ports.specs.declared.lists.PortLists.{PortLists}
use Rattle.mean_ports.specs.declared.moves.PortMove.{PortMove}
use Rattle.mean_ports.specs.declared.moves.PortMove.TheVariants.{Fire}
use Rattle.mean_ports.specs.declared.verdict.PortsVerdict.TheVariants.{Accepted, Refused}
use Rattle.mean_ports.specs.HowMany.{HasMany}
use Rattle.mean_ports.specs.Merges.{AreAllowedLists, IsMerge}
use Rattle.mean_ports.specs.PortRuns.{Left, PortPlace, IsPortRun, IsAllUsed, AreNext, IsNextAt}
use Rattle.mean_ports.specs.PortRuns.{all_left}
use Rattle.mean_ports.specs.PortTrials.{IsPortTrial}
use Rattle.mean_ports.specs.PortYields.{PortYields}
use Rattle.mean_ports.specs.PortsVerdict.{IsPortsVerdict}
use Rattle.run_paths.specs.declared.path.Best.{Best}
use Rattle.run_paths.specs.declared.path.Stage.TheVariants.{Fresh}
use Rattle.run_paths.specs.Paths.{view_of, first_view}
use Rattle.est_ports.specs.declared.left.Used.{Used}
use Rattle.est_ports.specs.declared.left.Rest.{Rest}
use Rattle.est_ports.specs.declared.walk.Walk.{Walk}
use Rattle.est_ports.specs.inside.Ahead.{GoesOn, IsAhead, AreGuardsAhead}
use Rattle.est_ports.specs.inside.Known.{IsUsing, IsPassAhead, Knows}
use Rattle.est_ports.specs.inside.Leftover.{HasUsedUp, Stands, HasUsed, UsesMore, used_of, lower}
use Rattle.est_ports.specs.inside.Leftover.{kept}
use Rattle.est_ports.specs.inside.Standing.{place_at, of_run, of_start, AreLower, IsAt, IsBest}
use Rattle.est_ports.specs.inside.Walk.{BeginsWith, IsReady, IsStarting, IsBeginning}
use Rattle.est_ports.proofs.BestLaws.{stands_up, lower_all}
use Rattle.est_ports.proofs.CallLaws.{on_way_by}
use Rattle.est_ports.proofs.PathLaws.{open_none}
use Rattle.est_ports.proofs.PortPlaces.{one_port_place}
use Rattle.est_ports.proofs.PortTree.{IsOnTree, run_starts}
use Rattle.est_ports.proofs.VerdictLaws.{refused, accepted}
use Rattle.est_ports.proofs.YieldLaws.{ways, none_beyond}

-- each run goes on from the one without moves, or is it
nil_or_more : (r : List PortMove) → (r ≡ []) ⊎ GoesOn Fresh [] [] r
nil_or_more r = elim (starts_cases r [] (r, sym (append-nil r))) [
  | inl e ↦ inl e
  | inr s ↦ inr (record { move = s.0; is_left = tt; starts = s.1 })
]

-- nothing was fired
pub none_fired : (P : List PortMove → Type 0) (new old : ℕ) → new ≡ old → HasMany P (new - old)
none_fired P new old same =
    let none : new - old ≡ 0 = omega arith in
    subst (λ n. HasMany P n) (sym none)
    (record { runs = []; count = refl; distinct = tt; each = λ x i. absurd i })

module _ (c : Setup) (lists : PortLists) where
  -- all of the lists
  abbrev all : Left
  all = all_left lists.phases lists.times

  -- THE EVENTS OF THE START ARE WITHIN THE LIMITS

  pub start_few : (spec : Spec) → AreAllowedLists spec lists → (es : List Event) (after : Left)
      → AreNext all es after → length es ≤ most_events
  start_few spec allowed es after a =
      let even = all_even all after es a (start_even lists.phases lists.times allowed.many) in
      let g = some_finish after.now after.later after.times even in
      let events = es ++ g.0 in
      let m : IsMerge lists (known_trace events) = record {
        events = events;
        known = refl;
        merges = started lists.phases lists.times events allowed.many
            (all_first all after es g.0 a g.1);
      } in
      let n = merges_as_long lists (known_trace events) m in
      let k = known_length events in
      let l = length-append es g.0 in
      let few = allowed.few in
      omega arith

  -- NOT ALL OF THEM ARE NEXT ONES

  module _ (many : ℕ) (after : Left) (short : many < length c.start_outs)
      (next : AreNext all (take many c.start_outs) after)
      (stop : (e : Event) (beyond : Left) → slice_get c.start_outs many ≡ Some e
      → IsNextAt after e beyond → ⊥) where
    no_more_start : (n : ℕ) (end : Left) → n ≤ length c.start_outs
        → AreNext all (take n c.start_outs) end → n ≤ many
    no_more_start n end le a = none_beyond c.start_outs all after many next stop n end le a

    no_start : IsOnTree c lists [] → ⊥
    no_start on =
        let whole : take (length c.start_outs) c.start_outs ≡ c.start_outs =
        take_all (length c.start_outs) c.start_outs (omega arith) in
        let n = no_more_start (length c.start_outs) on.1.left (omega arith)
        (subst (λ x. AreNext all x on.1.left) (sym whole) on.1.next) in
        omega arith

    no_run : (r : List PortMove) → IsOnTree c lists r → ⊥
    no_run r on = no_start (run_starts c lists r [] on (r, sym (append-nil r)))

    no_trial : (x : List PortMove) → IsPortTrial c lists x → ⊥
    no_trial [] t = t
    no_trial (m ∷ h) t = no_run h (t.0, t.1.is_run)

    none_yields : (r : List PortMove) (k : ℕ) → PortYields c lists r k → k ≤ many
    none_yields r k y = elim (ways c lists r k y) [
      | inl w ↦ absurd (no_run r (w.place, w.is_run))
      | inr u ↦ elim u [
        | inl w ↦ absurd (no_run w.earlier (w.place, w.is_run))
        | inr w ↦
            (let h = w.reaches in
            let n = no_more_start h.many h.after h.within h.next in
            let enough = h.enough in
            omega arith)
      ]
    ]

    start_knows : Knows c lists (λ x. ⊥) (λ x. ⊥) 0 0 many None
    start_knows = record {
      trials = record {
        trials = [];
        count = refl;
        distinct = tt;
        each = λ x i. absurd i;
        all = λ x t. absurd (no_trial x t);
        apart = λ x i p. absurd i;
        firings = record {
          firings = [];
          count = refl;
          distinct = tt;
          each = λ x i. absurd i;
          tried = λ x i. absurd i;
        };
      };
      using = λ r u. no_run r (u.place, u.is_run);
      more = λ r k y lt. (let le = none_yields r k y in omega arith);
      passes = λ u. absurd (no_run u.run (u.place, u.inner.is_run));
    }

-- so many are used up where nothing was
pub height_of : (rest new : Rest) (many : ℕ) → UsesMore (used_of rest) (used_of new) many
    → used_of rest ≡ [] → length (used_of new) ≡ many
height_of rest new many u none =
    ap length (u.after_is ∙ ap (λ x. u.front ++ x) none ∙ append-nil u.front) ∙ u.count

-- AS THE CODE ASKS IT

module _ (c : Setup) (spec : Spec) (limit silent : ℕ) (lists : PortLists) (stack : Stack)
    (outs : List Event) (s : IsStarting c spec limit silent lists stack outs) (rest new : Rest)
    (many : ℕ) (le : many ≤ length outs)
    (none_used : Stands lists rest (all_left lists.phases lists.times) [])
    (uses : (left : Left) (events : List Event) → Stands lists rest left events
    → HasUsed lists new left events outs many) where
  abbrev has : HasUsed lists new (all_left lists.phases lists.times) [] outs many
  has = uses (all_left lists.phases lists.times) [] none_used

  same_size : length c.start_outs ≡ length outs
  same_size = ap length s.outs_are

  next_there : AreNext (all_left lists.phases lists.times) (take many c.start_outs) has.after
  next_there = subst (λ x. AreNext (all_left lists.phases lists.times) (take many x) has.after)
      (sym s.outs_are) has.next

  stand_there : Stands lists new has.after (take many c.start_outs)
  stand_there = subst (λ x. Stands lists new has.after (take many x)) (sym s.outs_are) has.stands

  pub most_few : many ≤ most_events
  most_few =
      let few = start_few c lists c.spec s.suits.allowed (take many c.start_outs) has.after
      next_there in
      let e = same_size in
      let n = length-take-le many c.start_outs (omega arith) in
      omega arith

  -- not all events of the start are next ones
  pub answer_departs : (budget most : ℕ) (merge : Recorded) (run : List Move) → many < length outs
      → most ≡ many → run ≡ [] → BeginsWith lists (used_of new) merge
      → IsPortsVerdict c lists budget (Refused most merge run)
  answer_departs budget most merge run short most_is run_is from =
      let e = same_size in
      let few : many ≤ length c.start_outs = omega arith in
      let k = start_knows c lists many has.after (omega arith) next_there
      (subst (λ x. (y : Event) (beyond : Left) → slice_get x many ≡ Some y
      → IsNextAt has.after y beyond → ⊥) (sym s.outs_are) has.no_more) in
      refused c lists 0 0 many budget None k zero-le s.suits.begun s.suits.allowed most merge
      (reverse run) [] (take many c.start_outs) refl most_is (ap reverse run_is)
      (of_start many has.after few next_there refl) (length-take-le many c.start_outs few)
      (from has.after (take many c.start_outs) s.suits.allowed.many
      (stands_up lists new has.after (take many c.start_outs) stand_there))

  -- all of them are
  module _ (all_next : length outs ≤ many) where
    whole : take many c.start_outs ≡ c.start_outs
    whole = (let e = same_size in take_all many c.start_outs (omega arith))

    abbrev first : PortPlace
    first = record {
      situation = c.start;
      events = c.start_outs;
      left = has.after;
      silent_in_row = 0;
    }

    next_whole : AreNext (all_left lists.phases lists.times) c.start_outs has.after
    next_whole = subst (λ x. AreNext (all_left lists.phases lists.times) x has.after) whole
        next_there

    first_run : IsPortRun c lists [] first
    first_run = record { left = has.after; next = next_whole; place_is = refl }

    stand_whole : Stands lists new has.after c.start_outs
    stand_whole = subst (λ x. Stands lists new has.after x) whole stand_there

    -- they use the lists up
    pub answer_whole : (budget : ℕ) (merge : Recorded) (run : List Move)
        → ((left : Left) (events : List Event) → Stands lists new left events → IsAllUsed left)
        → run ≡ [] → BeginsWith lists (used_of new) merge
        → IsPortsVerdict c lists budget (Accepted merge run)
    answer_whole budget merge run used run_is from =
        accepted c lists (used_of new) [] merge (reverse run) s.suits.allowed (record {
          place = first;
          is_run = first_run;
          all_used = used has.after c.start_outs stand_whole;
          uses = stands_up lists new has.after c.start_outs stand_whole;
        }) from (ap reverse run_is)

    -- they do not
    pub beginning : ((left : Left) (events : List Event) → Stands lists new left events
        → IsAllUsed left → ⊥) → length (used_of new) ≡ many
        → IsBeginning c spec limit silent lists stack new many
    beginning unfinished height = record {
      suits = s.suits;
      start_is = s.start_is;
      bottom = s.bottom;
      many = (let e = same_size in omega arith);
      height = height;
      left = has.after;
      next = next_whole;
      stands = stand_whole;
      unfinished = unfinished has.after c.start_outs stand_whole;
    }

-- no move was made yet
module _ (c : Setup) (spec : Spec) (limit silent : ℕ) (lists : PortLists) (stack : Stack)
    (rest : Rest) (matched : ℕ) (b : IsBeginning c spec limit silent lists stack rest matched)
  where
    abbrev at_first : PortPlace
    at_first = place_at stack.now (record { matched = matched; silent = 0; left = 0 }) c.start_outs
        b.left

    run_first : IsPortRun c lists [] at_first
    run_first = record {
      left = b.left;
      next = b.next;
      place_is = ap (λ (x : Situation). place_at x
          (record { matched = matched; silent = 0; left = 0 }) c.start_outs b.left)
          (sym b.start_is);
    }

    few_first : (k : ℕ) → PortYields c lists [] k → k ≤ matched
    few_first k y = elim (ways c lists [] k y) [
      | inl w ↦
          (let same = one_port_place c lists [] w.place at_first w.is_run run_first in
          let n = ap (λ (x : PortPlace). length x.events) same in
          let few = w.few in
          let many = b.many in
          omega arith)
      | inr u ↦ elim u [
        | inl w ↦ (let e = w.run_is in let never : ⊥ = cc in absurd never)
        | inr w ↦
            (let h = w.reaches in
            let within = h.within in
            let enough = h.enough in
            let many = b.many in
            omega arith)
      ]
    ]

    not_using : IsUsing c lists [] → ⊥
    not_using u = b.unfinished (subst (λ (x : PortPlace). IsAllUsed x.left)
        (one_port_place c lists [] u.place at_first u.is_run run_first) u.all_used)

    -- what is ahead at the start
    abbrev First : List PortMove → Type 0
    First = IsAhead (first_view matched)

    abbrev GuardsFirst : List PortMove → Type 0
    GuardsFirst = AreGuardsAhead (first_view matched)

    ahead_first : (r : List PortMove) → (r ≡ []) ⊎ First r
    ahead_first r = elim (nil_or_more r) [ inl e ↦ inl e | inr g ↦ inr (inl g) ]

    passes_first : (run : List PortMove) (o : Option Firing)
        → IsPassAhead First GuardsFirst run o
    passes_first run None = elim (nil_or_more run) [
      | inl e ↦ inl (inr (tt, e))
      | inr g ↦ inl (inl g)
    ]
    passes_first run (Some f) = elim (nil_or_more (Fire f ∷ run)) [
      | inl e ↦ (let never : ⊥ = cc in absurd never)
      | inr g ↦ inl g
    ]

    trial_first : (x : List PortMove) → IsPortTrial c lists x → First x
    trial_first [] t = absurd t
    trial_first (m ∷ h) t = elim (nil_or_more (m ∷ h)) [
      | inl e ↦ (let never : ⊥ = cc in absurd never)
      | inr g ↦ inl g
    ]

    knows_first : Knows c lists First GuardsFirst 0 0 matched None
    knows_first = record {
      trials = record {
        trials = [];
        count = refl;
        distinct = tt;
        each = λ x i. absurd i;
        all = λ x t. inr (trial_first x t);
        apart = λ x i p. absurd i;
        firings = record {
          firings = [];
          count = refl;
          distinct = tt;
          each = λ x i. absurd i;
          tried = λ x i. absurd i;
        };
      };
      using = λ r u. elim (ahead_first r) [
        | inl e ↦ absurd (not_using (subst (λ x. IsUsing c lists x) e u))
        | inr p ↦ p
      ];
      more = λ r k y lt. elim (ahead_first r) [
        | inl e ↦
            (let le = few_first k (subst (λ x. PortYields c lists x k) e y) in absurd (omega arith))
        | inr p ↦ p
      ];
      passes = λ u. passes_first u.run u.firing;
    }

    at_start : IsAt c lists stack (first_view matched) rest
    at_start = record {
      node = record {
        events = c.start_outs;
        left = b.left;
        is_run = run_first;
        uses = stands_up lists rest b.left c.start_outs b.stands;
        height = b.height;
        count = b.many;
        unfinished = b.unfinished;
      };
      stands = b.stands;
      staged = tt;
      «open» = open_none c at_first Fresh;
      lower = subst (λ below. AreLower c lists (used_of rest) [] [] below []) (sym b.bottom) tt;
    }

    best_first : (best : Best PortMove) (bu : Best Used) → best.yields ≡ matched
        → best.common ≡ 0 → best.tail.items ≡ [] → bu.common ≡ matched → bu.tail.items ≡ []
        → IsBest c lists [] (used_of rest) best bu
    best_first best bu yields common tail used_common used_tail =
        let all : kept bu (used_of rest) ≡ used_of rest =
        ap (λ u. u ++ lower bu.common (used_of rest)) used_tail
        ∙ lower_all (used_of rest) bu.common (used_common ∙ sym b.height) in
        let height = b.height in
        record {
          run = [];
          events = c.start_outs;
          left = b.left;
          is_kept = record {
            start = [];
            starts = ([], refl);
            common = sym common;
            run_is = sym (ap (λ u. u ++ []) tail);
          };
          uses = subst (λ u. HasUsedUp lists u b.left c.start_outs) (sym all)
              (stands_up lists rest b.left c.start_outs b.stands);
          within = omega arith;
          front = of_run at_first run_first refl;
          count = b.many ∙ sym yields;
        }

    pub ready_at_start : (w : Walk) → view_of w.path ≡ first_view matched → w.rest ≡ rest
        → w.best.yields ≡ matched → w.best.common ≡ 0 → w.best.tail.items ≡ []
        → w.best_used.common ≡ matched → w.best_used.tail.items ≡ [] → w.passed ≡ None
        → w.tried ≡ 0 → w.fired ≡ 0 → IsReady c spec limit silent lists stack w
    ready_at_start w path rest_is yields common tail used_common used_tail passed tried fired =
        record {
          suits = b.suits;
          on_way = on_way_by c lists stack stack w (first_view matched) rest 0 0 w.best w.best_used
              None refl path rest_is tried fired refl refl passed (record {
                at = at_start;
                knows = subst (λ n. Knows c lists First GuardsFirst 0 0 n None) (sym yields)
                    knows_first;
                is_best = best_first w.best w.best_used yields common tail used_common used_tail;
              });
        }
