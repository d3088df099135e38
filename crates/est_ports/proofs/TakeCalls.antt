-- The steps of a walk that take what comes from outside, as the code asks for them.
use Rattle.std.proofs.Common.{◌≡◌, ℕ, ◌+◌, ◌^◌, ◌≤◌, List, [], ◌∷◌, ◌++◌, length, refl, sym, ap}
use Rattle.std.proofs.Common.{subst}
use Rattle.std.proofs.Common.{◌∙◌, zero-le, arith}
use Rattle.std.proofs.lemmas.List.{length-append}
use Rattle.est_syntax.specs.declared.specification.Spec.{Spec}
use Rattle.est_meaning.proofs.ClockLaws.{after_passing}
use Rattle.est_meaning.specs.AllowedEvents.{IsAllowed, IsArrival, most_events}
use Rattle.est_meaning.specs.OutsideEvents.{after_event, later}
use Rattle.est_meaning.specs.Run.{Setup}
use Rattle.est_meaning.specs.SituationStacks.{Stack, pushed}
use Rattle.est_meaning.specs.declared.event.Event.{Event}
use Rattle.est_meaning.specs.declared.event.Event.TheVariants as event
use Rattle.est_meaning.specs.mean_blocks.GlobalSituation.{Situation}
use Rattle.est_meaning.specs.mean_blocks.TextByPlace.{text_of}
use Rattle.mean_ports.proofs.AllowedMerges.{next_allowed}
use Rattle.mean_ports.specs.declared.lists.PortLists.{PortLists}
use Rattle.mean_ports.specs.declared.moves.PortMove.{PortMove}
use Rattle.mean_ports.specs.declared.moves.PortMove.TheVariants.{TakeAt, Pass}
use Rattle.mean_ports.specs.Merges.{IsAt}
use Rattle.mean_ports.specs.PortRuns.{Left, PortPlace, IsNextAt, IsPortRun, none, more}
use Rattle.mean_ports.specs.PortRuns.{after_outside}
use Rattle.mean_ports.specs.PortTrials.{IsDefinedMove}
use Rattle.run_paths.specs.Paths.{View, view_of}
use Rattle.est_ports.specs.declared.left.Used.TheVariants.{At, Time}
use Rattle.est_ports.specs.declared.left.Rest.{Rest}
use Rattle.est_ports.specs.declared.walk.Walk.{Walk}
use Rattle.est_ports.specs.declared.walk.Step.{Step}
use Rattle.est_ports.specs.inside.Leftover.{Stands, used_of, ArrivesNext, PassesNext}
use Rattle.est_ports.specs.inside.Walk.{IsTrying, HasGoneOn, StepIs}
use Rattle.est_ports.proofs.GoneLaws.{gone_call}
use Rattle.est_ports.proofs.LimitLaws.{next_few, clock_few}
use Rattle.est_ports.proofs.PathLaws.{next_defined}
use Rattle.est_ports.proofs.StepLaws.{stands}
use Rattle.est_ports.proofs.YieldLaws.{take_few, pass_few}

module _ (c : Setup) (spec : Spec) (limit silent : ℕ) (lists : PortLists) (stack : Stack)
    (w : Walk) (m : PortMove) (t : IsTrying c spec limit silent lists stack w m) where
  -- where the walk stands
  abbrev pub at : PortPlace
  at = stands c lists stack t.before w.rest t.tried w.fired w.best w.best_used w.passed t.on_way

  pub defined_at : IsDefinedMove c at m
  defined_at = next_defined c lists stack t.before w.rest t.on_way.at m (view_of w.path) t.next

  pub run_at : IsPortRun c lists t.before.moves at
  run_at = t.on_way.at.node.is_run

  pub matched_same : w.path.top.matched ≡ t.before.top.matched
  matched_same = ap (λ (x : View PortMove PortMove). x.top.matched) t.next.next_is

  -- one event more is within the limits
  pub one_few : (e : Event) (after : Left) → IsNextAt at.left e after
      → w.path.top.matched + 1 ≤ most_events
  one_few e after n =
      let few = next_few c lists t.before.moves at t.suits.allowed run_at (e ∷ []) after
      (more n none) in
      let count = t.on_way.at.node.count in
      let same = matched_same in
      omega arith

  -- the walk after the event is used up
  abbrev pub with_rest : Rest → Walk
  with_rest rest = record w { rest = rest }

  count_more : (e : Event)
      → length (t.on_way.at.node.events ++ e ∷ []) ≡ w.path.top.matched + 1
  count_more e =
      let n = length-append t.on_way.at.node.events (e ∷ []) in
      let count = t.on_way.at.node.count in
      let same = matched_same in
      omega arith

-- ARRIVALS

module _ (c : Setup) (spec : Spec) (limit silent : ℕ) (lists : PortLists) (stack : Stack)
    (w : Walk) (port : ℕ) (t : IsTrying c spec limit silent lists stack w (TakeAt port)) where
  abbrev here : PortPlace
  here = at c spec limit silent lists stack w (TakeAt port) t

  -- there is one
  pub arrival_there : ((left : Left) (events : List Event) → Stands lists w.rest left events
      → (e : Event) → ArrivesNext left port e → ⊥) → ⊥
  arrival_there never =
      let d = (defined_at c spec limit silent lists stack w (TakeAt port) t).1 in
      never t.on_way.at.node.left t.on_way.at.node.events t.on_way.at.stands
      (event.Arrives d.interaction) (record {
        interaction = d.interaction;
        after = d.left;
        here = d.here;
        event_is = refl;
        next = d.next;
      })

  module _ (e : Event)
      (f : (left : Left) (events : List Event) → Stands lists w.rest left events
      → ArrivesNext left port e) where
    arrives : ArrivesNext t.on_way.at.node.left port e
    arrives = f t.on_way.at.node.left t.on_way.at.node.events t.on_way.at.stands

    pub arrival_allowed : IsArrival spec e
    arrival_allowed =
        let a = arrives in
        let b : IsAllowed c.spec (event.Arrives a.interaction) =
        next_allowed c lists t.before.moves here t.suits.allowed t.on_way.at.node.is_run
        (event.Arrives a.interaction) a.after a.next in
        subst (λ x. IsArrival x e) t.suits.spec_is (subst (λ x. IsArrival c.spec x) (sym a.event_is)
        b)

    pub arrival_few : w.path.top.matched + 1 ≤ most_events
    arrival_few = one_few c spec limit silent lists stack w (TakeAt port) t
        (event.Arrives arrives.interaction) arrives.after arrives.next

    pub take_call : (stack' : Stack) (rest' : Rest) (new : Walk) (step : Step)
        → stack' ≡ pushed (after_event (text_of spec) stack.now e) stack
        → used_of rest' ≡ At port ∷ used_of w.rest
        → ((left after : Left) (events : List Event) (x : Event) → Stands lists w.rest left events
        → IsAt port x → IsNextAt left x after → Stands lists rest' after (events ++ x ∷ []))
        → HasGoneOn lists (record w { rest = rest' }) new (TakeAt port) (w.path.top.matched + 1) 0
        step → StepIs c lists stack' step new
    take_call stack' rest' new step same used stand g =
        let node = t.on_way.at.node in
        let a = arrives in
        let x = event.Arrives a.interaction in
        let s = after_event (text_of c.spec) stack.now x in
        let events = node.events ++ x ∷ [] in
        let q = after_outside c here x a.after in
        let run : IsPortRun c lists (TakeAt port ∷ t.before.moves) q = (
          here,
          node.is_run,
          record {
            interaction = a.interaction;
            left = a.after;
            here = a.here;
            next = a.next;
            leads = refl;
          },
          zero-le,
        ) in
        let count = count_more c spec limit silent lists stack w (TakeAt port) t x in
        let to : stack' ≡ pushed s stack = same
        ∙ ap (λ y. pushed (after_event (text_of y) stack.now e) stack) (sym t.suits.spec_is)
        ∙ ap (λ y. pushed (after_event (text_of c.spec) stack.now y) stack) a.event_is in
        gone_call c lists stack t.before w.rest t.tried w.fired w.best w.best_used w.passed t.on_way
        (TakeAt port) (view_of w.path) t.next (record w { rest = rest' }) refl t.counted refl refl
        refl s (w.path.top.matched + 1) 0 1 events a.after run (At port ∷ []) used refl
        (ap (λ n. n + 1) (matched_same c spec limit silent lists stack w (TakeAt port) t)) count
        (stand node.left a.after node.events x t.on_way.at.stands a.here a.next)
        (λ j y. subst (λ n. j ≤ n) count (take_few c lists t.before.moves port q run j y))
        (λ u h is z. let never : ⊥ = cc in never) refl new step g stack' to

-- TIME

module _ (c : Setup) (spec : Spec) (limit silent : ℕ) (lists : PortLists) (stack : Stack)
    (w : Walk) (t : IsTrying c spec limit silent lists stack w Pass) where
  abbrev here_time : PortPlace
  here_time = at c spec limit silent lists stack w Pass t

  -- a time passes
  pub time_there : ((left : Left) (events : List Event) → Stands lists w.rest left events
      → (units : ℕ) (after : Left) → PassesNext left units after → ⊥) → ⊥
  time_there never =
      let d = (defined_at c spec limit silent lists stack w Pass t).1 in
      never t.on_way.at.node.left t.on_way.at.node.events t.on_way.at.stands d.units
      (record { now = d.phase; later = d.phases; times = d.times }) (record {
        phase = d.phase;
        phases = d.phases;
        times = d.times;
        used_up = d.used_up;
        phases_are = d.phases_are;
        times_are = d.times_are;
        after_is = refl;
      })

  module _ (units : ℕ)
      (f : (left : Left) (events : List Event) → Stands lists w.rest left events
      → (after : Left) × PassesNext left units after) where
    passes : (after : Left) × PassesNext t.on_way.at.node.left units after
    passes = f t.on_way.at.node.left t.on_way.at.node.events t.on_way.at.stands

    after_time : PortPlace
    after_time = after_outside c here_time (event.Passes units) passes.0

    time_run : IsPortRun c lists (Pass ∷ t.before.moves) after_time
    unfolding after_time
    time_run =
        let a = passes.1 in (
          here_time,
          t.on_way.at.node.is_run,
          record {
            units = units;
            phase = a.phase;
            phases = a.phases;
            times = a.times;
            used_up = a.used_up;
            phases_are = a.phases_are;
            times_are = a.times_are;
            leads = ap (λ l. after_outside c here_time (event.Passes units) l) a.after_is;
          },
          zero-le,
        )

    -- its units are within the limit of the clock
    pub time_fits : stack.now.clock + units ≤ 10 ^ 15
    unfolding after_time
    time_fits =
        let le = clock_few c lists (Pass ∷ t.before.moves) after_time t.suits.allowed time_run
        t.suits.begun in
        let same = ap (λ (s : Situation). s.clock)
        (after_passing (text_of c.spec) stack.now units) in
        omega arith

    pub time_few : w.path.top.matched + 1 ≤ most_events
    unfolding after_time
    time_few =
        let few = next_few c lists (Pass ∷ t.before.moves) after_time t.suits.allowed time_run []
        after_time.left none in
        let count = count_more c spec limit silent lists stack w Pass t (event.Passes units) in
        omega arith

    pub pass_call : (stack' : Stack) (rest' : Rest) (new : Walk) (step : Step)
        → stack' ≡ pushed (later stack.now units) stack
        → used_of rest' ≡ Time ∷ used_of w.rest
        → ((left after : Left) (events : List Event) (n : ℕ) → Stands lists w.rest left events
        → PassesNext left n after → Stands lists rest' after (events ++ event.Passes n ∷ []))
        → HasGoneOn lists (record w { rest = rest' }) new Pass (w.path.top.matched + 1) 0 step
        → StepIs c lists stack' step new
    unfolding after_time
    pass_call stack' rest' new step same used stand g =
        let node = t.on_way.at.node in
        let x = event.Passes units in
        let s = after_event (text_of c.spec) stack.now x in
        let count = count_more c spec limit silent lists stack w Pass t x in
        let to : stack' ≡ pushed s stack = same
        ∙ ap (λ y. pushed y stack) (sym (after_passing (text_of c.spec) stack.now units)) in
        gone_call c lists stack t.before w.rest t.tried w.fired w.best w.best_used w.passed t.on_way
        Pass (view_of w.path) t.next (record w { rest = rest' }) refl t.counted refl refl
        refl s (w.path.top.matched + 1) 0 1 (node.events ++ x ∷ []) passes.0 time_run (Time ∷ [])
        used refl (ap (λ n. n + 1) (matched_same c spec limit silent lists stack w Pass t)) count
        (stand node.left passes.0 node.events units t.on_way.at.stands passes.1)
        (λ j y. subst (λ n. j ≤ n) count (pass_few c lists t.before.moves after_time time_run j y))
        (λ u h is z. let never : ⊥ = cc in never) refl new step g stack' to
