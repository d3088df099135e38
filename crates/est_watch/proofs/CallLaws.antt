-- The steps of a walk, as the code asks for them.
use Rattle.std.proofs.Common.{◌≡◌, ℕ, zero, suc, ◌+◌, ◌*◌, ◌-◌, ◌^◌, ◌<◌, ◌≤◌, ◌⊎◌, Bool, true, false}
use Rattle.std.proofs.Common.{IsTrue, List, [], ◌∷◌, length, reverse, drop, map}
use Rattle.std.proofs.Common.{get_or, refl, sym, ap, subst, ◌∙◌, inl, inr, arith}
use Rattle.std.proofs.lemmas.Bool.{cases_lt}
use Rattle.est_syntax.specs.declared.specification.Spec.{Spec}
use Rattle.est_meaning.specs.mean_blocks.declared.fault.BlockFault.{BlockFault}
use Rattle.est_meaning.specs.mean_blocks.GlobalSituation.{Situation}
use Rattle.est_meaning.specs.mean_blocks.Outcome.{Outcome, Done, Fault, Limit}
use Rattle.est_meaning.specs.mean_blocks.TextByPlace.{text_of}
use Rattle.est_meaning.specs.declared.event.Event.{Event}
use Rattle.est_meaning.specs.declared.trace.Expected.TheVariants.{Known}
use Rattle.est_meaning.specs.declared.firing.Firing.{Firing}
use Rattle.est_meaning.specs.AllowedEvents.{IsAllowed, IsAllowedExpected}
use Rattle.est_meaning.specs.OutsideEvents.{after_event, units_of}
use Rattle.est_meaning.specs.RecordedTraces.{Recorded}
use Rattle.est_meaning.specs.TransitionSelection.{IsSettled, IsPossible}
use Rattle.est_meaning.specs.FiringSteps.{outcome}
use Rattle.est_meaning.specs.declared.answers.Fired.TheVariants as fired
use Rattle.est_meaning.specs.declared.answers.Offers.TheVariants.{Settled, Unsettled}
use Rattle.est_meaning.specs.PossibleFirings.{AreOptions, OffersAre}
use Rattle.est_meaning.specs.SituationStacks.{Stack, pushed, FiredAs}
use Rattle.est_meaning.specs.declared.run.Move.{Move}
use Rattle.est_meaning.specs.declared.run.Move.TheVariants.{Take, Fire}
use Rattle.est_meaning.specs.Run.{Setup, IsFromOutside, after_taking, silent_after}
use Rattle.est_meaning.specs.Trials.{IsTrial, HasMany}
use Rattle.est_meaning.proofs.ClockLaws.{clock_bounded}
use Rattle.est_meaning.proofs.RunLaws.{bounded_is_run}
use Rattle.est_meaning.proofs.Takings.{takes_at, inside_stays}
use Rattle.est_meaning.proofs.StackLaws.{fired_done, fired_fault, fired_limit}
use Rattle.run_paths.specs.declared.path.Stage.{Stage}
use Rattle.run_paths.specs.declared.path.Stage.TheVariants.{Fresh, Taken, Listed}
use Rattle.run_paths.specs.declared.path.Path.{Path}
use Rattle.run_paths.specs.Paths.{View, view_of, entered, with_tries, IsNext, IsUndone}
use Rattle.est_search.specs.inside.Agreement.{AgreeFor}
use Rattle.est_search.specs.inside.Path.{place_at, with_taken, stage_after, gone_back}
use Rattle.est_search.specs.inside.Walk.{load, weight_of}
use Rattle.est_search.proofs.CallLaws.{pushed_same}
use Rattle.est_watch.specs.declared.walk.Walk.{Walk}
use Rattle.est_watch.specs.declared.walk.Landed.TheVariants as landed
use Rattle.est_watch.specs.inside.Agreement.{AreGivenFor}
use Rattle.est_watch.specs.inside.Known.{Knows}
use Rattle.est_watch.specs.inside.Walk.{IsOnWay, IsWalk, IsReady, IsTrying, IsLeaving, IsFoundOr}
use Rattle.est_watch.specs.inside.Walk.{work}
use Rattle.est_watch.specs.inside.Walk.{IsStanding, HasLedOn, HasLanded, MayEnd, over_of}
use Rattle.est_watch.proofs.BackLaws.{spent_leaving, back_depth, back_on, all_done}
use Rattle.est_watch.proofs.FiringLaws.{MayEndAt, fire_possible, many_trying, fault_on, limit_on}
use Rattle.est_watch.proofs.FiringLaws.{silent_on, departed_on, led_on, led_found}
use Rattle.est_watch.proofs.Sought.{node_few}
use Rattle.est_watch.proofs.StepLaws.{skipped, taken_on, taken_found, settled_on, unsettled_on}
use Rattle.mean_watch.proofs.Growing.{known_length}

pub get_known : (es : List Event) (n : ℕ) (e : Event) → n < length es → get_or es n e ≡ e
    → get_or (map Known es) n (Known e) ≡ Known e
get_known [] n e lt is = (let never : ⊥ = omega arith in absurd never)
get_known (x ∷ es) zero e lt is = ap Known is
get_known (x ∷ es) (suc n) e lt is = get_known es n e (omega arith) is

-- TAKING

module _ (c : Setup) (exact : Bool) (spec : Spec) (limit silent : ℕ) (given : List Event)
    (stack : Stack) (w : Walk) (r : IsReady c exact spec limit silent given stack w) where
  trace_many : length c.trace.events ≡ length given
  trace_many = ap (λ (t : Recorded). length t.events) r.suits.trace_is ∙ known_length given

  loud : IsTrue c.trace.quiet → ⊥
  loud q = (let no : IsTrue false = subst (λ (t : Recorded). IsTrue t.quiet) r.suits.trace_is q in
      let never : ⊥ = cc in never)

  -- an event is left
  pub next_left : w.path.top.matched < length given
  next_left =
      let n = trace_many in
      let lt = node_few c loud (view_of w.path).moves stack.now w.path.top r.on_way.at.node in
      omega arith

  next_there : (e : Event) → get_or given w.path.top.matched e ≡ e
      → get_or c.trace.events w.path.top.matched (Known e) ≡ Known e
  next_there e is =
      subst (λ (t : Recorded). get_or t.events w.path.top.matched (Known e) ≡ Known e)
      (sym r.suits.trace_is) (get_known given w.path.top.matched e next_left is)

  next_within : w.path.top.matched < length c.trace.events
  next_within = (let n = trace_many in let lt = next_left in omega arith)

  pub next_allowed : (e : Event) → get_or given w.path.top.matched e ≡ e → IsAllowed spec e
  next_allowed e is =
      let a : IsAllowedExpected c.spec (get_or c.trace.events w.path.top.matched (Known e)) =
      r.suits.allowed.each w.path.top.matched (Known e) next_within in
      let b : IsAllowedExpected c.spec (Known e) =
      subst (IsAllowedExpected c.spec) (next_there e is) a in
      subst (λ s. IsAllowed s e) r.suits.spec_is b

  module _ (e : Event) (is : get_or given w.path.top.matched e ≡ e) where
    pub time_fits : IsFromOutside e → stack.now.clock + units_of e ≤ 10 ^ 15
    time_fits outside =
        let node = r.on_way.at.node in
        let h = (view_of w.path).moves in
        let p = place_at stack.now w.path.top node.events in
        let b = clock_bounded c h p r.suits.begun r.suits.allowed
        (bounded_is_run c h p node.is_run) in
        b.1 (after_taking c p e)
        (takes_at c p w.path.top.matched (Known e) next_within (next_there e is) node.agree e refl
        outside)

    module _ (fresh : w.path.stage ≡ Fresh) where
      -- it does not come from outside
      pub skip_call : (stack' : Stack) (new : Walk) → (IsFromOutside e → ⊥) → stack' ≡ stack
          → view_of new.path ≡ with_taken (view_of w.path) → new.tried ≡ w.tried
          → new.passed ≡ w.passed → IsWalk c exact stack' new
      skip_call stack' new inside same path tried passed =
          let way = skipped c exact stack (view_of w.path) w.tried w.passed r.on_way fresh
          (λ q t. inside_stays c (place_at stack.now w.path.top r.on_way.at.node.events)
          w.path.top.matched (Known e) next_within (next_there e is) r.on_way.at.node.agree inside q
          t) in
          rw (same, path, tried, passed) way

      module _ (stack' : Stack) (new : Walk) (outside : IsFromOutside e)
          (same : stack' ≡ pushed (after_event (text_of spec) stack.now e) stack)
          (path : view_of new.path ≡ entered (view_of w.path) Take (w.path.top.matched + 1) 0)
          (tried : new.tried ≡ w.tried) (passed : new.passed ≡ w.passed)
          (none : over_of new ≡ []) where
        to : stack' ≡ pushed (after_event (text_of c.spec) stack.now e) stack
        to = same
            ∙ ap (λ x. pushed (after_event (text_of x) stack.now e) stack) (sym r.suits.spec_is)

        -- it was the last one
        pub take_last : length given ≤ w.path.top.matched + 1 → IsFoundOr c exact stack' true new
        take_last ge =
            let n = trace_many in
            let lt = next_left in
            let f = taken_found c exact stack (view_of w.path) w.tried w.passed r.on_way fresh e
            next_within (next_there e is) outside (omega arith) (over_of new) none in
            rw (to, path, tried, passed) f

        -- more are left
        pub take_more : w.path.top.matched + 1 < length given → IsFoundOr c exact stack' false new
        take_more less =
            let n = trace_many in
            let way = taken_on c exact stack (view_of w.path) w.tried w.passed r.on_way fresh e
            next_within (next_there e is) outside (omega arith) in
            rw (to, path, tried, passed) way

-- LISTING

module _ (c : Setup) (exact : Bool) (spec : Spec) (limit silent : ℕ) (given : List Event)
    (stack stack' : Stack) (w new : Walk) (r : IsReady c exact spec limit silent given stack w)
    (taken : w.path.stage ≡ Taken) (offers : List Firing) (same : stack' ≡ stack)
    (path : view_of new.path ≡ with_tries (view_of w.path) Listed offers)
    (tried : new.tried ≡ w.tried) where
  settled_there : IsSettled limit (text_of spec) stack.now
      → IsSettled c.limit (text_of c.spec) stack.now
  settled_there s = subst (λ l. IsSettled l (text_of c.spec) stack.now) (sym r.suits.limit_is)
      (subst (λ x. IsSettled limit (text_of x) stack.now) (sym r.suits.spec_is) s)

  settled_here : IsSettled c.limit (text_of c.spec) stack.now
      → IsSettled limit (text_of spec) stack.now
  settled_here s = subst (λ l. IsSettled l (text_of spec) stack.now) r.suits.limit_is
      (subst (λ x. IsSettled c.limit (text_of x) stack.now) r.suits.spec_is s)

  options_there : AreOptions limit (text_of spec) stack.now offers
      → AreOptions c.limit (text_of c.spec) stack.now offers
  options_there o =
      subst (λ l. AreOptions l (text_of c.spec) stack.now offers) (sym r.suits.limit_is)
      (subst (λ x. AreOptions limit (text_of x) stack.now offers) (sym r.suits.spec_is) o)

  pub settled_call : new.passed ≡ w.passed
      → OffersAre limit (text_of spec) stack.now Settled offers → IsWalk c exact stack' new
  settled_call passed o =
      let way = settled_on c exact stack (view_of w.path) w.tried w.passed r.on_way taken offers
      (settled_there o.0) (options_there o.1) in
      rw (same, path, tried, passed) way

  pub unsettled_call : new.passed ≡ true
      → OffersAre limit (text_of spec) stack.now Unsettled offers → IsWalk c exact stack' new
  unsettled_call passed o =
      let way = unsettled_on c exact stack (view_of w.path) w.tried w.passed r.on_way taken offers
      (λ s. o.0 (settled_here s)) o.1 in
      rw (same, path, tried, passed) way

-- FIRING

module _ (c : Setup) (exact : Bool) (spec : Spec) (limit silent : ℕ) (given : List Event)
    (stack : Stack) (w : Walk) (f : Firing)
    (t : IsTrying c exact spec limit silent given stack w f) where
  outcome_there : (o : Outcome Situation (List Event))
      → outcome limit (text_of spec) stack.now f ≡ o
      → outcome c.limit (text_of c.spec) stack.now f ≡ o
  outcome_there o e = subst (λ l. outcome l (text_of c.spec) stack.now f ≡ o) (sym t.suits.limit_is)
      (subst (λ x. outcome limit (text_of x) stack.now f ≡ o) (sym t.suits.spec_is) e)

  pub possible_call : IsPossible limit (text_of spec) stack.now f
  possible_call = subst (λ l. IsPossible l (text_of spec) stack.now f) t.suits.limit_is
      (subst (λ x. IsPossible c.limit (text_of x) stack.now f) t.suits.spec_is
      (fire_possible c exact stack t.before w.tried w.passed t.on_way f (view_of w.path) t.next))

  many_given : length c.trace.events ≡ length given
  many_given = ap (λ (r : Recorded). length r.events) t.suits.trace_is ∙ known_length given

  top_matched : w.path.top.matched ≡ t.before.top.matched
  top_matched = ap (λ (v : View Move Firing). v.top.matched) t.next.next_is

  top_silent : w.path.top.silent ≡ t.before.top.silent
  top_silent = ap (λ (v : View Move Firing). v.top.silent) t.next.next_is

  pub trying_within : w.path.top.matched ≤ length given
  trying_within =
      let u : t.before.top.matched ≤ length c.trace.events = t.on_way.at.node.within in
      let n = many_given in
      let e = top_matched in
      omega arith

  pub trying_many : HasMany (IsTrial c) (w.tried + 1)
  trying_many = many_trying c exact stack t.before w.tried w.passed t.on_way f (view_of w.path)
      t.next

  pub fault_call : (stack' : Stack) (new : Walk) (fault : BlockFault) (events : List Event)
      → FiredAs (outcome limit (text_of spec) stack.now f) (fired.Fault fault) events stack stack'
      → new.path ≡ w.path → new.tried ≡ w.tried + 1 → new.passed ≡ w.passed
      → IsWalk c exact stack' new
  fault_call stack' new fault events is path tried passed =
      let a = fired_fault (outcome limit (text_of spec) stack.now f) fault events stack stack' is in
      let way = fault_on c exact stack t.before w.tried w.passed t.on_way f (view_of w.path) t.next
      fault (outcome_there (Fault fault) a.0) in
      rw (a.1, path, tried, passed) way

  pub limit_call : (stack' : Stack) (new : Walk) (events : List Event)
      → FiredAs (outcome limit (text_of spec) stack.now f) fired.Limit events stack stack'
      → new.path ≡ w.path → new.tried ≡ w.tried + 1 → new.passed ≡ true
      → IsWalk c exact stack' new
  limit_call stack' new events is path tried passed =
      let a = fired_limit (outcome limit (text_of spec) stack.now f) events stack stack' is in
      let way = limit_on c exact stack t.before w.tried w.passed t.on_way f (view_of w.path) t.next
      (outcome_there Limit a.0) in
      rw (a.1, path, tried, passed) way

  -- it is done
  module _ (mid : Walk) (stack' : Stack) (path : mid.path ≡ w.path)
      (tried : mid.tried ≡ w.tried + 1) (passed : mid.passed ≡ w.passed)
      (is : FiredAs (outcome limit (text_of spec) stack.now f) fired.Done mid.outs.items stack
      stack') where
    done : (s : Situation) × (outcome limit (text_of spec) stack.now f ≡ Done mid.outs.items s)
        × (stack' ≡ pushed s stack)
    done = fired_done (outcome limit (text_of spec) stack.now f) mid.outs.items stack stack' is

    done_there : outcome c.limit (text_of c.spec) stack.now f ≡ Done mid.outs.items done.0
    done_there = outcome_there (Done mid.outs.items done.0) done.1

    matched_is : mid.path.top.matched ≡ t.before.top.matched
    matched_is = ap (λ (p : Path Move Firing). p.top.matched) path ∙ top_matched

    silent_is : mid.path.top.silent ≡ t.before.top.silent
    silent_is = ap (λ (p : Path Move Firing). p.top.silent) path ∙ top_silent

    few_there : silent_after mid.path.top.silent mid.outs.items ≤ silent
        → silent_after t.before.top.silent mid.outs.items ≤ c.silent
    few_there le =
        let e = ap (λ n. silent_after n mid.outs.items) silent_is in
        let s = t.suits.silent_is in
        omega arith

    agree_there : (k : ℕ) → AreGivenFor given mid.path.top.matched mid.outs.items k
        → AgreeFor c.trace.events t.before.top.matched mid.outs.items k
    agree_there k a = subst
        (λ (r : Recorded). AgreeFor r.events t.before.top.matched mid.outs.items k)
        (sym t.suits.trace_is)
        (subst (λ n. AgreeFor (map Known given) n mid.outs.items k) matched_is a)

    end_there : (k : ℕ) → MayEnd exact given mid.path.top.matched k mid.outs.items
        → MayEndAt c exact t.before.top.matched k mid.outs.items
    end_there k e = (
      (let m = matched_is in let n = many_given in let all = e.0 in omega arith),
      e.1,
    )

    end_here : (k : ℕ) → MayEndAt c exact t.before.top.matched k mid.outs.items
        → MayEnd exact given mid.path.top.matched k mid.outs.items
    end_here k e = (
      (let m = matched_is in let n = many_given in let all = e.0 in omega arith),
      e.1,
    )

    -- its events depart from those given
    off_by : (k : ℕ) → AreGivenFor given mid.path.top.matched mid.outs.items k
        → k < length mid.outs.items
        → (MayEnd exact given mid.path.top.matched k mid.outs.items → ⊥)
        → IsOnWay c exact stack (view_of w.path) (w.tried + 1) w.passed
    off_by k a short never = elim
        (cases_lt c.silent (silent_after t.before.top.silent mid.outs.items)) [
          | inl many ↦ silent_on c exact stack t.before w.tried w.passed t.on_way f
              (view_of w.path) t.next done.0 mid.outs.items done_there many
          | inr few ↦ departed_on c exact stack t.before w.tried w.passed t.on_way f
              (view_of w.path) t.next done.0 mid.outs.items done_there few k (agree_there k a)
              short (λ e. never (end_here k e))
        ]

    module _ (new : Walk) where
      -- it does not lead on
      pub off_call : (back : Stack) → stack' ≡ pushed stack'.now back
          → HasLanded exact given silent mid new f landed.Off → IsWalk c exact back new
      off_call back undone off =
          let same : back ≡ stack =
          sym (pushed_same done.0 stack'.now stack back (sym done.2 ∙ undone)) in
          let p : new.path ≡ w.path = ap (λ (u : Walk). u.path) off.0 ∙ path in
          let n : new.tried ≡ w.tried + 1 = ap (λ (u : Walk). u.tried) off.0 ∙ tried in
          let b : new.passed ≡ w.passed = ap (λ (u : Walk). u.passed) off.0 ∙ passed in
          elim off.1 [
            | inl many ↦
                (let e = ap (λ n. silent_after n mid.outs.items) silent_is in
                let s = t.suits.silent_is in
                let way = silent_on c exact stack t.before w.tried w.passed t.on_way f
                (view_of w.path) t.next done.0 mid.outs.items done_there (omega arith) in
                rw (same, p, n, b) way)
            | inr a ↦ (let way = off_by a.0 a.1 a.2 a.3 in rw (same, p, n, b) way)
          ]

      entered_there : (k : ℕ) → HasLedOn given silent mid new f k → view_of new.path
          ≡ entered (view_of w.path) (Fire f) (t.before.top.matched + k)
          (silent_after t.before.top.silent mid.outs.items)
      entered_there k l = l.path
          ∙ ap (λ (p : Path Move Firing). entered (view_of p) (Fire f) (mid.path.top.matched
          + k) (silent_after mid.path.top.silent mid.outs.items)) path
          ∙ ap (λ n. entered (view_of w.path) (Fire f) (n + k)
          (silent_after mid.path.top.silent mid.outs.items)) matched_is
          ∙ ap (λ n. entered (view_of w.path) (Fire f) (t.before.top.matched
          + k) (silent_after n mid.outs.items)) silent_is

      tried_there : (k : ℕ) → HasLedOn given silent mid new f k → new.tried ≡ w.tried + 1
      tried_there k l = ap (λ (u : Walk). u.tried) l.others ∙ tried

      passed_there : (k : ℕ) → HasLedOn given silent mid new f k → new.passed ≡ w.passed
      passed_there k l = ap (λ (u : Walk). u.passed) l.others ∙ passed

      outs_there : (k : ℕ) → HasLedOn given silent mid new f k → new.outs.items ≡ mid.outs.items
      outs_there k l = ap (λ (u : Walk). u.outs.items) l.others

      -- it leads on
      pub on_call : HasLanded exact given silent mid new f landed.On → IsWalk c exact stack' new
      on_call on =
          let l = on.0 in
          let k = length mid.outs.items in
          let m = matched_is in
          let n = many_given in
          let lt = on.1 in
          let way = led_on c exact stack t.before w.tried w.passed t.on_way f (view_of w.path)
          t.next done.0 mid.outs.items done_there (few_there l.few) (agree_there k l.agree)
          (omega arith) in
          rw (done.2, entered_there k l, tried_there k l, passed_there k l) way

      -- it leads to a run that is sought
      pub found_call : HasLanded exact given silent mid new f landed.Found
          → IsStanding c exact stack' new
      found_call found =
          let k = found.0 in
          let l = found.1 in
          let f = led_found c exact stack t.before w.tried w.passed t.on_way f (view_of w.path)
          t.next done.0 mid.outs.items done_there (few_there l.few) k (agree_there k l.agree)
          (end_there k found.2) in
          let over : over_of new ≡ drop k mid.outs.items =
          ap (λ n. drop n new.outs.items) l.used ∙ ap (λ es. drop k es) (outs_there k l) in
          rw (done.2, entered_there k l, tried_there k l, passed_there k l, over) f

-- WHAT WAS SENT

pub drop_past : (used : ℕ) (outs : List Event) → length outs ≤ used → drop used outs ≡ []
drop_past zero [] le = refl
drop_past (suc used) [] le = refl
drop_past zero (e ∷ outs) le = (let never : ⊥ = omega arith in absurd never)
drop_past (suc used) (e ∷ outs) le = drop_past used outs (omega arith)

-- BACK

gone_there : (made : Move) (p : Path Move Firing) (stage : Stage) → stage ≡ stage_after made
    → view_of (record p { stage = stage }) ≡ gone_back (view_of p) made
gone_there made p stage e = ap (λ s. let v : View Move Firing = record (view_of p) { stage = s } in
    v) e

-- the next event is taken
pub load_taken : (n : ℕ) (v w : View Move Firing) → v.stage ≡ Fresh → v.top.matched < n
    → w ≡ entered v Take (v.top.matched + 1) 0 → load n w < load n v
load_taken n v w e lt path = subst (λ u. load n u < load n v) (sym path)
    (let k : weight_of n v.top.matched v.stage ≡ 3 * (n - v.top.matched) + 3 =
    ap (weight_of n v.top.matched) e in
    omega arith)

load_after : (n : ℕ) (made : Move) (w : View Move Firing)
    → load n (gone_back w made) ≤ 2 + 2 * length w.lower
load_after n Take w = omega arith
load_after n (Fire f) w = omega arith

pub load_gone : (n : ℕ) (made : Move) (v : View Move Firing) (p : Path Move Firing) (stage : Stage)
    → IsUndone v made (view_of p) → stage ≡ stage_after made
    → load n (view_of (record p { stage = stage })) < 1 + 2 * length v.lower
load_gone n made v p stage u same = subst (λ w. load n w < 1 + 2 * length v.lower)
    (sym (gone_there made p stage same))
    (let l : length v.lower ≡ length (view_of p).lower + 1 = ap length u.lower ∙ (omega arith) in
    let m = load_after n made (view_of p) in
    omega arith)

module _ (c : Setup) (exact : Bool) (stack : Stack) (w : Walk)
    (leaving : IsLeaving c exact stack (view_of w.path) w.tried w.passed) where
  pub depth_call : (made : Move) (p : Path Move Firing) → IsUndone (view_of w.path) made (view_of p)
      → 0 < length stack.below
  depth_call made p undone = back_depth c exact stack (view_of w.path) w.tried w.passed leaving made
      (view_of p) undone

  pub back_call : (new : Walk) (p : Path Move Firing) (stage' : Stage) (stack' : Stack)
      (made : Move) → IsUndone (view_of w.path) made (view_of p) → stage' ≡ stage_after made
      → new.path ≡ record p { stage = stage' } → stack ≡ pushed stack.now stack'
      → new.tried ≡ w.tried → new.passed ≡ w.passed → IsWalk c exact stack' new
  back_call new p stage' stack' made undone stage_is path back tried passed =
      let on = back_on c exact stack (view_of w.path) w.tried w.passed leaving made (view_of p)
      stack' undone back in
      let there : view_of new.path ≡ gone_back (view_of p) made =
      ap view_of path ∙ gone_there made p stage' stage_is in
      rw (there, tried, passed) on

  pub done_call : (w.path.lower.items ≡ []) ⊎ (w.path.moves.items ≡ [])
      → Knows c exact (λ x. ⊥) w.tried w.passed
  done_call end = all_done c exact stack (view_of w.path) w.tried w.passed leaving
      (elim end [ inl e ↦ inl (ap reverse e) | inr e ↦ inr (ap reverse e) ])

-- all that was listed was tried
pub leaving_call : (c : Setup) (exact : Bool) (stack : Stack) (w : Walk)
    → IsWalk c exact stack w → w.path.stage ≡ Listed
    → (w.path.top.left ≡ 0) ⊎ (w.path.tries.items ≡ [])
    → IsLeaving c exact stack (view_of w.path) w.tried w.passed
leaving_call c exact stack w way stage spent = spent_leaving c exact stack (view_of w.path) w.tried
    w.passed way stage (elim spent [ inl e ↦ inl e | inr e ↦ inr (ap reverse e) ])

-- going back is work
pub work_back : (n budget : ℕ) (old mid new : Walk) → old.path.stage ≡ Listed
    → view_of mid.path ≡ view_of old.path → new.tried ≡ old.tried
    → load n (view_of new.path) < 1 + 2 * length (view_of mid.path).lower
    → work n budget new < work n budget old
work_back n budget old mid new stage same tried lt =
    let k : weight_of n old.path.top.matched old.path.stage ≡ 1 =
    ap (weight_of n old.path.top.matched) stage in
    let l : load n (view_of new.path) < 1 + 2 * length (view_of old.path).lower =
    subst (λ v. load n (view_of new.path) < 1 + 2 * length v.lower) same lt in
    let t : (budget - new.tried) * (3 * n + 5) ≡ (budget - old.tried) * (3 * n + 5) =
    ap (λ m. (budget - m) * (3 * n + 5)) tried in
    omega arith

-- THE NEXT FIRING

pub trying : (c : Setup) (exact : Bool) (spec : Spec) (limit silent : ℕ) (given : List Event)
    (stack : Stack) (w : Walk) (f : Firing) (p : Path Move Firing)
    → IsReady c exact spec limit silent given stack w → IsNext (view_of w.path) f (view_of p)
    → IsTrying c exact spec limit silent given stack (record w { path = p }) f
trying c exact spec limit silent given stack w f p r next = record {
  suits = r.suits;
  before = view_of w.path;
  next = next;
  on_way = r.on_way;
}

pub over_call : (c : Setup) (exact : Bool) (stack : Stack) (w : Walk) (f : Firing)
    (p : Path Move Firing) → IsWalk c exact stack w → IsNext (view_of w.path) f (view_of p)
    → HasMany (IsTrial c) (w.tried + 1)
over_call c exact stack w f p way next =
    many_trying c exact stack (view_of w.path) w.tried w.passed way f (view_of p) next
