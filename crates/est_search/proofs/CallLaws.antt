-- The steps of a search, as the code asks for them.
use Rattle.std.proofs.Common.{◌≡◌, ℕ, suc, ◌+◌, ◌*◌, ◌-◌, ◌^◌, ◌<◌, ◌≤◌, ◌⊎◌, Bool, true, false}
use Rattle.std.proofs.Common.{◌↔◌, IsTrue, List, [], ◌∷◌, Some, None, length, reverse, take}
use Rattle.std.proofs.Common.{Result, Ok, Err, OnErr, get_or, refl, sym, ap, subst, ◌∙◌, inl}
use Rattle.std.proofs.Common.{inr, arith}
use Rattle.std.specs.Option.{option_or}
use Rattle.std.proofs.lemmas.List.{length-reverse, length-take-le, reverse-reverse}
use Rattle.est_syntax.specs.declared.specification.Spec.{Spec}
use Rattle.est_meaning.specs.mean_blocks.declared.fault.BlockFault.{BlockFault}
use Rattle.est_meaning.specs.mean_blocks.GlobalSituation.{Situation}
use Rattle.est_meaning.specs.mean_blocks.Outcome.{Outcome, Done, Fault, Limit}
use Rattle.est_meaning.specs.mean_blocks.TextByPlace.{text_of}
use Rattle.est_meaning.specs.declared.event.Event.{Event}
use Rattle.est_meaning.specs.declared.trace.Expected.{Expected}
use Rattle.est_meaning.specs.declared.trace.Expected.TheVariants.{Known}
use Rattle.est_meaning.specs.RecordedTraces.{Recorded}
use Rattle.est_meaning.specs.declared.firing.Firing.{Firing}
use Rattle.est_meaning.specs.AllowedEvents.{IsAllowed, IsAllowedExpected}
use Rattle.est_meaning.specs.Endings.{IsTraceEnd}
use Rattle.est_meaning.specs.OutsideEvents.{after_event, units_of}
use Rattle.est_meaning.specs.TransitionSelection.{IsSettled, IsPossible}
use Rattle.est_meaning.specs.FiringSteps.{outcome}
use Rattle.est_meaning.specs.declared.answers.Fired.TheVariants as fired
use Rattle.est_meaning.specs.declared.answers.Offers.TheVariants.{Settled, Unsettled}
use Rattle.est_meaning.specs.PossibleFirings.{AreOptions, OffersAre}
use Rattle.est_meaning.specs.SituationStacks.{Stack, pushed, FiredAs}
use Rattle.est_meaning.specs.declared.run.Move.{Move}
use Rattle.est_meaning.specs.declared.run.Move.TheVariants.{Take, Fire}
use Rattle.est_meaning.specs.Run.{Setup, Place, Takes, IsFromOutside, after_taking, silent_after}
use Rattle.est_meaning.specs.Trials.{IsTrial, HasMany}
use Rattle.est_meaning.proofs.AgreementLaws.{agree_length}
use Rattle.est_meaning.proofs.ClockLaws.{clock_bounded}
use Rattle.est_meaning.proofs.Endings.{not_true, ends_there, ends_here}
use Rattle.est_meaning.proofs.RunLaws.{bounded_is_run}
use Rattle.est_meaning.proofs.Takings.{IsKnownOutside, takes_at, inside_stays, none_taken}
use Rattle.est_meaning.proofs.StackLaws.{fired_done, fired_fault, fired_limit}
use Rattle.run_paths.specs.declared.path.Stage.{Stage}
use Rattle.run_paths.specs.declared.path.Stage.TheVariants.{Fresh, Taken, Listed}
use Rattle.run_paths.specs.declared.path.Path.{Path}
use Rattle.est_search.specs.declared.walk.Notes.{Notes}
use Rattle.est_search.specs.declared.walk.Walk.{Walk}
use Rattle.est_search.specs.declared.walk.Landed.TheVariants.{On, Off}
use Rattle.est_search.specs.inside.Agreement.{AgreeFor}
use Rattle.run_paths.specs.Paths.{View, view_of, entered, with_tries, IsNext, IsUndone, HasReached}
use Rattle.run_paths.specs.Paths.{HasKept}
use Rattle.est_search.specs.inside.Path.{place_at, with_taken, stage_after, gone_back}
use Rattle.est_search.specs.inside.Walk.{IsOnWay, IsWalk, IsReady, IsTrying, IsFound, Accepts}
use Rattle.est_search.specs.inside.Walk.{HasLedOn, HasLanded, KnowsAll, IsOver, weight_of, load}
use Rattle.est_search.proofs.WalkLaws.{skipped, taken_found, taken_on, settled_on, unsettled_on}
use Rattle.est_search.proofs.FiringLaws.{fire_possible, over, fault_on, limit_on, silent_on}
use Rattle.est_search.proofs.FiringLaws.{departed_on, led_found, led_on, back_depth, back_on}
use Rattle.est_search.proofs.FiringLaws.{all_done}

pub made_many : (p : Path Move Firing) → length p.moves.items ≡ length (view_of p).moves
made_many p = sym (length-reverse p.moves.items)

pub pushed_same : (s t : Situation) (a b : Stack) → pushed s a ≡ pushed t b → a ≡ b
pushed_same s t a b e =
    let f : a.now ∷ a.below ≡ b.now ∷ b.below = ap (λ (w : Stack). w.below) e in
    let n : a.now ≡ b.now = cc in
    let m : a.below ≡ b.below = cc in
    ap (λ x. let w : Stack = record { now = x; below = a.below } in w) n
    ∙ ap (λ x. let w : Stack = record { now = b.now; below = x } in w) m

-- TAKING

module _ (c : Setup) (spec : Spec) (limit silent : ℕ) (trace : Recorded) (stack : Stack)
    (w : Walk) (r : IsReady c spec limit silent trace stack w) where
  -- what is expected next is that of the trace
  next_there : (x : Expected) → get_or trace.events w.path.top.matched x ≡ x
      → get_or c.trace.events w.path.top.matched x ≡ x
  next_there x is = subst (λ (t : Recorded). get_or t.events w.path.top.matched x ≡ x)
      (sym r.suits.trace_is) is

  trace_there : length c.trace.events ≡ length trace.events
  trace_there = ap (λ (t : Recorded). length t.events) r.suits.trace_is

  next_within : w.path.top.matched < length trace.events
      → w.path.top.matched < length c.trace.events
  next_within lt = (let n = trace_there in omega arith)

  pub next_allowed : w.path.top.matched < length trace.events → (x : Expected) (e : Event)
      → get_or trace.events w.path.top.matched x ≡ x → x ≡ Known e → IsAllowed spec e
  next_allowed lt x e is known =
      let a : IsAllowedExpected c.spec (get_or c.trace.events w.path.top.matched x) =
      r.suits.allowed.each w.path.top.matched x (next_within lt) in
      let b : IsAllowedExpected c.spec (Known e) =
      subst (IsAllowedExpected c.spec) (next_there x is ∙ known) a in
      subst (λ s. IsAllowed s e) r.suits.spec_is b

  -- no event is taken
  skip_by : w.path.stage ≡ Fresh
      → ((q : Place) → Takes c (place_at stack.now w.path.top r.on_way.at.node.events) q → ⊥)
      → (stack' : Stack) (new : Walk) → stack' ≡ stack
      → view_of new.path ≡ with_taken (view_of w.path) → new.tried ≡ w.tried
      → new.best ≡ w.best → new.notes ≡ w.notes → IsWalk c stack' new
  skip_by fresh never stack' new same path tried best notes =
      subst (λ s. IsOnWay c s (view_of new.path) new.tried new.best new.notes) (sym same)
      (subst (λ v. IsOnWay c stack v new.tried new.best new.notes) (sym path)
      (subst (λ n. IsOnWay c stack (with_taken (view_of w.path)) n new.best new.notes) (sym tried)
      (subst (λ b. IsOnWay c stack (with_taken (view_of w.path)) w.tried b new.notes) (sym best)
      (subst (λ n. IsOnWay c stack (with_taken (view_of w.path)) w.tried w.best n) (sym notes)
      (skipped c stack (view_of w.path) w.tried w.best w.notes r.on_way fresh never)))))

  none_past : length trace.events ≤ w.path.top.matched → (q : Place)
      → Takes c (place_at stack.now w.path.top r.on_way.at.node.events) q → ⊥
  none_past past q t =
      let node = r.on_way.at.node in
      let n = trace_there in
      let a = agree_length (take w.path.top.matched c.trace.events) node.events node.agree in
      let b = length-take-le w.path.top.matched c.trace.events node.within in
      none_taken c (place_at stack.now w.path.top node.events) q (omega arith) t

  -- no event is left
  pub past_call : w.path.stage ≡ Fresh → length trace.events ≤ w.path.top.matched
      → (stack' : Stack) (new : Walk) → stack' ≡ stack
      → view_of new.path ≡ with_taken (view_of w.path) → new.tried ≡ w.tried
      → new.best ≡ w.best → new.notes ≡ w.notes → IsWalk c stack' new
  past_call fresh past = skip_by fresh (none_past past)

  module _ (fresh : w.path.stage ≡ Fresh) (lt : w.path.top.matched < length trace.events)
      (x : Expected) (is : get_or trace.events w.path.top.matched x ≡ x) where
    pub time_fits : (e : Event) → x ≡ Known e → IsFromOutside e
        → stack.now.clock + units_of e ≤ 10 ^ 15
    time_fits e known outside =
        let node = r.on_way.at.node in
        let h = (view_of w.path).moves in
        let p = place_at stack.now w.path.top node.events in
        let b = clock_bounded c h p r.suits.begun r.suits.allowed
        (bounded_is_run c h p node.is_run) in
        b.1 (after_taking c p e)
        (takes_at c p w.path.top.matched x (next_within lt) (next_there x is) node.agree e known
        outside)

    no_take : (IsKnownOutside x → ⊥) → (q : Place)
        → Takes c (place_at stack.now w.path.top r.on_way.at.node.events) q → ⊥
    no_take inside q t =
        let node = r.on_way.at.node in
        inside_stays c (place_at stack.now w.path.top node.events) w.path.top.matched x
        (next_within lt) (next_there x is) node.agree inside q t

    -- it is no known event from outside
    pub skip_call : (stack' : Stack) (new : Walk) → (IsKnownOutside x → ⊥) → stack' ≡ stack
        → view_of new.path ≡ with_taken (view_of w.path) → new.tried ≡ w.tried
        → new.best ≡ w.best → new.notes ≡ w.notes → IsWalk c stack' new
    skip_call stack' new inside = skip_by fresh (no_take inside) stack' new

    known_there : (e : Event) → x ≡ Known e
        → get_or c.trace.events w.path.top.matched (Known e) ≡ Known e
    known_there e known = subst (λ y. get_or c.trace.events w.path.top.matched y ≡ y) known
        (next_there x is)

    -- the event is taken
    module _ (stack' : Stack) (new : Walk) (e : Event) (known : x ≡ Known e)
        (outside : IsFromOutside e)
        (same : stack' ≡ pushed (after_event (text_of spec) stack.now e) stack)
        (reached :
        HasReached w.best new.best (length w.path.moves.items) Take (w.path.top.matched + 1))
        (path : view_of new.path ≡ entered (view_of w.path) Take (w.path.top.matched + 1) 0)
        (tried : new.tried ≡ w.tried) (notes : new.notes ≡ w.notes) where
      to : stack' ≡ pushed (after_event (text_of c.spec) stack.now e) stack
      to = same
          ∙ ap (λ x. pushed (after_event (text_of x) stack.now e) stack) (sym r.suits.spec_is)

      now_there : stack'.now ≡ after_event (text_of c.spec) stack.now e
      now_there = ap (λ (s : Stack). s.now) to

      -- the trace ends with the event, in a situation
      abbrev EndsIn : Situation → Type 0
      EndsIn s = IsTraceEnd c.trace c.limit (text_of c.spec) s (w.path.top.matched + 1)

      taken_whole : EndsIn stack'.now → IsFound c stack' true new
      taken_whole end =
          subst (λ h. Accepts c h new.tried) (sym (ap (λ (v : View Move Firing). v.moves) path))
          (subst (λ n. Accepts c (Take ∷ (view_of w.path).moves) n) (sym tried)
          (taken_found c stack (view_of w.path) w.tried w.best w.notes r.on_way fresh e
          (next_within lt) (known_there e known) outside (subst EndsIn now_there end)))

      taken_part : (EndsIn stack'.now → ⊥) → IsFound c stack' false new
      taken_part never =
          subst (λ s. IsOnWay c s (view_of new.path) new.tried new.best new.notes) (sym to)
          (subst (λ v. IsOnWay c (pushed (after_event (text_of c.spec) stack.now e) stack) v
          new.tried new.best new.notes) (sym path)
          (subst (λ n. IsOnWay c (pushed (after_event (text_of c.spec) stack.now e) stack)
          (entered (view_of w.path) Take (w.path.top.matched + 1) 0) n new.best new.notes)
          (sym tried)
          (subst (λ n. IsOnWay c (pushed (after_event (text_of c.spec) stack.now e) stack)
          (entered (view_of w.path) Take (w.path.top.matched + 1) 0) w.tried new.best n)
          (sym notes)
          (taken_on c stack (view_of w.path) w.tried w.best w.notes r.on_way fresh e
          (next_within lt) (known_there e known) outside new.best (length w.path.moves.items)
          (made_many w.path) reached (λ end. never (subst EndsIn (sym now_there) end))))))

      pub take_call : (found : Bool)
          → IsTrue found ↔ IsTraceEnd trace limit (text_of spec) stack'.now (w.path.top.matched + 1)
          → IsFound c stack' found new
      take_call true h = taken_whole (ends_there c spec limit silent trace r.suits stack'.now
          (w.path.top.matched + 1) (h.0 refl))
      take_call false h = taken_part (λ end. not_true (h.1 (ends_here c spec limit silent trace
          r.suits stack'.now (w.path.top.matched + 1) end)))

-- LISTING

module _ (c : Setup) (spec : Spec) (limit silent : ℕ) (trace : Recorded) (stack stack' : Stack)
    (w new : Walk) (r : IsReady c spec limit silent trace stack w) (taken : w.path.stage ≡ Taken)
    (offers : List Firing) (same : stack' ≡ stack)
    (path : view_of new.path ≡ with_tries (view_of w.path) Listed offers)
    (tried : new.tried ≡ w.tried) (best : new.best ≡ w.best) where
  listed_call : (notes : Notes) → new.notes ≡ notes
      → IsOnWay c stack (with_tries (view_of w.path) Listed offers) w.tried w.best notes
      → IsWalk c stack' new
  listed_call notes notes_are way =
      subst (λ s. IsOnWay c s (view_of new.path) new.tried new.best new.notes) (sym same)
      (subst (λ v. IsOnWay c stack v new.tried new.best new.notes) (sym path)
      (subst (λ n. IsOnWay c stack (with_tries (view_of w.path) Listed offers) n new.best new.notes)
      (sym tried)
      (subst (λ b. IsOnWay c stack (with_tries (view_of w.path) Listed offers) w.tried b new.notes)
      (sym best)
      (subst (λ n. IsOnWay c stack (with_tries (view_of w.path) Listed offers) w.tried w.best n)
      (sym notes_are) way))))

  settled_there : IsSettled limit (text_of spec) stack.now
      → IsSettled c.limit (text_of c.spec) stack.now
  settled_there s = subst (λ l. IsSettled l (text_of c.spec) stack.now) (sym r.suits.limit_is)
      (subst (λ x. IsSettled limit (text_of x) stack.now) (sym r.suits.spec_is) s)

  settled_here : IsSettled c.limit (text_of c.spec) stack.now
      → IsSettled limit (text_of spec) stack.now
  settled_here s = subst (λ l. IsSettled l (text_of spec) stack.now) r.suits.limit_is
      (subst (λ x. IsSettled c.limit (text_of x) stack.now) r.suits.spec_is s)

  options_there : AreOptions limit (text_of spec) stack.now offers
      → AreOptions c.limit (text_of c.spec) stack.now offers
  options_there o =
      subst (λ l. AreOptions l (text_of c.spec) stack.now offers) (sym r.suits.limit_is)
      (subst (λ x. AreOptions limit (text_of x) stack.now offers) (sym r.suits.spec_is) o)

  pub settled_call : new.notes ≡ w.notes → OffersAre limit (text_of spec) stack.now Settled offers
      → IsWalk c stack' new
  settled_call notes o = listed_call w.notes notes
      (settled_on c stack (view_of w.path) w.tried w.best w.notes r.on_way taken offers
      (settled_there o.0) (options_there o.1))

  pub unsettled_call : new.notes ≡ record w.notes {
    passed = option_or w.notes.passed
        (Some (record { run = w.path.moves.items; events = w.path.top.matched; firing = None }));
  }
      → OffersAre limit (text_of spec) stack.now Unsettled offers → IsWalk c stack' new
  unsettled_call notes o = listed_call _ notes
      (unsettled_on c stack (view_of w.path) w.tried w.best w.notes r.on_way taken offers
      w.path.moves.items refl (λ s. o.0 (settled_here s)) o.1)

-- FIRING

pub on_err : {T E P : Type 0} (r : Result T E) → P → OnErr r P
on_err (Ok v) p = tt
on_err (Err e) p = p

module _ (c : Setup) (spec : Spec) (limit silent : ℕ) (trace : Recorded) (stack : Stack)
    (w : Walk) (f : Firing) (t : IsTrying c spec limit silent trace stack w f) where
  outcome_there : (o : Outcome Situation (List Event))
      → outcome limit (text_of spec) stack.now f ≡ o
      → outcome c.limit (text_of c.spec) stack.now f ≡ o
  outcome_there o e = subst (λ l. outcome l (text_of c.spec) stack.now f ≡ o) (sym t.suits.limit_is)
      (subst (λ x. outcome limit (text_of x) stack.now f ≡ o) (sym t.suits.spec_is) e)

  pub possible_call : IsPossible limit (text_of spec) stack.now f
  possible_call = subst (λ l. IsPossible l (text_of spec) stack.now f) t.suits.limit_is
      (subst (λ x. IsPossible c.limit (text_of x) stack.now f) t.suits.spec_is
      (fire_possible c stack t.before w.tried w.best w.notes t.on_way f (view_of w.path) t.next))

  moves_same : (view_of w.path).moves ≡ t.before.moves
  moves_same = ap (λ (v : View Move Firing). v.moves) t.next.next_is

  trace_length : length c.trace.events ≡ length trace.events
  trace_length = ap (λ (r : Recorded). length r.events) t.suits.trace_is

  top_matched : w.path.top.matched ≡ t.before.top.matched
  top_matched = ap (λ (v : View Move Firing). v.top.matched) t.next.next_is

  top_silent : w.path.top.silent ≡ t.before.top.silent
  top_silent = ap (λ (v : View Move Firing). v.top.silent) t.next.next_is

  pub trying_within : w.path.top.matched ≤ length trace.events
  trying_within =
      let u : t.before.top.matched ≤ length c.trace.events = t.on_way.at.node.within in
      let n = trace_length in
      let e = top_matched in
      omega arith

  pub many_trying : HasMany (IsTrial c) (w.tried + 1)
  many_trying = (over c stack t.before w.tried w.best w.notes t.on_way f (view_of w.path)
      t.next).size

  pub fault_call : (stack' : Stack) (new : Walk) (fault : BlockFault) (events : List Event)
      → FiredAs (outcome limit (text_of spec) stack.now f) (fired.Fault fault) events stack stack'
      → new.path ≡ w.path → new.tried ≡ w.tried + 1 → new.best ≡ w.best
      → new.notes ≡ record w.notes {
        faulted = option_or w.notes.faulted
            (Some (record { run = w.path.moves.items; firing = f; fault = fault }));
      }
      → IsWalk c stack' new
  fault_call stack' new fault events is path tried best notes =
      let a = fired_fault (outcome limit (text_of spec) stack.now f) fault events stack stack' is in
      let way = fault_on c stack t.before w.tried w.best w.notes t.on_way f (view_of w.path) t.next
      w.path.moves.items fault moves_same (outcome_there (Fault fault) a.0) in
      rw (a.1, path, tried, best, notes) way

  pub limit_call : (stack' : Stack) (new : Walk) (events : List Event)
      → FiredAs (outcome limit (text_of spec) stack.now f) fired.Limit events stack stack'
      → new.path ≡ w.path → new.tried ≡ w.tried + 1 → new.best ≡ w.best
      → new.notes ≡ record w.notes {
        passed = option_or w.notes.passed
            (Some (record { run = w.path.moves.items; events = w.path.top.matched; firing = Some f }));
      }
      → IsWalk c stack' new
  limit_call stack' new events is path tried best notes =
      let a = fired_limit (outcome limit (text_of spec) stack.now f) events stack stack' is in
      let way = limit_on c stack t.before w.tried w.best w.notes t.on_way f (view_of w.path) t.next
      w.path.moves.items w.path.top.matched moves_same top_matched (outcome_there Limit a.0) in
      rw (a.1, path, tried, best, notes) way

  -- it is done
  module _ (mid : Walk) (stack' : Stack) (path : mid.path ≡ w.path) (tried : mid.tried ≡ w.tried +
      1)
      (best : mid.best ≡ w.best) (notes : mid.notes ≡ w.notes)
      (is : FiredAs (outcome limit (text_of spec) stack.now f) fired.Done mid.outs.items stack
      stack')
    where
      done : (s : Situation) × (outcome limit (text_of spec) stack.now f ≡ Done mid.outs.items s)
          × (stack' ≡ pushed s stack)
      done = fired_done (outcome limit (text_of spec) stack.now f) mid.outs.items stack stack' is

      done_there : outcome c.limit (text_of c.spec) stack.now f ≡ Done mid.outs.items done.0
      done_there = outcome_there (Done mid.outs.items done.0) done.1

      matched_is : mid.path.top.matched ≡ t.before.top.matched
      matched_is = ap (λ (p : Path Move Firing). p.top.matched) path ∙ top_matched

      silent_is : mid.path.top.silent ≡ t.before.top.silent
      silent_is = ap (λ (p : Path Move Firing). p.top.silent) path ∙ top_silent

      made_is : length mid.path.moves.items ≡ length t.before.moves
      made_is = ap (λ (p : Path Move Firing). length p.moves.items) path ∙ made_many w.path
          ∙ ap length moves_same

      few_there : silent_after mid.path.top.silent mid.outs.items ≤ silent
          → silent_after t.before.top.silent mid.outs.items ≤ c.silent
      few_there le =
          let e = ap (λ n. silent_after n mid.outs.items) silent_is in
          let s = t.suits.silent_is in
          omega arith

      agree_there : (k : ℕ) → AgreeFor trace.events mid.path.top.matched mid.outs.items k
          → AgreeFor c.trace.events t.before.top.matched mid.outs.items k
      agree_there k a = subst
          (λ (r : Recorded). AgreeFor r.events t.before.top.matched mid.outs.items k)
          (sym t.suits.trace_is)
          (subst (λ n. AgreeFor trace.events n mid.outs.items k) matched_is a)

      module _ (new : Walk) (tried' : new.tried ≡ mid.tried) where
        reached_there : (k : ℕ) → HasReached mid.best new.best (length mid.path.moves.items) (Fire
            f)
            (mid.path.top.matched + k)
            → HasReached w.best new.best (length mid.path.moves.items) (Fire f)
            (t.before.top.matched + k)
        reached_there k r = subst (λ n. HasReached w.best new.best (length mid.path.moves.items)
            (Fire f)
            (n + k)) matched_is (subst (λ b. HasReached b new.best (length mid.path.moves.items)
            (Fire f)
            (mid.path.top.matched + k)) best r)

        -- it does not lead on
        pub off_call : (back : Stack) → stack' ≡ pushed stack'.now back
            → HasLanded trace.events silent mid new f Off → IsWalk c back new
        off_call back undone landed =
            let same : back ≡ stack =
            sym (pushed_same done.0 stack'.now stack back (sym done.2 ∙ undone)) in
            elim landed [
              | inl a ↦
                  (let e = ap (λ n. silent_after n mid.outs.items) silent_is in
                  let s = t.suits.silent_is in
                  let many = a.0 in
                  let way = silent_on c stack t.before w.tried w.best w.notes t.on_way f
                  (view_of w.path) t.next done.0 mid.outs.items done_there (omega arith) in
                  let p : new.path ≡ w.path = ap (λ (u : Walk). u.path) a.1 ∙ path in
                  let n : new.tried ≡ w.tried + 1 = tried' ∙ tried in
                  let b : new.best ≡ w.best = ap (λ (u : Walk). u.best) a.1 ∙ best in
                  let m : new.notes ≡ w.notes = ap (λ (u : Walk). u.notes) a.1 ∙ notes in
                  rw (same, p, n, b, m) way)
              | inr a ↦
                  (let way = departed_on c stack t.before w.tried w.best w.notes t.on_way f
                  (view_of w.path) t.next done.0 mid.outs.items done_there (few_there a.few) a.k
                  (agree_there a.k a.agree) new.best (length mid.path.moves.items) made_is
                  (reached_there a.k a.best) a.short in
                  let p : new.path ≡ w.path = a.path ∙ path in
                  let n : new.tried ≡ w.tried + 1 = tried' ∙ tried in
                  let m : new.notes ≡ w.notes = a.notes ∙ notes in
                  rw (same, p, n, m) way)
            ]

        entered_there : HasLedOn trace.events silent mid new f → view_of new.path
            ≡ entered (view_of w.path) (Fire f) (t.before.top.matched + length mid.outs.items)
            (silent_after t.before.top.silent mid.outs.items)
        entered_there l = l.path
            ∙ ap (λ (p : Path Move Firing). entered (view_of p) (Fire f) (mid.path.top.matched
            + length mid.outs.items) (silent_after mid.path.top.silent mid.outs.items)) path
            ∙ ap (λ n. entered (view_of w.path) (Fire f) (n + length mid.outs.items)
            (silent_after mid.path.top.silent mid.outs.items)) matched_is
            ∙ ap (λ n. entered (view_of w.path) (Fire f) (t.before.top.matched
            + length mid.outs.items) (silent_after n mid.outs.items)) silent_is

        -- the trace ends with the events of the firing
        abbrev EndsOn : Type 0
        EndsOn = IsTraceEnd c.trace c.limit (text_of c.spec) done.0
            (t.before.top.matched + length mid.outs.items)

        -- it leads on
        on_call : HasLedOn trace.events silent mid new f → (EndsOn → ⊥) → IsWalk c stack' new
        on_call l never =
            let way = led_on c stack t.before w.tried w.best w.notes t.on_way f (view_of w.path)
            t.next
            done.0 mid.outs.items done_there (few_there l.few)
            (agree_there (length mid.outs.items) l.agree) new.best (length mid.path.moves.items)
            made_is
            (reached_there (length mid.outs.items) l.best) never in
            let v = entered_there l in
            let n' : new.tried ≡ w.tried + 1 = tried' ∙ tried in
            let m : new.notes ≡ w.notes = l.notes ∙ notes in
            rw (done.2, v, n', m) way

        -- it explains the trace
        found_call : HasLedOn trace.events silent mid new f → EndsOn
            → Accepts c (reverse new.path.moves.items) new.tried
        found_call l end =
            let x : Accepts c (Fire f ∷ t.before.moves) (w.tried + 1) =
            led_found c stack t.before w.tried w.best w.notes t.on_way f (view_of w.path) t.next
            done.0 mid.outs.items done_there (few_there l.few)
            (agree_there (length mid.outs.items) l.agree) end in
            let h : (view_of new.path).moves ≡ Fire f ∷ t.before.moves =
            ap (λ (v : View Move Firing). v.moves) (entered_there l)
            ∙ ap (λ u. Fire f ∷ u) moves_same in
            let n' : new.tried ≡ w.tried + 1 = tried' ∙ tried in
            rw (h, n') x

        landed_by : (found : Bool) → HasLedOn trace.events silent mid new f
            → IsTrue found ↔ IsTraceEnd trace limit (text_of spec) done.0
            (t.before.top.matched + length mid.outs.items) → IsFound c stack' found new
        landed_by true l h = found_call l (ends_there c spec limit silent trace t.suits done.0
            (t.before.top.matched + length mid.outs.items) (h.0 refl))
        landed_by false l h = on_call l (λ end. not_true (h.1 (ends_here c spec limit silent trace
            t.suits done.0 (t.before.top.matched + length mid.outs.items) end)))

        pub landed_call : (end : Stack) (found : Bool) → end ≡ stack'
            → HasLanded trace.events silent mid new f On
            → IsTrue found ↔ IsTraceEnd trace limit (text_of spec) end.now new.path.top.matched
            → IsFound c end found new
        landed_call end found again l h =
            let many : new.path.top.matched ≡ t.before.top.matched + length mid.outs.items =
            ap (λ (v : View Move Firing). v.top.matched) (entered_there l) in
            let now : end.now ≡ done.0 = ap (λ (s : Stack). s.now) (again ∙ done.2) in
            subst (λ s. IsFound c s found new) (sym again) (landed_by found l
            (subst (λ s. IsTrue found ↔ IsTraceEnd trace limit (text_of spec) s
            (t.before.top.matched + length mid.outs.items)) now
            (subst (λ n. IsTrue found ↔ IsTraceEnd trace limit (text_of spec) end.now n) many h)))

-- BACK

load_after : (n : ℕ) (made : Move) (w : View Move Firing)
    → load n (gone_back w made) ≤ 2 + 2 * length w.lower
load_after n Take w = omega arith
load_after n (Fire f) w = omega arith

load_back : (n : ℕ) (made : Move) (v w : View Move Firing) → v.stage ≡ Listed → IsUndone v made w
    → load n (gone_back w made) < load n v
load_back n made v w e u =
    let k : weight_of n v.top.matched v.stage ≡ 1 = ap (weight_of n v.top.matched) e in
    let l : length v.lower ≡ length w.lower + 1 = ap length u.lower ∙ (omega arith) in
    let m = load_after n made w in
    omega arith

-- where the stage is set after the last move was undone
gone_there : (made : Move) (p : Path Move Firing) (stage : Stage) → stage ≡ stage_after made
    → view_of (record p { stage = stage }) ≡ gone_back (view_of p) made
gone_there made p stage e = ap (λ s. let v : View Move Firing = record (view_of p) { stage = s } in
    v) e

pub load_gone : (n : ℕ) (made : Move) (v : View Move Firing) (p : Path Move Firing) (stage : Stage)
    → v.stage ≡ Listed → IsUndone v made (view_of p) → stage ≡ stage_after made
    → load n (view_of (record p { stage = stage })) < load n v
load_gone n made v p stage e u same = subst (λ w. load n w < load n v)
    (sym (gone_there made p stage same)) (load_back n made v (view_of p) e u)

-- one firing more was tried
pub work_tried : (n budget t t' a b : ℕ) → t < budget → t' ≡ t + 1 → a < b + (3 * n + 5)
    → (budget - t') * (3 * n + 5) + a < (budget - t) * (3 * n + 5) + b
work_tried n budget t t' a b lt e less =
    let f : budget - t ≡ suc (budget - t') = omega arith in
    let g : (budget - t) * (3 * n + 5) ≡ (budget - t') * (3 * n + 5) + (3 * n + 5) =
    rw f (omega arith) in
    omega arith

module _ (c : Setup) (stack : Stack) (w : Walk) (way : IsWalk c stack w)
    (stage : w.path.stage ≡ Listed)
    (spent : (w.path.top.left ≡ 0) ⊎ (w.path.tries.items ≡ [])) where
  spent_view : ((view_of w.path).top.left ≡ 0) ⊎ ((view_of w.path).tries ≡ [])
  spent_view = elim spent [ inl e ↦ inl e | inr e ↦ inr (ap reverse e) ]

  pub depth_call : (made : Move) (p : Path Move Firing) → IsUndone (view_of w.path) made (view_of p)
      → 0 < length stack.below
  depth_call made p undone = back_depth c stack (view_of w.path) w.tried w.best w.notes way stage
      spent_view made (view_of p) undone

  pub back_call : (new : Walk) (p : Path Move Firing) (stage' : Stage) (stack' : Stack)
      (made : Move) → IsUndone (view_of w.path) made (view_of p) → stage' ≡ stage_after made
      → new.path ≡ record p { stage = stage' } → stack ≡ pushed stack.now stack'
      → HasKept w.best new.best (length p.moves.items) made → new.tried ≡ w.tried
      → new.notes ≡ w.notes → IsWalk c stack' new
  back_call new p stage' stack' made undone stage_is path back kept tried notes =
      let on = back_on c stack (view_of w.path) w.tried w.best w.notes way stage spent_view made
      (view_of p) stack' new.best (length p.moves.items) undone back (made_many p) kept in
      let there : view_of new.path ≡ gone_back (view_of p) made =
      ap view_of path ∙ gone_there made p stage' stage_is in
      rw (there, tried, notes) on

  pub done_call : (w.path.lower.items ≡ []) ⊎ (w.path.moves.items ≡ [])
      → KnowsAll c (λ x. ⊥) [] w.tried w.best w.notes
  done_call end = all_done c stack (view_of w.path) w.tried w.best w.notes way stage spent_view
      (elim end [ inl e ↦ inl (ap reverse e) | inr e ↦ inr (ap reverse e) ])

-- THE NEXT FIRING

nil_reversed : {X : Type 0} (xs : List X) → reverse xs ≡ [] → xs ≡ []
nil_reversed xs e = sym (reverse-reverse xs) ∙ ap reverse e

pub stage_kept : (p q : Path Move Firing) → view_of q ≡ view_of p → p.stage ≡ Listed
    → q.stage ≡ Listed
stage_kept p q same e = ap (λ (v : View Move Firing). v.stage) same ∙ e

pub spent_kept : (p q : Path Move Firing) → view_of q ≡ view_of p
    → (p.top.left ≡ 0) ⊎ (p.tries.items ≡ []) → (q.top.left ≡ 0) ⊎ (q.tries.items ≡ [])
spent_kept p q same spent = elim spent [
  | inl e ↦ inl (ap (λ (v : View Move Firing). v.top.left) same ∙ e)
  | inr e ↦ inr (nil_reversed q.tries.items (ap (λ (v : View Move Firing). v.tries) same
      ∙ ap reverse e))
]

pub way_kept : (c : Setup) (stack : Stack) (w : Walk) (q : Path Move Firing)
    → view_of q ≡ view_of w.path → IsWalk c stack w → IsWalk c stack (record w { path = q })
way_kept c stack w q same way = subst (λ v. IsOnWay c stack v w.tried w.best w.notes) (sym same) way

pub load_kept : (n : ℕ) (p q r : Path Move Firing) → view_of q ≡ view_of p
    → load n (view_of r) < load n (view_of q) → load n (view_of r) < load n (view_of p)
load_kept n p q r same lt = subst (λ v. load n (view_of r) < load n v) same lt

pub load_next : (n : ℕ) (v w : View Move Firing) (f : Firing) → IsNext v f w → load n w ≡ load n v
load_next n v w f next = ap (load n) next.next_is

pub trying : (c : Setup) (spec : Spec) (limit silent : ℕ) (trace : Recorded) (stack : Stack)
    (w : Walk) (f : Firing) (p : Path Move Firing) → IsReady c spec limit silent trace stack w
    → IsNext (view_of w.path) f (view_of p)
    → IsTrying c spec limit silent trace stack (record w { path = p }) f
trying c spec limit silent trace stack w f p r next = record {
  suits = r.suits;
  before = view_of w.path;
  next = next;
  on_way = r.on_way;
}

pub over_call : (c : Setup) (stack : Stack) (w : Walk) (f : Firing) (p : Path Move Firing)
    → IsWalk c stack w → IsNext (view_of w.path) f (view_of p) → IsOver c w.tried
over_call c stack w f p way next =
    over c stack (view_of w.path) w.tried w.best w.notes way f (view_of p) next
