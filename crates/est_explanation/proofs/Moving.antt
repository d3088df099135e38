-- What a world's calls say of a move.
use Rattle.std.proofs.Common.{◌≡◌, ◌≤◌, ◌<◌, ◌+◌, ◌-◌, ◌^◌, ℕ, List, [], ◌++◌}
use Rattle.std.proofs.Common.{length, take, drop, get_or, refl, sym, ap, subst}
use Rattle.std.proofs.Common.{◌∙◌, inl, inr, zero-le, arith}
use Rattle.std.proofs.lemmas.List.{take_all, length-append, length-take-le, length_push}
use Rattle.est_syntax.specs.declared.specification.Spec.{Spec}
use Rattle.est_syntax.specs.Least.{IsIn}
use Rattle.est_meaning.specs.mean_blocks.declared.fault.BlockFault.{BlockFault}
use Rattle.est_meaning.specs.mean_blocks.GlobalSituation.{Situation}
use Rattle.est_meaning.specs.mean_blocks.Outcome.{Done, Fault, Limit}
use Rattle.est_meaning.specs.mean_blocks.TextByPlace.{text_of}
use Rattle.est_meaning.specs.declared.event.Interaction.{Interaction}
use Rattle.est_meaning.specs.declared.event.Event.{Event}
use Rattle.est_meaning.specs.declared.event.Event.TheVariants.{Arrives, Passes}
use Rattle.est_meaning.specs.declared.trace.Expected.{Expected}
use Rattle.est_meaning.specs.declared.trace.Expected.TheVariants.{Known}
use Rattle.est_meaning.specs.declared.firing.Firing.{Firing}
use Rattle.est_meaning.specs.Agreement.{AgreeAll, AgreeFirst}
use Rattle.est_meaning.specs.RecordedTraces.{Recorded}
use Rattle.est_meaning.specs.TransitionSelection.{IsPossible}
use Rattle.est_meaning.specs.FiringSteps.{outcome}
use Rattle.est_meaning.specs.OutsideEvents.{after_event, units_of}
use Rattle.est_meaning.specs.AllowedEvents.{IsAllowed, IsAllowedExpected, IsArrival}
use Rattle.est_meaning.specs.declared.answers.Fired.TheVariants as fired
use Rattle.est_meaning.specs.declared.answers.Offers.{Offers}
use Rattle.est_meaning.specs.declared.answers.Offers.TheVariants.{Settled, Unsettled}
use Rattle.est_meaning.specs.SituationStacks.{Stack, pushed, FiredAs}
use Rattle.est_meaning.specs.PossibleFirings.{OffersAre}
use Rattle.est_meaning.specs.declared.run.Move.TheVariants.{Take, Fire}
use Rattle.est_meaning.specs.Run.{Setup, IsFromOutside, after_taking, after_firing, Takes}
use Rattle.est_meaning.proofs.AgreementLaws.{agree_length}
use Rattle.est_meaning.proofs.StackLaws.{FiringOutcome, fired_done, fired_fault, fired_limit}
use Rattle.est_meaning.proofs.RunLaws.{bounded_is_run}
use Rattle.est_meaning.proofs.ClockLaws.{clock_bounded}
use Rattle.est_meaning.proofs.Takings.{IsKnownOutside, none_taken, taken_follows, takes_at}
use Rattle.est_meaning.proofs.Takings.{inside_stays}
use Rattle.est_explanation.specs.declared.verdict.Why.TheVariants as why
use Rattle.est_explanation.specs.declared.replay.Standing.{Standing}
use Rattle.est_explanation.specs.declared.replay.Moved.{Moved}
use Rattle.est_explanation.specs.declared.replay.Moved.TheVariants.{Passed, Failed}
use Rattle.est_explanation.specs.Replay.{HasNoEvent, MoveFails}
use Rattle.est_explanation.specs.inside.Standing.{IsReady, AgreesUpTo, HasMoved, HasLanded}
use Rattle.est_explanation.specs.inside.Standing.{place_of}
use Rattle.est_explanation.proofs.Checks.{follows_agrees}
use Rattle.est_explanation.proofs.Events.{agrees_on, agrees_back}

pub pushed_now : (new old : Stack) (s : Situation) → new ≡ pushed s old → new.now ≡ s
pushed_now new old s e = ap (λ (x : Stack). x.now) e

module _ (c : Setup) (spec : Spec) (limit silent : ℕ) (trace : Recorded) (stack : Stack)
    (at : Standing) (events : List Event)
    (r : IsReady c spec limit silent trace stack at events) where
  many_events : at.events ≤ length trace.events → length events ≡ at.events
  many_events within = agree_length (take at.events trace.events) events r.agree
      ∙ length-take-le at.events trace.events within

  -- TAKING

  pub none_left : length trace.events ≤ at.events → HasNoEvent c (place_of stack events at)
  none_left past q t =
      let n : length c.trace.events ≡ length trace.events =
      ap (λ (w : Recorded). length w.events) r.suits.trace_is in
      let k = agree_length (take at.events trace.events) events r.agree in
      let w : length (take at.events trace.events) ≡ length trace.events =
      ap length (take_all at.events trace.events past) in
      none_taken c (place_of stack events at) q (omega arith) t

  module _ (x : Expected) (lt : at.events < length trace.events)
      (is : get_or trace.events at.events x ≡ x) where
    within_there : at.events < length c.trace.events
    within_there = subst (λ (w : Recorded). at.events < length w.events) (sym r.suits.trace_is) lt

    is_there : get_or c.trace.events at.events x ≡ x
    is_there = ap (λ (w : Recorded). get_or w.events at.events x) r.suits.trace_is ∙ is

    agree_there : AgreeAll (take at.events c.trace.events) events
    agree_there = subst (λ (w : Recorded). AgreeAll (take at.events w.events) events)
        (sym r.suits.trace_is) r.agree

  pub next_inside : (x : Expected) → at.events < length trace.events
      → get_or trace.events at.events x ≡ x → (IsKnownOutside x → ⊥)
      → HasNoEvent c (place_of stack events at)
  next_inside x lt is inside q t =
      inside_stays c (place_of stack events at) at.events x (within_there x lt is)
      (is_there x lt is) (agree_there x lt is) inside q t

  pub next_takes : (x : Expected) (e : Event) → at.events < length trace.events
      → get_or trace.events at.events x ≡ x → x ≡ Known e → IsFromOutside e
      → Takes c (place_of stack events at) (after_taking c (place_of stack events at) e)
  next_takes x e lt is known outside =
      takes_at c (place_of stack events at) at.events x (within_there x lt is) (is_there x lt is)
      (agree_there x lt is) e known outside

  pub next_taken : (asked : ℕ) (x : Expected) (e : Event) (s : Situation)
      → at.events < length trace.events → get_or trace.events at.events x ≡ x → x ≡ Known e
      → IsFromOutside e → after_event (text_of spec) stack.now e ≡ s
      → HasMoved c asked (place_of stack events at) Take s
      (Passed (record { events = at.events + 1; silent_in_row = 0 }))
  next_taken asked x e s lt is known outside after =
      let p = place_of stack events at in
      let q = after_taking c p e in
      let t = next_takes x e lt is known outside in
      let many = many_events (omega arith) in (
        q,
        t,
        zero-le,
        follows_agrees c asked [] q (taken_follows c p q t),
        record {
          situation_is = ap (λ y. after_event (text_of y) stack.now e) r.suits.spec_is ∙ after;
          many = length_push events e ∙ ap (λ n. n + 1) many;
          silent_in_row_is = refl;
        },
      )

  pub next_allowed : (x : Expected) (e : Event) → at.events < length trace.events
      → get_or trace.events at.events x ≡ x → x ≡ Known e → IsAllowed spec e
  next_allowed x e lt is known =
      let a : IsAllowedExpected c.spec (get_or c.trace.events at.events x) =
      r.suits.allowed.each at.events x (within_there x lt is) in
      let b : IsAllowedExpected c.spec (Known e) =
      subst (IsAllowedExpected c.spec) (is_there x lt is ∙ known) a in
      subst (λ y. IsAllowed y e) r.suits.spec_is b

  pub next_arrives : (x : Expected) (e : Event) (i : Interaction)
      → at.events < length trace.events → get_or trace.events at.events x ≡ x → x ≡ Known e
      → e ≡ Arrives i → IsArrival spec e
  next_arrives x e i lt is known e_is = subst (IsArrival spec) (sym e_is)
      (subst (IsAllowed spec) e_is (next_allowed x e lt is known))

  pub time_fits : (x : Expected) (e : Event) (units : ℕ) → at.events < length trace.events
      → get_or trace.events at.events x ≡ x → x ≡ Known e → e ≡ Passes units
      → stack.now.clock + units ≤ 10 ^ 15
  unfolding next_takes
  time_fits x e units lt is known e_is =
      let p = place_of stack events at in
      let outside : IsFromOutside e = subst IsFromOutside (sym e_is) tt in
      let b = clock_bounded c r.run p r.suits.begun r.suits.allowed
      (bounded_is_run c r.run p r.is_run) in
      let fits : stack.now.clock + units_of e ≤ 10 ^ 15 = b.1 (after_taking c p e)
      (next_takes x e lt is known outside) in
      subst (λ w. stack.now.clock + units_of w ≤ 10 ^ 15) e_is fits

  -- FIRING

  offered : (o : Offers) (fs : List Firing) → OffersAre limit (text_of spec) stack.now o fs
      → OffersAre c.limit (text_of c.spec) stack.now o fs
  offered o fs h = subst (λ x. OffersAre c.limit (text_of x) stack.now o fs) (sym r.suits.spec_is)
      (subst (λ l. OffersAre l (text_of spec) stack.now o fs) (sym r.suits.limit_is) h)

  module _ (asked : ℕ) (f : Firing) (fs : List Firing) where
    pub fails_unsettled : OffersAre limit (text_of spec) stack.now Unsettled fs
        → MoveFails c (AgreesUpTo c asked) (place_of stack events at) (Fire f) why.Limit
    fails_unsettled h = inl (offered Unsettled fs h).0

    pub fails_not_offered : OffersAre limit (text_of spec) stack.now Settled fs → (IsIn f fs → ⊥)
        → MoveFails c (AgreesUpTo c asked) (place_of stack events at) (Fire f) why.NotOffered
    fails_not_offered h away =
        (let o = offered Settled fs h in (o.0, λ possible. away (o.1.complete f possible)))

    pub possible_of : OffersAre limit (text_of spec) stack.now Settled fs → IsIn f fs
        → IsPossible c.limit (text_of c.spec) stack.now f
    possible_of h among = (offered Settled fs h).1.sound f among

    outcome_is : (o : FiringOutcome) (limit' : ℕ) (mid : Stack) → limit' ≡ limit → mid ≡ stack
        → outcome limit' (text_of spec) mid.now f ≡ o
        → outcome c.limit (text_of c.spec) stack.now f ≡ o
    outcome_is o limit' mid l m e =
        ap (λ x. outcome c.limit (text_of x) stack.now f) r.suits.spec_is
        ∙ ap (λ n. outcome n (text_of spec) stack.now f) (r.suits.limit_is ∙ sym l)
        ∙ ap (λ (x : Stack). outcome limit' (text_of spec) x.now f) (sym m) ∙ e

    module _ (limit' : ℕ) (mid new : Stack) (outs : List Event) (limit_same : limit' ≡ limit)
        (stack_same : mid ≡ stack) (h : OffersAre limit (text_of spec) stack.now Settled fs)
        (among : IsIn f fs) where
      pub fails_fault : (g : BlockFault)
          → FiredAs (outcome limit' (text_of spec) mid.now f) (fired.Fault g) outs mid new
          → MoveFails c (AgreesUpTo c asked) (place_of stack events at) (Fire f)
          (why.Fault g)
      fails_fault g a = (
        possible_of h among,
        outcome_is (Fault g) limit' mid limit_same stack_same
            (fired_fault (outcome limit' (text_of spec) mid.now f) g outs mid new a).0,
      )

      pub fails_limit : FiredAs (outcome limit' (text_of spec) mid.now f) fired.Limit outs mid new
          → MoveFails c (AgreesUpTo c asked) (place_of stack events at) (Fire f) why.Limit
      fails_limit a =
          inr (
            possible_of h among,
            outcome_is Limit limit' mid limit_same stack_same
                (fired_limit (outcome limit' (text_of spec) mid.now f) outs mid new a).0,
          )

      -- all events agree with the trace just where the last ones agree with the rest of it
      all_agree : at.events ≤ length trace.events
          → AgreeFirst (drop at.events trace.events) (take (asked - at.events) outs)
          → AgreeFirst c.trace.events (take asked (events ++ outs))
      all_agree within a =
          subst (λ (w : Recorded). AgreeFirst w.events (take asked (events ++ outs)))
          (sym r.suits.trace_is)
          (agrees_on trace.events events outs at.events asked within r.agree a)

      rest_agrees : at.events ≤ length trace.events
          → AgreeFirst c.trace.events (take asked (events ++ outs))
          → AgreeFirst (drop at.events trace.events) (take (asked - at.events) outs)
      rest_agrees within a =
          agrees_back trace.events events outs at.events asked within r.agree
          (subst (λ (w : Recorded). AgreeFirst w.events (take asked (events ++ outs)))
          r.suits.trace_is a)

      landed : (s : Situation) → outcome limit' (text_of spec) mid.now f ≡ Done outs s
          → new ≡ pushed s mid → at.events ≤ length trace.events → (moved : Moved)
          → HasLanded trace.events silent asked at outs moved
          → HasMoved c asked (place_of stack events at) (Fire f) new.now moved
      landed s done new_is within (Passed next) l =
          let p = place_of stack events at in
          let q = after_firing p s outs in
          let many = many_events within in
          let row : q.silent_in_row ≡ next.silent_in_row = sym l.2 in
          let few : next.silent_in_row ≤ silent = l.3 in (
            q,
            record {
              situation = s;
              outs = outs;
              step = record {
                possible = possible_of h among;
                done = outcome_is (Done outs s) limit' mid limit_same stack_same done;
              };
              leads = refl;
            },
            subst (λ n. q.silent_in_row ≤ n) (sym r.suits.silent_is)
                (subst (λ n. n ≤ silent) (sym row) few),
            all_agree within l.0,
            record {
              situation_is = ap (λ (x : Stack). x.now) (sym new_is);
              many = length-append events outs ∙ ap (λ n. n + length outs) many ∙ sym l.1;
              silent_in_row_is = row;
            },
          )
      landed s done new_is within (Failed why.WrongOutput) l =
          let q = after_firing (place_of stack events at) s outs in (
            q,
            record {
              situation = s;
              outs = outs;
              step = record {
                possible = possible_of h among;
                done = outcome_is (Done outs s) limit' mid limit_same stack_same done;
              };
              leads = refl;
            },
            λ a. l (rest_agrees within a),
          )
      landed s done new_is within (Failed why.TooSilent) l =
          let q = after_firing (place_of stack events at) s outs in (
            q,
            record {
              situation = s;
              outs = outs;
              step = record {
                possible = possible_of h among;
                done = outcome_is (Done outs s) limit' mid limit_same stack_same done;
              };
              leads = refl;
            },
            all_agree within l.0,
            subst (λ n. n < q.silent_in_row) (sym r.suits.silent_is) l.1,
          )
      landed s done new_is within (Failed (why.NoStart g)) l = absurd l
      landed s done new_is within (Failed why.Limit) l = absurd l
      landed s done new_is within (Failed why.NoEvent) l = absurd l
      landed s done new_is within (Failed why.NotOffered) l = absurd l
      landed s done new_is within (Failed (why.Fault g)) l = absurd l
      landed s done new_is within (Failed why.NotAll) l = absurd l

      pub fired_lands : FiredAs (outcome limit' (text_of spec) mid.now f) fired.Done outs mid new
          → at.events ≤ length trace.events → (moved : Moved)
          → HasLanded trace.events silent asked at outs moved
          → HasMoved c asked (place_of stack events at) (Fire f) new.now moved
      fired_lands a within moved l =
          let d = fired_done (outcome limit' (text_of spec) mid.now f) outs mid new a in
          landed d.0 d.1 d.2 within moved l
