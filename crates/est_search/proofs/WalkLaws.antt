-- What is known after a step of a search, and the steps that take an event or list the firings.
use Rattle.std.proofs.Common.{◌≡◌, ℕ, ◌+◌, ◌<◌, ◌≤◌, List, [], ◌∷◌, ◌++◌, Option, Some, None}
use Rattle.std.proofs.Common.{length, take, get_or, refl, sym, ap, subst, ◌∙◌}
use Rattle.std.proofs.Common.{reverse, zero-le}
use Rattle.std.specs.Option.{option_or}
use Rattle.std.proofs.lemmas.List.{length-take-le}
use Rattle.est_meaning.specs.mean_blocks.declared.fault.BlockFault.{BlockFault}
use Rattle.est_meaning.specs.mean_blocks.Outcome.{Outcome, Fault, Limit}
use Rattle.est_meaning.specs.mean_blocks.GlobalSituation.{Situation}
use Rattle.est_meaning.specs.mean_blocks.TextByPlace.{text_of}
use Rattle.est_meaning.specs.declared.event.Event.{Event}
use Rattle.est_meaning.specs.declared.trace.Expected.TheVariants.{Known}
use Rattle.est_meaning.specs.declared.firing.Firing.{Firing}
use Rattle.est_meaning.specs.Agreement.{AgreeAll}
use Rattle.est_meaning.specs.Endings.{IsTraceEnd}
use Rattle.est_meaning.specs.TransitionSelection.{IsSettled}
use Rattle.est_meaning.specs.FiringSteps.{outcome}
use Rattle.est_meaning.specs.OutsideEvents.{after_event}
use Rattle.est_meaning.proofs.Steps.{possible_settled}
use Rattle.est_meaning.specs.PossibleFirings.{AreOptions}
use Rattle.est_meaning.specs.SituationStacks.{Stack, pushed}
use Rattle.est_meaning.specs.declared.run.Move.{Move}
use Rattle.est_meaning.specs.declared.run.Move.TheVariants.{Take, Fire}
use Rattle.est_meaning.specs.Order.{Mark, Taking, Guarding, Trying, marks_of}
use Rattle.est_meaning.specs.Run.{Setup, Place, Takes, IsFromOutside, after_taking}
use Rattle.est_meaning.specs.Run.{IsBoundedRun, Explains, YieldsFirst}
use Rattle.est_meaning.specs.Trials.{IsTrial, ComesTo, PassesLimit, guards, block, Faults}
use Rattle.est_meaning.proofs.AgreementLaws.{agree_length}
use Rattle.est_meaning.proofs.Endings.{whole_ends}
use Rattle.est_meaning.proofs.OrderLaws.{marks_same, starts_one}
use Rattle.est_meaning.proofs.RunLaws.{one_place}
use Rattle.est_meaning.proofs.Takings.{takes_at}
use Rattle.est_meaning.proofs.TreeLaws.{passes_in_tree, faults_in_tree}
use Rattle.run_paths.specs.declared.path.Stage.TheVariants.{Fresh, Taken, Listed}
use Rattle.run_paths.specs.declared.path.Level.{Level}
use Rattle.run_paths.specs.declared.path.Best.{Best}
use Rattle.est_search.specs.declared.walk.Passed.{Passed}
use Rattle.est_search.specs.declared.walk.Notes.{Notes}
use Rattle.est_search.specs.inside.Ahead.{IsAhead}
use Rattle.est_search.specs.inside.Known.{KnowsTrials, IsNoted}
use Rattle.est_search.specs.inside.Agreement.{AgreeFor}
use Rattle.run_paths.specs.Paths.{View, entered, with_tries, HasReached}
use Rattle.est_search.specs.inside.Path.{place_at, with_taken, IsNode, AreLeft, StageIs}
use Rattle.est_search.specs.inside.Walk.{passed_at, faulted_at, FaultIs, EventsAre, NotesAre}
use Rattle.est_search.specs.inside.Walk.{KnowsAll, IsOnWay, Accepts}
use Rattle.est_search.proofs.AheadLaws.{Turn, Skip, turn_on, turn_off, skip_mark}
use Rattle.est_search.proofs.KnownLaws.{knows_skip, noted_on, noted_now, explaining_on, trials_on}
use Rattle.est_search.proofs.KnownLaws.{best_on, accepts_untried}
use Rattle.est_search.proofs.AgreeForLaws.{agree_one}
use Rattle.est_search.proofs.EventLaws.{yields_so, yields_no_more, agree_now, is_unfinished}
use Rattle.est_search.proofs.EventLaws.{explains_so}
use Rattle.est_search.proofs.PathLaws.{inner_at, taking_first, guarding_next, guarding_ends}
use Rattle.est_search.proofs.PathLaws.{BestAfter, best_reached}

pub all_skip : (c : Setup) (P P' : List Mark → Type 0) (moves : List Move) (tried : ℕ)
    (best : Best Move) (notes : Notes) → Skip c P P' → KnowsAll c P moves tried best notes
    → KnowsAll c P' moves tried best notes
all_skip c P P' moves tried best notes skip a = record {
  run = a.run;
  kept = a.kept;
  knows = knows_skip c P P' skip tried best.yields a.run (passed_at notes.passed)
      (faulted_at notes.faulted) a.knows;
  noted = a.noted;
}

pub all_at : (c : Setup) (h : List Mark) (d e : Option Mark) (moves : List Move) (tried : ℕ)
    (best : Best Move) (notes : Notes) → d ≡ e → KnowsAll c (IsAhead h d) moves tried best notes
    → KnowsAll c (IsAhead h e) moves tried best notes
all_at c h d e moves tried best notes same a =
    subst (λ w. KnowsAll c (IsAhead h w) moves tried best notes) same a

-- WHAT PASSES OR FAULTS

taking_quiet : (c : Setup) (h : List Mark) → PassesLimit c (Taking ∷ h) → ⊥
taking_quiet c h (guards run at u) = cc
taking_quiet c h (block earlier f at t) = cc

taking_sound : (c : Setup) (h : List Mark) → Faults c (Taking ∷ h) → ⊥
taking_sound c h t = (let e = t.at in cc)

guarding_sound : (c : Setup) (h : List Mark) → Faults c (Guarding ∷ h) → ⊥
guarding_sound c h t = (let e = t.at in cc)

-- guards pass their limit only where the situation is not settled
guarding_passes : (c : Setup) (h : List Move) (p : Place) → IsBoundedRun c h p
    → IsSettled c.limit (text_of c.spec) p.situation → PassesLimit c (Guarding ∷ marks_of h) → ⊥
guarding_passes c h p is settled (guards run at u) =
    let e : marks_of h ≡ marks_of run = cc in
    let r : run ≡ h = sym (marks_same h run e) in
    let q : u.place ≡ p = one_place c h u.place p
    (subst (λ w. IsBoundedRun c w u.place) r u.inner.is_run) is in
    u.unsettled (subst (λ (w : Place). IsSettled c.limit (text_of c.spec) w.situation) (sym q)
    settled)
guarding_passes c h p is settled (block earlier f at t) = cc

-- a trial has one outcome
outcome_there : (c : Setup) (h earlier : List Move) (p : Place) (f g : Firing)
    (o : Outcome Situation (List Event)) → IsBoundedRun c h p
    → Trying f ∷ marks_of h ≡ Trying g ∷ marks_of earlier
    → ComesTo c earlier g o → outcome c.limit (text_of c.spec) p.situation f ≡ o
outcome_there c h earlier p f g o is at t =
    let e : marks_of h ≡ marks_of earlier = cc in
    let same : f ≡ g = cc in
    let r : earlier ≡ h = sym (marks_same h earlier e) in
    let q : t.place ≡ p = one_place c h t.place p
    (subst (λ w. IsBoundedRun c w t.place) r t.inner.is_run) is in
    ap (λ w. outcome c.limit (text_of c.spec) p.situation w) same
    ∙ ap (λ (w : Place). outcome c.limit (text_of c.spec) w.situation g) (sym q) ∙ t.outcome_is

pub trying_passes : (c : Setup) (h : List Move) (p : Place) (f : Firing) → IsBoundedRun c h p
    → (outcome c.limit (text_of c.spec) p.situation f ≡ Limit → ⊥)
    → PassesLimit c (Trying f ∷ marks_of h) → ⊥
trying_passes c h p f is never (guards run at u) = cc
trying_passes c h p f is never (block earlier g at t) =
    never (outcome_there c h earlier p f g Limit is at t)

pub trying_faults : (c : Setup) (h : List Move) (p : Place) (f : Firing) → IsBoundedRun c h p
    → ((fault : BlockFault) → outcome c.limit (text_of c.spec) p.situation f ≡ Fault fault → ⊥)
    → Faults c (Trying f ∷ marks_of h) → ⊥
trying_faults c h p f is never t =
    never t.fault (outcome_there c h t.earlier p f t.firing (Fault t.fault) is t.at t.comes)

-- how many events the run has that is noted
pub events_noted : (c : Setup) (h : List Move) (s : Situation) (l : Level) → IsNode c h s l
    → (o : Option Passed) (moves : List Move) (many : ℕ) (firing : Option Firing)
    → reverse moves ≡ h → many ≡ l.matched → EventsAre c o
    → EventsAre c (option_or o
    (Some (record { run = moves; events = many; firing = firing })))
events_noted c h s l node None moves many firing same count before = record {
  place = place_at s l node.events;
  is_run = subst (λ r. IsBoundedRun c r (place_at s l node.events)) (sym same) node.is_run;
  count = agree_length (take l.matched c.trace.events) node.events node.agree
      ∙ length-take-le l.matched c.trace.events node.within ∙ sym count;
}
events_noted c h s l node (Some p) moves many firing same count before = before

-- A STEP THAT DEALS WITH A RUN

module _ (c : Setup) (P P' : List Mark → Type 0) (h : List Move) (last : Move)
    (turn : Turn c P P' (marks_of (last ∷ h))) (tried : ℕ) (best : Best Move) (notes : Notes)
    (a : KnowsAll c P h tried best notes) where
  -- what is known then, where the run does not explain the trace and is quiet
  pub all_after : (more : List Move) (tried' : ℕ) (best' : Best Move) (notes' : Notes)
      → (Explains c (last ∷ h) → ⊥)
      → (known : BestAfter c P' more best')
      → (IsNoted (PassesLimit c) P (passed_at notes.passed)
      → IsNoted (PassesLimit c) P' (passed_at notes'.passed))
      → (IsNoted (Faults c) P (faulted_at notes.faulted)
      → IsNoted (Faults c) P' (faulted_at notes'.faulted))
      → NotesAre c notes'
      → (KnowsTrials c P tried → KnowsTrials c P' tried')
      → KnowsAll c P' more tried' best' notes'
  all_after more tried' best' notes' never known passes faults noted trials = record {
    run = known.run;
    kept = known.kept;
    knows = record {
      trials = trials a.knows.trials;
      explaining = explaining_on c P P' (marks_of (last ∷ h)) turn
          (λ r e x. never (subst (Explains c) (marks_same r (last ∷ h) e) x)) a.knows.explaining;
      best = known.knows;
      passes = passes a.knows.passes;
      faults = faults a.knows.faults;
    };
    noted = noted;
  }

-- EVENTS

module _ (c : Setup) (stack : Stack) (v : View Move Firing) (tried : ℕ) (best : Best Move)
    (notes : Notes)
    (way : IsOnWay c stack v tried best notes) where
  abbrev pub here : Place
  here = place_at stack.now v.top way.at.node.events

  pub here_run : IsBoundedRun c v.moves here
  here_run = way.at.node.is_run

  module _ (fresh : v.stage ≡ Fresh) where
    at_fresh : (way.dealt ≡ None) × (way.at.mine ≡ [])
    at_fresh = subst (λ w. StageIs c stack.now w way.dealt way.at.mine) fresh way.at.stage

    all_fresh : KnowsAll c (IsAhead (marks_of v.moves) None) v.moves tried best notes
    all_fresh = all_at c (marks_of v.moves) way.dealt None v.moves tried best notes at_fresh.0
        way.all

    -- no event can be taken
    pub skipped : ((q : Place) → Takes c here q → ⊥)
        → IsOnWay c stack (with_taken v) tried best notes
    skipped never =
        let h = marks_of v.moves in
        record {
          dealt = Some Taking;
          at = record {
            mine = way.at.mine;
            rest = way.at.rest;
            firings_are = way.at.firings_are;
            count = way.at.count;
            node = way.at.node;
            stage = (refl, at_fresh.1);
            lower = way.at.lower;
          };
          all = all_skip c (IsAhead h None) (IsAhead h (Some Taking)) v.moves tried best notes
              (skip_mark c h None Taking (taking_first c h) (λ x tree s.
              (let can = (tree Taking v.moves s).0 in
              never can.defined.0 (subst (λ w. Takes c w can.defined.0)
              (one_place c v.moves can.place here can.is_run here_run)
              can.defined.1)))) all_fresh;
        }

    module _ (e : Event) (lt : v.top.matched < length c.trace.events)
        (is : get_or c.trace.events v.top.matched (Known e) ≡ Known e)
        (outside : IsFromOutside e) where
      there : Place
      there = after_taking c here e

      pub takes : Takes c here
          (after_taking c here e)
      takes = takes_at c here v.top.matched (Known e) lt is way.at.node.agree e refl outside

      taken_run : IsBoundedRun c (Take ∷ v.moves) there
      unfolding there
      taken_run = (here, here_run, takes, zero-le)

      taken_events : there.events ≡ way.at.node.events ++ e ∷ []
      unfolding there
      taken_events = refl

      taken_now : there.situation ≡ after_event (text_of c.spec) stack.now e
      unfolding there
      taken_now = refl

      -- the trace ends with the event, in a situation
      abbrev EndsIn : Situation → Type 0
      EndsIn s = IsTraceEnd c.trace c.limit (text_of c.spec) s (v.top.matched + 1)

      abbrev matched : AgreeAll (take v.top.matched c.trace.events) way.at.node.events
      matched = way.at.node.agree

      one : AgreeFor c.trace.events v.top.matched (e ∷ []) 1
      one = agree_one c.trace.events v.top.matched e lt is

      taken_turn : Turn c (IsAhead (marks_of v.moves) None)
          (IsAhead (marks_of (Take ∷ v.moves)) None) (marks_of (Take ∷ v.moves))
      taken_turn = turn_on c (marks_of v.moves) None Taking (taking_first c (marks_of v.moves))

      untried : IsTrial c (Take ∷ v.moves) → ⊥
      untried t = t

      pub taken_found : EndsIn (after_event (text_of c.spec) stack.now e)
          → Accepts c (Take ∷ v.moves) tried
      taken_found end = accepts_untried c (IsAhead (marks_of v.moves) None)
          (IsAhead (marks_of (Take ∷ v.moves)) None) (Take ∷ v.moves) taken_turn tried untried
          (explains_so c (Take ∷ v.moves) there taken_run way.at.node.events (e ∷ [])
          v.top.matched matched taken_events one (subst EndsIn (sym taken_now) end))
          all_fresh.knows.explaining
          all_fresh.knows.trials

      taken_yields : YieldsFirst c (Take ∷ v.moves) (v.top.matched + 1)
      taken_yields = yields_so c (Take ∷ v.moves) there taken_run way.at.node.events
          (e ∷ []) v.top.matched 1 matched taken_events one (
            here,
            here_run,
            (inner_at c v.moves stack.now v.top way.at.node).follows,
          )

      taken_few : (r : List Move) (j : ℕ) → marks_of r ≡ marks_of (Take ∷ v.moves)
          → YieldsFirst c r j → j ≤ v.top.matched + 1
      taken_few r j same y = yields_no_more c (Take ∷ v.moves) there taken_run way.at.node.events
          (e ∷ []) v.top.matched 1 matched taken_events one j (subst (λ w. YieldsFirst c w j)
          (marks_same r (Take ∷ v.moves) same) y)

      abbrev next_place : Place
      next_place = record {
        situation = after_event (text_of c.spec) stack.now e;
        events = way.at.node.events ++ e ∷ [];
        silent_in_row = 0;
      }

      next_run : IsBoundedRun c (Take ∷ v.moves) next_place
      unfolding there
      next_run = taken_run

      next_agree : AgreeAll (take (v.top.matched + 1) c.trace.events) (way.at.node.events ++ e ∷ [])
      unfolding there
      next_agree = agree_now c (Take ∷ v.moves) there taken_run way.at.node.events (e ∷ [])
          v.top.matched matched taken_events one

      pub taken_on : (best' : Best Move) (made : ℕ) → made ≡ length v.moves
          → HasReached best best' made Take (v.top.matched + 1)
          → (EndsIn (after_event (text_of c.spec) stack.now e) → ⊥)
          → IsOnWay c (pushed (after_event (text_of c.spec) stack.now e) stack)
          (entered v Take (v.top.matched + 1) 0) tried best' notes
      taken_on best' made made_is reached never =
          let P = IsAhead (marks_of v.moves) None in
          let P' = IsAhead (marks_of (Take ∷ v.moves)) None in
          let z = marks_of (Take ∷ v.moves) in
          record {
            dealt = None;
            at = record {
              mine = [];
              rest = v.tries;
              firings_are = refl;
              count = refl;
              node = record {
                events = way.at.node.events ++ e ∷ [];
                is_run = next_run;
                within = one.within;
                agree = next_agree;
                unfinished = λ x. never
                    (whole_ends c next_place (v.top.matched + 1) one.within next_agree x);
              };
              stage = (refl, refl);
              lower = (
                way.at.mine,
                way.at.rest,
                way.at.firings_are,
                way.at.count,
                way.at.node,
                at_fresh.1,
                way.at.lower,
              );
            };
            all = all_after c P P' v.moves Take taken_turn tried best notes all_fresh
                (Take ∷ v.moves) tried best' notes
                (is_unfinished c (Take ∷ v.moves) there taken_run way.at.node.events
                (e ∷ []) v.top.matched matched taken_events one
                (λ end. never (subst EndsIn taken_now end)))
                (best_reached c P P' v.moves Take taken_turn best best' all_fresh.run made
                (v.top.matched + 1) (Take ∷ v.moves) (starts_one Take v.moves) made_is reached
                taken_yields taken_few all_fresh.kept all_fresh.knows.best)
                (noted_on c P P' z taken_turn (PassesLimit c) (passes_in_tree c)
                (taking_quiet c (marks_of v.moves)) (passed_at notes.passed))
                (noted_on c P P' z taken_turn (Faults c) (faults_in_tree c)
                (taking_sound c (marks_of v.moves)) (faulted_at notes.faulted))
                all_fresh.noted
                (trials_on c P P' z taken_turn tried (λ x same t.
                subst (IsTrial c) (marks_same x (Take ∷ v.moves) same) t));
          }

-- GUARDS AND OPTIONS

no_guarding : (r : List Move) (h : List Mark) → marks_of r ≡ Guarding ∷ h → ⊥
no_guarding [] h e = cc
no_guarding (Take ∷ r) h e = cc
no_guarding (Fire f ∷ r) h e = cc

module _ (c : Setup) (stack : Stack) (v : View Move Firing) (tried : ℕ) (best : Best Move)
    (notes : Notes)
    (way : IsOnWay c stack v tried best notes) (taken : v.stage ≡ Taken)
    (offers : List Firing) where
  at_taken : (way.dealt ≡ Some Taking) × (way.at.mine ≡ [])
  at_taken = subst (λ w. StageIs c stack.now w way.dealt way.at.mine) taken way.at.stage

  all_taken : KnowsAll c (IsAhead (marks_of v.moves) (Some Taking)) v.moves tried best notes
  all_taken = all_at c (marks_of v.moves) way.dealt (Some Taking) v.moves tried best notes
      at_taken.0 way.all

  guarded_turn : Turn c (IsAhead (marks_of v.moves) (Some Taking))
      (IsAhead (marks_of v.moves) (Some Guarding)) (Guarding ∷ marks_of v.moves)
  guarded_turn = turn_off c (marks_of v.moves) (Some Taking) Guarding
      (guarding_next c (marks_of v.moves)) (guarding_ends c v.moves)

  guarded_by : (notes' : Notes) → AreLeft c stack.now Guarding offers
      → IsNoted (PassesLimit c) (IsAhead (marks_of v.moves) (Some Guarding))
      (passed_at notes'.passed) → notes'.faulted ≡ notes.faulted → EventsAre c notes'.passed
      → IsOnWay c stack (with_tries v Listed offers) tried best notes'
  guarded_by notes' left passes faulted events =
      let P = IsAhead (marks_of v.moves) (Some Taking) in
      let P' = IsAhead (marks_of v.moves) (Some Guarding) in
      let z = Guarding ∷ marks_of v.moves in
      let k = all_taken.knows in
      let none = no_guarding in
      record {
        dealt = Some Guarding;
        at = record {
          mine = offers;
          rest = way.at.rest;
          firings_are = ap (λ w. offers ++ w) (way.at.firings_are
              ∙ ap (λ w. w ++ way.at.rest) at_taken.1);
          count = refl;
          node = record {
            events = way.at.node.events;
            is_run = way.at.node.is_run;
            within = way.at.node.within;
            agree = way.at.node.agree;
            unfinished = way.at.node.unfinished;
          };
          stage = (Guarding, refl, tt, left);
          lower = way.at.lower;
        };
        all = record {
          run = all_taken.run;
          kept = all_taken.kept;
          knows = record {
            trials = trials_on c P P' z guarded_turn tried
                (λ x e t. absurd (none x (marks_of v.moves) e)) k.trials;
            explaining = explaining_on c P P' z guarded_turn
                (λ r e x. none r (marks_of v.moves) e) k.explaining;
            best = best_on c P P' z guarded_turn best.yields all_taken.run
                (λ r j e y. absurd (none r (marks_of v.moves) e)) k.best;
            passes = passes;
            faults = subst (λ w. IsNoted (Faults c) P' (faulted_at w)) (sym faulted)
                (noted_on c P P' z guarded_turn (Faults c) (faults_in_tree c)
                (guarding_sound c (marks_of v.moves)) (faulted_at notes.faulted) k.faults);
          };
          noted = (subst (FaultIs c) (sym faulted) all_taken.noted.0, events);
        };
      }

  pub settled_on : IsSettled c.limit (text_of c.spec) stack.now
      → AreOptions c.limit (text_of c.spec) stack.now offers
      → IsOnWay c stack (with_tries v Listed offers) tried best notes
  settled_on settled options =
      guarded_by notes (record {
        ascending = options.ascending;
        possible = options.sound;
        later = λ f a. tt;
        all = λ f p lt. options.complete f p;
      }) (noted_on c (IsAhead (marks_of v.moves) (Some Taking))
      (IsAhead (marks_of v.moves) (Some Guarding)) (Guarding ∷ marks_of v.moves) guarded_turn
      (PassesLimit c) (passes_in_tree c)
      (guarding_passes c v.moves (place_at stack.now v.top way.at.node.events) way.at.node.is_run
      settled)
      (passed_at notes.passed) all_taken.knows.passes) refl all_taken.noted.1

  -- the guards are noted, where nothing was
  guards_noted : (o : Option Passed) (moves : List Move) → reverse moves ≡ v.moves
      → passed_at (option_or o
      (Some (record { run = moves; events = v.top.matched; firing = None })))
      ≡ option_or (passed_at o) (Some (Guarding ∷ marks_of v.moves))
  guards_noted None moves e = ap (λ w. Some (Guarding ∷ marks_of w)) e
  guards_noted (Some p) moves e = refl

  pub unsettled_on : (moves : List Move) → reverse moves ≡ v.moves
      → (IsSettled c.limit (text_of c.spec) stack.now → ⊥) → offers ≡ []
      → IsOnWay c stack (with_tries v Listed offers) tried best
      (record notes {
        passed = option_or notes.passed (Some (record {
          run = moves;
          events = v.top.matched;
          firing = None;
        }));
      })
  unsettled_on moves same unsettled none =
      guarded_by _ (subst (λ w. AreLeft c stack.now Guarding w) (sym none) (record {
        ascending = tt;
        possible = λ f a. absurd a;
        later = λ f a. absurd a;
        all = λ f p lt. unsettled (possible_settled c.limit (text_of c.spec) stack.now f p);
      })) (subst (λ w. IsNoted (PassesLimit c) (IsAhead (marks_of v.moves) (Some Guarding)) w)
      (sym (guards_noted notes.passed moves same))
      (noted_now c (IsAhead (marks_of v.moves) (Some Taking))
      (IsAhead (marks_of v.moves) (Some Guarding)) (Guarding ∷ marks_of v.moves) guarded_turn
      (PassesLimit c) (passes_in_tree c)
      (guards v.moves refl (record {
        place = place_at stack.now v.top way.at.node.events;
        inner = inner_at c v.moves stack.now v.top way.at.node;
        unsettled = unsettled;
      })) (passed_at notes.passed) all_taken.knows.passes)) refl
      (events_noted c v.moves stack.now v.top way.at.node notes.passed moves v.top.matched None same
      refl all_taken.noted.1)
