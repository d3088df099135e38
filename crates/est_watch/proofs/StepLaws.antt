-- The steps that take an event or list the firings.
use Rattle.std.proofs.Common.{◌≡◌, ℕ, ◌+◌, ◌<◌, Bool, true, List, [], ◌∷◌, ◌++◌}
use Rattle.std.proofs.Common.{Some, None, length, take, get_or, refl, sym, ap, subst, ◌∙◌}
use Rattle.std.proofs.Common.{zero-le, arith}
use Rattle.std.proofs.lemmas.List.{length-append, append-nil}
use Rattle.std.proofs.Math.Seq.{take-length}
use Rattle.est_meaning.specs.mean_blocks.TextByPlace.{text_of}
use Rattle.est_meaning.specs.declared.event.Event.{Event}
use Rattle.est_meaning.specs.declared.trace.Expected.TheVariants.{Known}
use Rattle.est_meaning.specs.declared.firing.Firing.{Firing}
use Rattle.est_meaning.specs.Agreement.{AgreeAll}
use Rattle.est_meaning.specs.TransitionSelection.{IsSettled}
use Rattle.est_meaning.specs.OutsideEvents.{after_event}
use Rattle.est_meaning.specs.PossibleFirings.{AreOptions}
use Rattle.est_meaning.specs.SituationStacks.{Stack, pushed}
use Rattle.est_meaning.specs.declared.run.Move.{Move}
use Rattle.est_meaning.specs.declared.run.Move.TheVariants.{Take, Fire}
use Rattle.est_meaning.specs.Order.{Mark, Taking, Guarding, marks_of}
use Rattle.est_meaning.specs.Run.{Setup, Place, Takes, IsFromOutside, after_taking, IsBoundedRun}
use Rattle.est_meaning.specs.Trials.{IsTrial, PassesLimit, guards, block}
use Rattle.est_meaning.proofs.OrderLaws.{marks_same}
use Rattle.est_meaning.proofs.RunLaws.{one_place}
use Rattle.est_meaning.proofs.Steps.{possible_settled}
use Rattle.est_meaning.proofs.Takings.{takes_at}
use Rattle.run_paths.specs.declared.path.Stage.TheVariants.{Fresh, Taken, Listed}
use Rattle.run_paths.specs.Paths.{View, entered, with_tries}
use Rattle.est_search.specs.inside.Agreement.{AgreeFor}
use Rattle.est_search.specs.inside.Ahead.{IsAhead}
use Rattle.est_search.specs.inside.Path.{place_at, with_taken, AreLeft, StageIs}
use Rattle.est_search.proofs.AgreeForLaws.{agree_one}
use Rattle.est_search.proofs.AheadLaws.{Turn, turn_on, turn_off, skip_mark}
use Rattle.est_search.proofs.EventLaws.{agree_now}
use Rattle.est_search.proofs.KnownLaws.{trials_on}
use Rattle.est_search.proofs.PathLaws.{inner_at, taking_first, guarding_next, guarding_ends}
use Rattle.est_watch.specs.inside.Known.{IsSought, IsMet, Knows}
use Rattle.est_watch.specs.inside.Walk.{IsOnWay, IsFound}
use Rattle.est_watch.proofs.KnownLaws.{known_skip, known_on, met_on, sought_on, sought_or}
use Rattle.est_watch.proofs.Sought.{few_not_sought, few_open, node_length}

taking_quiet : (c : Setup) (h : List Mark) → PassesLimit c (Taking ∷ h) → ⊥
taking_quiet c h (guards run at u) = cc
taking_quiet c h (block earlier f at t) = cc

-- guards pass their limit only where the situation is not settled
guarding_passes : (c : Setup) (h : List Move) (p : Place) → IsBoundedRun c h p
    → IsSettled c.limit (text_of c.spec) p.situation → PassesLimit c (Guarding ∷ marks_of h) → ⊥
guarding_passes c h p is settled (guards run at u) =
    let e : marks_of h ≡ marks_of run = cc in
    let r : run ≡ h = sym (marks_same h run e) in
    let q : u.place ≡ p = one_place c h u.place p
    (subst (λ w. IsBoundedRun c w u.place) r u.inner.is_run) is in
    u.unsettled (subst (λ (w : Place). IsSettled c.limit (text_of c.spec) w.situation) (sym q)
    settled)
guarding_passes c h p is settled (block earlier f at t) = cc

-- EVENTS

module _ (c : Setup) (exact : Bool) (stack : Stack) (v : View Move Firing) (tried : ℕ)
    (passed : Bool) (way : IsOnWay c exact stack v tried passed) where
  abbrev pub here : Place
  here = place_at stack.now v.top way.at.node.events

  pub here_run : IsBoundedRun c v.moves here
  here_run = way.at.node.is_run

  here_many : length way.at.node.events ≡ v.top.matched
  here_many = node_length c v.moves stack.now v.top way.at.node

  module _ (fresh : v.stage ≡ Fresh) where
    at_fresh : (way.dealt ≡ None) × (way.at.mine ≡ [])
    at_fresh = subst (λ w. StageIs c stack.now w way.dealt way.at.mine) fresh way.at.stage

    known_fresh : Knows c exact (IsAhead (marks_of v.moves) None) tried passed
    known_fresh = subst (λ w. Knows c exact (IsAhead (marks_of v.moves) w) tried passed) at_fresh.0
        way.knows

    -- no event can be taken
    pub skipped : ((q : Place) → Takes c here q → ⊥)
        → IsOnWay c exact stack (with_taken v) tried passed
    skipped never =
        let h = marks_of v.moves in
        record {
          dealt = Some Taking;
          at = record {
            mine = way.at.mine;
            rest = way.at.rest;
            firings_are = way.at.firings_are;
            count = way.at.count;
            node = way.at.node;
            stage = (refl, at_fresh.1);
            lower = way.at.lower;
          };
          knows = known_skip c exact (IsAhead h None) (IsAhead h (Some Taking))
              (skip_mark c h None Taking (taking_first c h) (λ x tree s.
              (let can = (tree Taking v.moves s).0 in
              never can.defined.0 (subst (λ w. Takes c w can.defined.0)
              (one_place c v.moves can.place here can.is_run here_run)
              can.defined.1)))) tried passed known_fresh;
        }

    module _ (e : Event) (lt : v.top.matched < length c.trace.events)
        (is : get_or c.trace.events v.top.matched (Known e) ≡ Known e)
        (outside : IsFromOutside e) where
      there : Place
      there = after_taking c here e

      takes : Takes c here (after_taking c here e)
      takes = takes_at c here v.top.matched (Known e) lt is way.at.node.agree e refl outside

      taken_run : IsBoundedRun c (Take ∷ v.moves) there
      unfolding there
      taken_run = (here, here_run, takes, zero-le)

      taken_events : there.events ≡ way.at.node.events ++ e ∷ []
      unfolding there
      taken_events = refl

      one : AgreeFor c.trace.events v.top.matched (e ∷ []) 1
      one = agree_one c.trace.events v.top.matched e lt is

      taken_turn : Turn c (IsAhead (marks_of v.moves) None)
          (IsAhead (marks_of (Take ∷ v.moves)) None) (marks_of (Take ∷ v.moves))
      taken_turn = turn_on c (marks_of v.moves) None Taking (taking_first c (marks_of v.moves))

      abbrev next_place : Place
      next_place = record {
        situation = after_event (text_of c.spec) stack.now e;
        events = way.at.node.events ++ e ∷ [];
        silent_in_row = 0;
      }

      next_run : IsBoundedRun c (Take ∷ v.moves) next_place
      unfolding there
      next_run = taken_run

      next_agree : AgreeAll (take (v.top.matched + 1) c.trace.events) (way.at.node.events ++ e ∷ [])
      unfolding there
      next_agree = agree_now c (Take ∷ v.moves) there taken_run way.at.node.events (e ∷ [])
          v.top.matched way.at.node.agree taken_events one

      next_many : length (way.at.node.events ++ e ∷ []) ≡ v.top.matched + 1
      next_many = length-append way.at.node.events (e ∷ []) ∙ ap (λ n. n + 1) here_many

      untried : (x : List Move) → marks_of x ≡ marks_of (Take ∷ v.moves) → IsTrial c x → ⊥
      untried x same t = subst (IsTrial c) (marks_same x (Take ∷ v.moves) same) t

      -- events are left
      pub taken_on : v.top.matched + 1 < length c.trace.events
          → IsOnWay c exact (pushed (after_event (text_of c.spec) stack.now e) stack)
          (entered v Take (v.top.matched + 1) 0) tried passed
      taken_on short =
          let P = IsAhead (marks_of v.moves) None in
          let P' = IsAhead (marks_of (Take ∷ v.moves)) None in
          let z = marks_of (Take ∷ v.moves) in
          let n = next_many in
          record {
            dealt = None;
            at = record {
              mine = [];
              rest = v.tries;
              firings_are = refl;
              count = refl;
              node = record {
                events = way.at.node.events ++ e ∷ [];
                is_run = next_run;
                within = one.within;
                agree = next_agree;
                unfinished = few_open c next_place (omega arith);
              };
              stage = (refl, refl);
              lower = (
                way.at.mine,
                way.at.rest,
                way.at.firings_are,
                way.at.count,
                way.at.node,
                at_fresh.1,
                way.at.lower,
              );
            };
            knows = known_on c exact P P' z taken_turn tried passed untried
                (λ r same s. few_not_sought c exact (Take ∷ v.moves) next_place next_run
                (omega arith)
                (subst (IsSought c exact) (marks_same r (Take ∷ v.moves) same) s))
                (taking_quiet c (marks_of v.moves)) known_fresh;
          }

      -- it was the last one
      pub taken_found : v.top.matched + 1 ≡ length c.trace.events → (over : List Event)
          → over ≡ []
          → IsFound c exact (pushed (after_event (text_of c.spec) stack.now e) stack)
          (entered v Take (v.top.matched + 1) 0) over tried passed
      taken_found last over none =
          let P = IsAhead (marks_of v.moves) None in
          let P' = IsAhead (marks_of (Take ∷ v.moves)) None in
          let z = marks_of (Take ∷ v.moves) in
          let es = way.at.node.events ++ e ∷ [] in
          record {
            stands = record {
              events = es;
              is_run = subst (λ (xs : List Event). IsBoundedRun c (Take ∷ v.moves) (record {
                situation = after_event (text_of c.spec) stack.now e;
                events = xs;
                silent_in_row = 0;
              })) (sym (append-nil es) ∙ ap (λ xs. es ++ xs) (sym none)) next_run;
              agree = subst (λ xs. AgreeAll xs es)
                  (ap (λ k. take k c.trace.events) last ∙ take-length c.trace.events) next_agree;
              before = (
                here,
                here_run,
                (inner_at c v.moves stack.now v.top way.at.node).follows,
              );
              matched = last;
              fresh = refl;
              none_left = refl;
              lower = (
                way.at.mine,
                way.at.rest,
                way.at.firings_are,
                way.at.count,
                way.at.node,
                at_fresh.1,
                way.at.lower,
              );
            };
            ends = λ exactly. none;
            trials = trials_on c P P' z taken_turn tried untried known_fresh.trials;
            sought = sought_or c exact P P' (Take ∷ v.moves) taken_turn known_fresh.sought;
            met = met_on c exact P P' z taken_turn (taking_quiet c (marks_of v.moves)) passed
                known_fresh.met;
          }

-- GUARDS AND OPTIONS

no_guarding : (r : List Move) (h : List Mark) → marks_of r ≡ Guarding ∷ h → ⊥
no_guarding [] h e = cc
no_guarding (Take ∷ r) h e = cc
no_guarding (Fire f ∷ r) h e = cc

module _ (c : Setup) (exact : Bool) (stack : Stack) (v : View Move Firing) (tried : ℕ)
    (passed : Bool) (way : IsOnWay c exact stack v tried passed) (taken : v.stage ≡ Taken)
    (offers : List Firing) where
  at_taken : (way.dealt ≡ Some Taking) × (way.at.mine ≡ [])
  at_taken = subst (λ w. StageIs c stack.now w way.dealt way.at.mine) taken way.at.stage

  known_taken : Knows c exact (IsAhead (marks_of v.moves) (Some Taking)) tried passed
  known_taken = subst (λ w. Knows c exact (IsAhead (marks_of v.moves) w) tried passed) at_taken.0
      way.knows

  guarded_turn : Turn c (IsAhead (marks_of v.moves) (Some Taking))
      (IsAhead (marks_of v.moves) (Some Guarding)) (Guarding ∷ marks_of v.moves)
  guarded_turn = turn_off c (marks_of v.moves) (Some Taking) Guarding
      (guarding_next c (marks_of v.moves)) (guarding_ends c v.moves)

  guarded_by : (passed' : Bool) → AreLeft c stack.now Guarding offers
      → IsMet c (IsAhead (marks_of v.moves) (Some Guarding)) passed'
      → IsOnWay c exact stack (with_tries v Listed offers) tried passed'
  guarded_by passed' left met =
      let P = IsAhead (marks_of v.moves) (Some Taking) in
      let P' = IsAhead (marks_of v.moves) (Some Guarding) in
      let z = Guarding ∷ marks_of v.moves in
      record {
        dealt = Some Guarding;
        at = record {
          mine = offers;
          rest = way.at.rest;
          firings_are = ap (λ w. offers ++ w) (way.at.firings_are
              ∙ ap (λ w. w ++ way.at.rest) at_taken.1);
          count = refl;
          node = record {
            events = way.at.node.events;
            is_run = way.at.node.is_run;
            within = way.at.node.within;
            agree = way.at.node.agree;
            unfinished = way.at.node.unfinished;
          };
          stage = (Guarding, refl, tt, left);
          lower = way.at.lower;
        };
        knows = record {
          trials = trials_on c P P' z guarded_turn tried
              (λ x e t. absurd (no_guarding x (marks_of v.moves) e)) known_taken.trials;
          sought = sought_on c exact P P' z guarded_turn
              (λ r e s. no_guarding r (marks_of v.moves) e) known_taken.sought;
          met = met;
        };
      }

  pub settled_on : IsSettled c.limit (text_of c.spec) stack.now
      → AreOptions c.limit (text_of c.spec) stack.now offers
      → IsOnWay c exact stack (with_tries v Listed offers) tried passed
  settled_on settled options =
      guarded_by passed (record {
        ascending = options.ascending;
        possible = options.sound;
        later = λ f a. tt;
        all = λ f p lt. options.complete f p;
      }) (met_on c exact (IsAhead (marks_of v.moves) (Some Taking))
      (IsAhead (marks_of v.moves) (Some Guarding)) (Guarding ∷ marks_of v.moves) guarded_turn
      (guarding_passes c v.moves (place_at stack.now v.top way.at.node.events) way.at.node.is_run
      settled) passed known_taken.met)

  pub unsettled_on : (IsSettled c.limit (text_of c.spec) stack.now → ⊥) → offers ≡ []
      → IsOnWay c exact stack (with_tries v Listed offers) tried true
  unsettled_on unsettled none =
      guarded_by true (subst (λ w. AreLeft c stack.now Guarding w) (sym none) (record {
        ascending = tt;
        possible = λ f a. absurd a;
        later = λ f a. absurd a;
        all = λ f p lt. unsettled (possible_settled c.limit (text_of c.spec) stack.now f p);
      })) (
        Guarding ∷ marks_of v.moves,
        guards v.moves refl (record {
          place = place_at stack.now v.top way.at.node.events;
          inner = inner_at c v.moves stack.now v.top way.at.node;
          unsettled = unsettled;
        }),
      )
