-- The steps of a walk after a firing that is done, as the code asks for them.
use Rattle.std.proofs.Common.{◌≡◌, ℕ, ◌+◌, ◌<◌, ◌≤◌, List, ◌∷◌, ◌++◌, Some, length, take}
use Rattle.std.proofs.Common.{refl, sym, ap, subst, ◌∙◌, arith}
use Rattle.std.proofs.lemmas.List.{length-append, length-take-le, take_all}
use Rattle.est_syntax.specs.declared.specification.Spec.{Spec}
use Rattle.est_meaning.proofs.OrderLaws.{starts_self}
use Rattle.est_meaning.specs.AllowedEvents.{most_events}
use Rattle.est_meaning.specs.FiringSteps.{IsStep}
use Rattle.est_meaning.specs.Run.{Setup, silent_after}
use Rattle.est_meaning.specs.SituationStacks.{Stack, pushed}
use Rattle.est_meaning.specs.declared.event.Event.{Event}
use Rattle.est_meaning.specs.declared.firing.Firing.{Firing}
use Rattle.est_meaning.specs.mean_blocks.GlobalSituation.{Situation}
use Rattle.est_meaning.specs.mean_blocks.TextByPlace.{text_of}
use Rattle.mean_ports.specs.declared.lists.PortLists.{PortLists}
use Rattle.mean_ports.specs.declared.moves.PortMove.{PortMove}
use Rattle.mean_ports.specs.declared.moves.PortMove.TheVariants.{Fire}
use Rattle.mean_ports.specs.PortRuns.{Left, PortPlace, IsPortRun, AreNext}
use Rattle.mean_ports.specs.PortTrials.{PassesOnTree}
use Rattle.mean_ports.specs.PortYields.{PortYields}
use Rattle.run_paths.specs.Paths.{View, view_of}
use Rattle.est_ports.specs.declared.left.Used.{Used}
use Rattle.est_ports.specs.declared.left.Rest.{Rest}
use Rattle.est_ports.specs.declared.walk.Walk.{Walk}
use Rattle.est_ports.specs.declared.walk.Step.{Step}
use Rattle.est_ports.specs.inside.Leftover.{HasUsedUp, Stands, HasUsed, used_of, lower}
use Rattle.est_ports.specs.inside.Leftover.{KeepsBest}
use Rattle.est_ports.specs.inside.Standing.{place_at, of_firing, HasFront, IsBest}
use Rattle.est_ports.specs.inside.Walk.{IsWalk, IsFired, IsDeparting, HasRaised, HasGoneOn, StepIs}
use Rattle.est_ports.proofs.BestLaws.{stands_up, best_back, lower_more, lower_all}
use Rattle.est_ports.proofs.CallLaws.{on_way_by, pushed_same}
use Rattle.est_ports.proofs.GoneLaws.{raised, raised_le, gone_call}
use Rattle.est_ports.proofs.LimitLaws.{next_few}
use Rattle.est_ports.proofs.PathLaws.{next_defined}
use Rattle.est_ports.proofs.PortPlaces.{one_port_place}
use Rattle.est_ports.proofs.PortTree.{IsOnTree}
use Rattle.est_ports.proofs.StepLaws.{after_next, off_quiet, stands}
use Rattle.est_ports.proofs.YieldLaws.{fired_there, firing_few, done_passes, none_beyond, outs_are}

module _ (c : Setup) (spec : Spec) (limit silent : ℕ) (lists : PortLists) (stack : Stack)
    (w : Walk) (f : Firing) (t : IsFired c spec limit silent lists stack w f) where
  abbrev pub from : PortPlace
  from = stands c lists t.earlier t.before w.rest t.tried t.fired w.best w.best_used w.passed
      t.on_way

  from_run : IsPortRun c lists t.before.moves from
  from_run = t.on_way.at.node.is_run

  pub fire_step : IsStep c.limit (text_of c.spec) from.situation f t.situation w.outs.items
  fire_step = record {
    possible = next_defined c lists t.earlier t.before w.rest t.on_way.at (Fire f) (view_of w.path)
        t.next;
    done = t.done;
  }

  pub matched_from : w.path.top.matched ≡ t.before.top.matched
  matched_from = ap (λ (x : View PortMove PortMove). x.top.matched) t.next.next_is

  silent_from : w.path.top.silent ≡ from.silent_in_row
  silent_from = ap (λ (x : View PortMove PortMove). x.top.silent) t.next.next_is

  pub same_outs : (next : Situation) (outs : List Event)
      → IsStep c.limit (text_of c.spec) from.situation f next outs → outs ≡ w.outs.items
  same_outs next outs x = outs_are c lists t.before.moves f from from_run t.situation w.outs.items
      fire_step next outs x

  pub never_passes : (u : PassesOnTree c lists) (g : Firing) → u.firing ≡ Some g
      → Fire g ∷ u.run ≡ Fire f ∷ t.before.moves → ⊥
  never_passes = done_passes c lists t.before.moves f from from_run t.situation w.outs.items
      fire_step

  back_there : (back : Stack) → stack ≡ pushed stack.now back → back ≡ t.earlier
  back_there back undone =
      sym (pushed_same t.situation stack.now t.earlier back (sym t.stack_is ∙ undone))

  -- TOO MANY SILENT FIRINGS STAND IN A ROW

  module _ (many : silent < silent_after w.path.top.silent w.outs.items) where
    too_many : (outs : List Event) → outs ≡ w.outs.items
        → silent_after from.silent_in_row outs ≤ c.silent → ⊥
    too_many outs same le =
        let e : silent_after w.path.top.silent w.outs.items ≡ silent_after from.silent_in_row outs =
        ap (λ n. silent_after n w.outs.items) silent_from
        ∙ ap (λ x. silent_after from.silent_in_row x) (sym same) in
        let s = t.suits.silent_is in
        omega arith

    silent_off : IsOnTree c lists (Fire f ∷ t.before.moves) → ⊥
    silent_off on =
        let r = fired_there c lists t.before.moves f from from_run on in
        let row : on.0.silent_in_row ≡ silent_after from.silent_in_row r.outs =
        ap (λ (x : PortPlace). x.silent_in_row) r.leads in
        let le = on.1.3 in
        too_many r.outs (same_outs r.situation r.outs r.step) (omega arith)

    pub silent_call : (back : Stack) → stack ≡ pushed stack.now back → IsWalk c lists back w
    silent_call back undone = on_way_by c lists t.earlier back w
        (after_next c lists t.earlier t.before w.rest t.tried t.fired w.best w.best_used w.passed
        t.on_way (Fire f) (view_of w.path) t.next) w.rest (t.tried + 1) (t.fired + 1) w.best
        w.best_used w.passed (back_there back undone) t.next.next_is refl t.counted t.fired_is refl
        refl refl
        (off_quiet c lists t.earlier t.before w.rest t.tried t.fired w.best w.best_used w.passed
        t.on_way (Fire f) (view_of w.path) t.next silent_off w.rest (t.fired + 1) w.best w.best_used
        refl t.on_way.at.stands refl (omega arith)
        (firing_few c lists t.before.moves f from from_run w.best.yields
        (λ q r. absurd (silent_off (q, r)))
        (λ s outs step le n after within a. absurd (too_many outs (same_outs s outs step) le)))
        t.on_way.is_best never_passes)

  -- SO MANY OF ITS EVENTS ARE USED UP

  module _ (rest' : Rest) (many : ℕ) (le : many ≤ length w.outs.items)
      (uses : (left : Left) (events : List Event) → Stands lists w.rest left events
      → HasUsed lists rest' left events w.outs.items many) where
    abbrev has : HasUsed lists rest' from.left from.events w.outs.items many
    has = uses from.left from.events t.on_way.at.stands

    some_length : length (take many w.outs.items) ≡ many
    some_length = length-take-le many w.outs.items le

    pub land_few : w.path.top.matched + many ≤ most_events
    land_few =
        let few = next_few c lists t.before.moves from t.suits.allowed from_run
        (take many w.outs.items) has.after has.next in
        let count = t.on_way.at.node.count in
        let same = matched_from in
        let n = some_length in
        omega arith

    events_count : (matched : ℕ) → matched ≡ w.path.top.matched + many
        → length (from.events ++ take many w.outs.items) ≡ matched
    events_count matched is =
        let n = length-append from.events (take many w.outs.items) in
        let count = t.on_way.at.node.count in
        let same = matched_from in
        let k = some_length in
        omega arith

    -- no more of them are next ones
    no_more : (outs : List Event) → outs ≡ w.outs.items → (n : ℕ) (after : Left)
        → n ≤ length outs → AreNext from.left (take n outs) after → n ≤ many
    no_more outs same n after within a =
        let size : length outs ≡ length w.outs.items = ap length same in
        none_beyond w.outs.items from.left has.after many has.next has.no_more n after
        (omega arith) (subst (λ x. AreNext from.left (take n x) after) same a)

    module _ (few : silent_after w.path.top.silent w.outs.items ≤ silent) where
      few_there : silent_after from.silent_in_row w.outs.items ≤ c.silent
      few_there =
          let e = ap (λ n. silent_after n w.outs.items) silent_from in
          let s = t.suits.silent_is in
          omega arith

      front_is : HasFront c lists (Fire f ∷ t.before.moves)
          (from.events ++ take many w.outs.items)
      front_is = of_firing f from t.situation w.outs.items many has.after from_run fire_step
          few_there le has.next refl

      yields_few : (m : ℕ) → length from.events + many ≤ m
          → ((q : PortPlace) → IsPortRun c lists (Fire f ∷ t.before.moves) q → length q.events ≤ m)
          → (j : ℕ) → PortYields c lists (Fire f ∷ t.before.moves) j → j ≤ m
      yields_few m enough run = firing_few c lists t.before.moves f from from_run m run
          (λ s outs step row n after within a.
          (let k = no_more outs (same_outs s outs step) n after within a in omega arith))

      -- NOT ALL OF THEM ARE

      module _ (short : many < length w.outs.items) where
        depart_off : IsOnTree c lists (Fire f ∷ t.before.moves) → ⊥
        depart_off on =
            let r = fired_there c lists t.before.moves f from from_run on in
            let whole : take (length r.outs) r.outs ≡ r.outs =
            take_all (length r.outs) r.outs (omega arith) in
            let same = same_outs r.situation r.outs r.step in
            let size : length r.outs ≡ length w.outs.items = ap length same in
            let n = no_more r.outs same (length r.outs) r.left (omega arith)
            (subst (λ x. AreNext from.left x r.left) (sym whole) r.next) in
            omega arith

        module _ (front : List Used) (more : length front ≡ many)
            (used : used_of rest' ≡ front ++ used_of w.rest) (matched : ℕ)
            (matched_is : matched ≡ w.path.top.matched + many) (mid : Walk)
            (r : HasRaised (record w { rest = rest' }) mid (Fire f) matched) where
          stand_there : Stands lists rest' has.after (from.events ++ take many w.outs.items)
          stand_there = has.stands

          best_there : IsBest c lists t.before.moves (used_of rest') mid.best mid.best_used
          best_there = raised c lists t.earlier t.before w.rest t.tried t.fired w.best w.best_used
              w.passed t.on_way (Fire f) (view_of w.path) t.next (record w { rest = rest' }) refl
              t.counted refl refl refl mid matched r t.before.moves front has.after
              (from.events ++ take many w.outs.items) (starts_self t.before.moves) used
              (stands_up lists rest' has.after (from.events ++ take many w.outs.items) stand_there)
              front_is (events_count matched matched_is)

          pub depart_within : mid.best_used.common ≤ length (used_of rest')
          depart_within = best_there.within

          pub depart_call : (new : Walk) (back : Stack) → stack ≡ pushed stack.now back
              → used_of new.rest ≡ lower w.path.top.matched (used_of rest')
              → ((left before : Left) (events es : List Event) → Stands lists rest' left events
              → HasUsedUp lists (lower w.path.top.matched (used_of rest')) before es
              → Stands lists new.rest before es)
              → KeepsBest mid.best_used (used_of rest') new.best_used (used_of new.rest)
              → new ≡ record mid { rest = new.rest; best_used = new.best_used }
              → IsWalk c lists back new
          depart_call new back undone used' stand keeps others =
              let node = t.on_way.at.node in
              let height : w.path.top.matched ≡ length (used_of w.rest) =
              matched_from ∙ sym node.height in
              let there : lower w.path.top.matched (used_of rest') ≡ used_of w.rest =
              ap (λ u. lower w.path.top.matched u) used
              ∙ lower_more front (used_of w.rest) w.path.top.matched (omega arith)
              ∙ lower_all (used_of w.rest) w.path.top.matched height in
              let up : HasUsedUp lists (lower w.path.top.matched (used_of rest')) node.left
              node.events =
              subst (λ u. HasUsedUp lists u node.left node.events) (sym there) node.uses in
              let le = raised_le c lists t.earlier t.before w.rest t.tried t.fired w.best
              w.best_used w.passed t.on_way (Fire f) (view_of w.path) t.next
              (record w { rest = rest' }) refl t.counted refl refl refl mid matched r in
              let more_than = le.0 in
              let as_many = le.1 in
              let count = node.count in
              let same = matched_from in
              let mids = r.others in
              on_way_by c lists t.earlier back new
              (after_next c lists t.earlier t.before w.rest t.tried t.fired w.best w.best_used
              w.passed t.on_way (Fire f) (view_of w.path) t.next) new.rest (t.tried + 1)
              (t.fired + 1) mid.best new.best_used w.passed (back_there back undone)
              (ap (λ (x : Walk). view_of x.path) others ∙ ap (λ (x : Walk). view_of x.path) mids
              ∙ t.next.next_is) refl
              (ap (λ (x : Walk). x.tried) others ∙ ap (λ (x : Walk). x.tried) mids ∙ t.counted)
              (ap (λ (x : Walk). x.fired) others ∙ ap (λ (x : Walk). x.fired) mids ∙ t.fired_is)
              (ap (λ (x : Walk). x.best) others) refl
              (ap (λ (x : Walk). x.passed) others ∙ ap (λ (x : Walk). x.passed) mids)
              (off_quiet c lists t.earlier t.before w.rest t.tried t.fired w.best w.best_used
              w.passed t.on_way (Fire f) (view_of w.path) t.next depart_off new.rest (t.fired + 1)
              mid.best new.best_used (used' ∙ there)
              (stand has.after node.left (from.events ++ take many w.outs.items) node.events
              stand_there up) refl more_than
              (yields_few mid.best.yields (omega arith) (λ q run. absurd (depart_off (q, run))))
              (best_back c lists t.before.moves (used_of rest') (used_of new.rest) mid.best
              mid.best_used new.best_used keeps best_there) never_passes)

      -- ALL OF THEM ARE

      module _ (all : length w.outs.items ≤ many) where
        whole : take many w.outs.items ≡ w.outs.items
        whole = take_all many w.outs.items all

        pub land_call : (front : List Used) → length front ≡ many
            → used_of rest' ≡ front ++ used_of w.rest → (matched row : ℕ)
            → matched ≡ w.path.top.matched + many
            → row ≡ silent_after w.path.top.silent w.outs.items → (new : Walk) (step : Step)
            → HasGoneOn lists (record w { rest = rest' }) new (Fire f) matched row step
            → StepIs c lists stack step new
        land_call front more used matched row matched_is row_is new step g =
            let node = t.on_way.at.node in
            let events = from.events ++ take many w.outs.items in
            let count = events_count matched matched_is in
            let row_there : row ≡ silent_after from.silent_in_row w.outs.items =
            row_is ∙ ap (λ n. silent_after n w.outs.items) silent_from in
            let bound : row ≤ c.silent = (let b = few_there in omega arith) in
            let q = place_at t.situation (record { matched = matched; silent = row; left = 0 })
            events has.after in
            let leads : q ≡ record {
              situation = t.situation;
              events = from.events ++ w.outs.items;
              left = has.after;
              silent_in_row = silent_after from.silent_in_row w.outs.items;
            } = ap (λ n. place_at t.situation (record { matched = matched; silent = n; left = 0 })
            events has.after) row_there
            ∙ ap (λ es. place_at t.situation (record {
              matched = matched;
              silent = silent_after from.silent_in_row w.outs.items;
              left = 0;
            }) (from.events ++ es) has.after) whole in
            let run : IsPortRun c lists (Fire f ∷ t.before.moves) q = (
              from,
              from_run,
              record {
                situation = t.situation;
                outs = w.outs.items;
                left = has.after;
                step = fire_step;
                next = subst (λ x. AreNext from.left x has.after) whole has.next;
                leads = leads;
              },
              bound,
            ) in
            let same = matched_from in
            let size = node.count in
            let k : matched ≡ t.before.top.matched + many = omega arith in
            gone_call c lists t.earlier t.before w.rest t.tried t.fired w.best w.best_used w.passed
            t.on_way (Fire f) (view_of w.path) t.next (record w { rest = rest' }) refl t.counted
            refl refl refl t.situation matched row many events has.after run front used more k count
            has.stands (yields_few matched (omega arith)
            (λ x r. subst (λ (y : PortPlace). length y.events ≤ matched)
            (one_port_place c lists (Fire f ∷ t.before.moves) q x run r) (omega arith)))
            never_passes t.fired_is new step g stack t.stack_is

-- SOME OF ITS EVENTS ARE NO NEXT ONES, AS THE CODE ASKS IT

module _ (c : Setup) (spec : Spec) (limit silent : ℕ) (lists : PortLists) (stack : Stack)
    (w : Walk) (f : Firing) (matched : ℕ)
    (d : IsDeparting c spec limit silent lists stack w f matched) (mid : Walk)
    (r : HasRaised w mid (Fire f) matched) where
  rest_same : mid.rest ≡ w.rest
  rest_same = ap (λ (x : Walk). x.rest) r.others

  height_same : mid.path.top.matched ≡ d.old.path.top.matched
  height_same = ap (λ (x : Walk). x.path.top.matched) r.others
      ∙ ap (λ (x : Walk). x.path.top.matched) d.others

  raised_there : HasRaised (record d.old { rest = w.rest }) mid (Fire f) matched
  raised_there = subst (λ x. HasRaised x mid (Fire f) matched) d.others r

  few_events : d.many ≤ length d.old.outs.items
  few_events = (let lt = d.short in omega arith)

  pub depart_at : (new : Walk) (back : Stack) → stack ≡ pushed stack.now back
      → used_of new.rest ≡ lower mid.path.top.matched (used_of mid.rest)
      → ((left before : Left) (events es : List Event) → Stands lists mid.rest left events
      → HasUsedUp lists (lower mid.path.top.matched (used_of mid.rest)) before es
      → Stands lists new.rest before es)
      → (mid.best_used.common ≤ length (used_of mid.rest)
      → KeepsBest mid.best_used (used_of mid.rest) new.best_used (used_of new.rest))
      → new ≡ record mid { rest = new.rest; best_used = new.best_used }
      → IsWalk c lists back new
  depart_at new back undone used stand keeps others =
      let within = depart_within c spec limit silent lists stack d.old f d.fired w.rest d.many
      few_events d.uses d.few d.short d.used.front d.used.count d.used.after_is matched d.matched_is
      mid raised_there in
      let used' = subst (λ (x : Rest). used_of new.rest ≡ lower d.old.path.top.matched (used_of x))
      rest_same (subst (λ n. used_of new.rest ≡ lower n (used_of mid.rest)) height_same used) in
      let stand' = subst (λ (x : Rest). (left before : Left) (events es : List Event)
      → Stands lists x left events
      → HasUsedUp lists (lower d.old.path.top.matched (used_of x)) before es
      → Stands lists new.rest before es) rest_same
      (subst (λ n. (left before : Left) (events es : List Event) → Stands lists mid.rest left events
      → HasUsedUp lists (lower n (used_of mid.rest)) before es
      → Stands lists new.rest before es) height_same stand) in
      let keeps' = subst (λ (x : Rest). mid.best_used.common ≤ length (used_of x)
      → KeepsBest mid.best_used (used_of x) new.best_used (used_of new.rest)) rest_same keeps in
      depart_call c spec limit silent lists stack d.old f d.fired w.rest d.many few_events d.uses
      d.few d.short d.used.front d.used.count d.used.after_is matched d.matched_is mid raised_there
      new back undone used' stand' (keeps' within) others
