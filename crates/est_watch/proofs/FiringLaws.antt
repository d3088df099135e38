-- The steps that try a firing.
use Rattle.std.proofs.Common.{◌≡◌, ℕ, ◌+◌, ◌<◌, ◌≤◌, Bool, true, false, IsTrue, List, [], ◌∷◌, ◌++◌}
use Rattle.std.proofs.Common.{Some, None, length, take, drop, refl, sym, ap, subst, ◌∙◌}
use Rattle.std.proofs.Common.{inl, append_assoc, arith}
use Rattle.std.proofs.lemmas.List.{length-append, take-append-drop}
use Rattle.std.proofs.Math.Seq.{take-length}
use Rattle.est_meaning.specs.mean_blocks.declared.fault.BlockFault.{BlockFault}
use Rattle.est_meaning.specs.mean_blocks.GlobalSituation.{Situation}
use Rattle.est_meaning.specs.mean_blocks.Outcome.{Outcome, Done, Fault, Limit}
use Rattle.est_meaning.specs.mean_blocks.TextByPlace.{text_of}
use Rattle.est_meaning.specs.declared.event.Event.{Event}
use Rattle.est_meaning.specs.declared.firing.Firing.{Firing}
use Rattle.est_meaning.specs.Agreement.{AgreeAll}
use Rattle.est_meaning.specs.TransitionSelection.{IsPossible}
use Rattle.est_meaning.specs.FiringSteps.{outcome}
use Rattle.est_meaning.specs.SituationStacks.{Stack, pushed}
use Rattle.est_meaning.specs.declared.run.Move.{Move}
use Rattle.est_meaning.specs.declared.run.Move.TheVariants.{Fire}
use Rattle.est_meaning.specs.Order.{Mark, Trying, marks_of}
use Rattle.est_meaning.specs.Run.{Setup, Place, after_firing, silent_after, IsBoundedRun}
use Rattle.est_meaning.specs.Trials.{IsTrial, HasMany, block}
use Rattle.est_meaning.proofs.AgreementLaws.{take_on}
use Rattle.est_meaning.proofs.RunLaws.{one_place, explains_follows}
use Rattle.est_meaning.proofs.TreeLaws.{IsOnTree}
use Rattle.run_paths.specs.Paths.{View, entered, IsNext}
use Rattle.est_search.specs.inside.Agreement.{AgreeFor}
use Rattle.est_search.specs.inside.Ahead.{IsAhead}
use Rattle.est_search.specs.inside.Path.{place_at, StageIs, AreLower, IsAt}
use Rattle.est_search.proofs.AgreeForLaws.{agree_on}
use Rattle.est_search.proofs.AheadLaws.{Turn, turn_on, turn_off, IsNextMark}
use Rattle.est_search.proofs.EventLaws.{yields_no_more, departs, agree_now}
use Rattle.est_search.proofs.KnownLaws.{trials_more}
use Rattle.est_search.proofs.PathLaws.{inner_at, firing_next, firing_ends, left_next, IsNextOf}
use Rattle.est_search.proofs.PathLaws.{next_mine, IsListed, listed_stage}
use Rattle.est_search.proofs.WalkLaws.{trying_passes}
use Rattle.est_watch.specs.inside.Known.{IsSought, IsMet, Knows}
use Rattle.est_watch.specs.inside.Walk.{IsOnWay, IsFound}
use Rattle.est_watch.proofs.KnownLaws.{many_tried, met_on, sought_on, sought_or, unsought_on}
use Rattle.est_watch.proofs.Sought.{few_not_sought, few_open, node_length}

drop_all : {X : Type 0} (xs : List X) → drop (length xs) xs ≡ []
drop_all [] = refl
drop_all (x ∷ xs) = drop_all xs

-- the run of the firing may be one that is sought: all events are there, and where no more may be,
-- it sent no more
abbrev pub MayEndAt : Setup → Bool → ℕ → ℕ → List Event → Type 0
MayEndAt c exact matched k outs =
    (matched + k ≡ length c.trace.events) × (IsTrue exact → k ≡ length outs)

module _ (c : Setup) (exact : Bool) (stack : Stack) (v : View Move Firing) (tried : ℕ)
    (passed : Bool) (way : IsOnWay c exact stack v tried passed) (f : Firing)
    (w : View Move Firing) (next : IsNext v f w) where
  abbrev pub stands : Place
  stands = place_at stack.now v.top way.at.node.events

  mine_next : IsNextOf way.at.mine way.at.rest f next.tries next.left
  mine_next = next_mine way.at.mine way.at.rest f next.tries next.left
      (sym next.tries_are ∙ way.at.firings_are) (way.at.count ∙ next.left_is)

  listed : IsListed c stack.now v.stage way.dealt (f ∷ mine_next.others)
  listed = listed_stage c stack.now v.stage way.dealt way.at.mine f mine_next.others
      mine_next.mine_is way.at.stage

  pub fire_possible : IsPossible c.limit (text_of c.spec) stack.now f
  fire_possible = listed.left.possible f (inl refl)

  trial : IsTrial c (Fire f ∷ v.moves)
  trial = (stands, inner_at c v.moves stack.now v.top way.at.node, fire_possible)

  abbrev before : List Mark → Type 0
  before = IsAhead (marks_of v.moves) (Some listed.mark)

  abbrev off_now : List Mark → Type 0
  off_now = IsAhead (marks_of v.moves) (Some (Trying f))

  abbrev on_now : List Mark → Type 0
  on_now = IsAhead (marks_of (Fire f ∷ v.moves)) None

  known_listed : Knows c exact before tried passed
  known_listed = subst (λ d. Knows c exact (IsAhead (marks_of v.moves) d) tried passed)
      listed.dealt_is way.knows

  is_next : IsNextMark c (marks_of v.moves) (Some listed.mark) (Trying f)
  is_next = firing_next c v.moves stands listed.mark f mine_next.others
      way.at.node.is_run listed.past listed.left

  off_turn : (IsOnTree c (Fire f ∷ v.moves) → ⊥)
      → Turn c before off_now (marks_of (Fire f ∷ v.moves))
  off_turn off = turn_off c (marks_of v.moves) (Some listed.mark) (Trying f) is_next
      (firing_ends c f v.moves off)

  on_turn : Turn c before on_now (marks_of (Fire f ∷ v.moves))
  on_turn = turn_on c (marks_of v.moves) (Some listed.mark) (Trying f) is_next

  -- one firing more is a trial more
  pub many_trying : HasMany (IsTrial c) (tried + 1)
  many_trying = many_tried c on_now (tried + 1)
      (trials_more c before on_now (Fire f ∷ v.moves) on_turn tried trial known_listed.trials)

  at_next : IsAt c stack w (Some (Trying f))
  at_next = subst (λ u. IsAt c stack u (Some (Trying f))) (sym next.next_is) (record {
    mine = mine_next.others;
    rest = way.at.rest;
    firings_are = mine_next.rest_is;
    count = mine_next.count;
    node = record {
      events = way.at.node.events;
      is_run = way.at.node.is_run;
      within = way.at.node.within;
      agree = way.at.node.agree;
      unfinished = way.at.node.unfinished;
    };
    stage = subst (λ st. StageIs c stack.now st (Some (Trying f)) mine_next.others)
        (sym listed.stage_is)
        (Trying f, refl, tt, left_next c stack.now listed.mark f mine_next.others listed.left);
    lower = way.at.lower;
  })

  moves_same : w.moves ≡ v.moves
  moves_same = ap (λ (u : View Move Firing). u.moves) next.next_is

  -- the path where the firing leads on
  lower_on : AreLower c (record v.top { left = next.left } ∷ v.lower) (Fire f ∷ v.moves)
      (stack.now ∷ stack.below) next.tries
  lower_on = (
    mine_next.others,
    way.at.rest,
    mine_next.rest_is,
    mine_next.count,
    record {
      events = way.at.node.events;
      is_run = way.at.node.is_run;
      within = way.at.node.within;
      agree = way.at.node.agree;
      unfinished = way.at.node.unfinished;
    },
    left_next c stack.now listed.mark f mine_next.others listed.left,
    way.at.lower,
  )

  -- IT DOES NOT LEAD ON

  module _ (off : IsOnTree c (Fire f ∷ v.moves) → ⊥)
      (never : IsSought c exact (Fire f ∷ v.moves) → ⊥) where
    fired_off : (passed' : Bool) → (IsMet c before passed → IsMet c off_now passed')
        → IsOnWay c exact stack w (tried + 1) passed'
    fired_off passed' met = record {
      dealt = Some (Trying f);
      at = at_next;
      knows = subst (λ h. Knows c exact (IsAhead (marks_of h) (Some (Trying f))) (tried + 1)
          passed') (sym moves_same) (record {
            trials = trials_more c before off_now (Fire f ∷ v.moves) (off_turn off) tried trial
                known_listed.trials;
            sought = sought_on c exact before off_now (marks_of (Fire f ∷ v.moves)) (off_turn off)
                (unsought_on c exact before off_now (Fire f ∷ v.moves) (off_turn off) never)
                known_listed.sought;
            met = met known_listed.met;
          });
    }

    quiet_off : (outcome c.limit (text_of c.spec) stack.now f ≡ Limit → ⊥)
        → IsOnWay c exact stack w (tried + 1) passed
    quiet_off quiet = fired_off passed
        (met_on c exact before off_now (marks_of (Fire f ∷ v.moves)) (off_turn off)
        (trying_passes c v.moves stands f way.at.node.is_run quiet) passed)

  -- it is no bounded run
  module _ (nowhere : (p : Place) → IsBoundedRun c (Fire f ∷ v.moves) p → ⊥) where
    off_nowhere : IsOnTree c (Fire f ∷ v.moves) → ⊥
    off_nowhere on = nowhere on.place on.is_run

    never_nowhere : (b : Bool) → IsSought c b (Fire f ∷ v.moves) → ⊥
    never_nowhere false y = nowhere y.place y.is_run
    never_nowhere true e = nowhere e.place e.is_run

  undone_nowhere : (o : Outcome Situation (List Event))
      → outcome c.limit (text_of c.spec) stack.now f ≡ o
      → ((s : Situation) (outs : List Event) → o ≡ Done outs s → ⊥) → (p : Place)
      → IsBoundedRun c (Fire f ∷ v.moves) p → ⊥
  undone_nowhere o is never p run =
      let e : run.0 ≡ stands =
      one_place c v.moves run.0 stands run.1 way.at.node.is_run in
      never run.2.situation run.2.outs (sym is
      ∙ subst (λ (u : Place). outcome c.limit (text_of c.spec) u.situation f
      ≡ Done run.2.outs run.2.situation) e run.2.step.done)

  pub fault_on : (fault : BlockFault)
      → outcome c.limit (text_of c.spec) stack.now f ≡ Fault fault
      → IsOnWay c exact stack w (tried + 1) passed
  fault_on fault is =
      let nowhere = undone_nowhere (Fault fault) is (λ s outs e. cc) in
      quiet_off (off_nowhere nowhere) (never_nowhere nowhere exact)
      (λ l. let e : Fault fault ≡ Limit = sym is ∙ l in cc)

  pub limit_on : outcome c.limit (text_of c.spec) stack.now f ≡ Limit
      → IsOnWay c exact stack w (tried + 1) true
  limit_on is =
      let nowhere = undone_nowhere Limit is (λ s outs e. cc) in
      fired_off (off_nowhere nowhere) (never_nowhere nowhere exact) true (λ m. (
        marks_of (Fire f ∷ v.moves),
        block v.moves f refl (record {
          place = stands;
          inner = inner_at c v.moves stack.now v.top way.at.node;
          possible = fire_possible;
          outcome_is = is;
        }),
      ))

  -- IT IS DONE

  module _ (s' : Situation) (outs : List Event)
      (is_done : outcome c.limit (text_of c.spec) stack.now f ≡ Done outs s') where
    never_limit : outcome c.limit (text_of c.spec) stack.now f ≡ Limit → ⊥
    never_limit l = (let e : Done outs s' ≡ Limit = sym is_done ∙ l in cc)

    -- too many silent firings stand in a row
    silent_nowhere : c.silent < silent_after v.top.silent outs → (p : Place)
        → IsBoundedRun c (Fire f ∷ v.moves) p → ⊥
    silent_nowhere many p run =
        let e : run.0 ≡ stands =
        one_place c v.moves run.0 stands run.1 way.at.node.is_run in
        let d : outcome c.limit (text_of c.spec) stack.now f ≡ Done run.2.outs run.2.situation =
        subst (λ (u : Place). outcome c.limit (text_of c.spec) u.situation f
        ≡ Done run.2.outs run.2.situation) e run.2.step.done in
        let both : Done outs s' ≡ Done run.2.outs run.2.situation = sym is_done ∙ d in
        let same : outs ≡ run.2.outs = cc in
        let row : p.silent_in_row ≡ silent_after v.top.silent outs =
        ap (λ (u : Place). u.silent_in_row) run.2.leads
        ∙ ap (λ (u : Place). silent_after u.silent_in_row run.2.outs) e
        ∙ ap (λ u. silent_after v.top.silent u) (sym same) in
        let few = run.3 in
        omega arith

    pub silent_on : c.silent < silent_after v.top.silent outs
        → IsOnWay c exact stack w (tried + 1) passed
    silent_on many =
        let nowhere = silent_nowhere many in
        quiet_off (off_nowhere nowhere) (never_nowhere nowhere exact) never_limit

    module _ (few : silent_after v.top.silent outs ≤ c.silent) where
      fired : Place
      fired = after_firing stands s' outs

      fired_run : IsBoundedRun c (Fire f ∷ v.moves) fired
      unfolding fired
      fired_run = (
        stands,
        way.at.node.is_run,
        record {
          situation = s';
          outs = outs;
          step = record { possible = fire_possible; done = is_done };
          leads = refl;
        },
        few,
      )

      fired_events : fired.events ≡ way.at.node.events ++ outs
      unfolding fired
      fired_events = refl

      abbrev matched : AgreeAll (take v.top.matched c.trace.events) way.at.node.events
      matched = way.at.node.agree

      fired_many : length (way.at.node.events ++ outs) ≡ v.top.matched + length outs
      fired_many = length-append way.at.node.events outs
          ∙ ap (λ n. n + length outs) (node_length c v.moves stack.now v.top way.at.node)

      module _ (k : ℕ) (agree : AgreeFor c.trace.events v.top.matched outs k) where
        -- where it departs and is not sought, the run is dealt with
        departed_by : (b : Bool) → k < length outs
            → (MayEndAt c b v.top.matched k outs → ⊥) → IsSought c b (Fire f ∷ v.moves) → ⊥
        departed_by false short never y =
            let n = yields_no_more c (Fire f ∷ v.moves) fired fired_run way.at.node.events outs
            v.top.matched k matched fired_events agree (length c.trace.events) y in
            let m = agree.within in
            never (omega arith, λ t. (let no : ⊥ = cc in absurd no))
        departed_by true short never e =
            departs c (Fire f ∷ v.moves) fired fired_run way.at.node.events outs v.top.matched k
            matched fired_events agree short (record {
              place = e.place;
              is_run = e.is_run;
              follows = explains_follows c (Fire f ∷ v.moves) e;
            })

        pub departed_on : k < length outs → (MayEndAt c exact v.top.matched k outs → ⊥)
            → IsOnWay c exact stack w (tried + 1) passed
        departed_on short never =
            quiet_off (departs c (Fire f ∷ v.moves) fired fired_run way.at.node.events outs
            v.top.matched k matched fired_events agree short)
            (departed_by exact short never) never_limit

      abbrev led_place : Place
      led_place = record {
        situation = s';
        events = way.at.node.events ++ outs;
        silent_in_row = silent_after v.top.silent outs;
      }

      led_run : IsBoundedRun c (Fire f ∷ v.moves) led_place
      unfolding fired
      led_run = fired_run

      module _ (agree : AgreeFor c.trace.events v.top.matched outs (length outs)) where
        led_agree : AgreeAll (take (v.top.matched + length outs) c.trace.events)
            (way.at.node.events ++ outs)
        unfolding fired
        led_agree = agree_now c (Fire f ∷ v.moves) fired fired_run way.at.node.events outs
            v.top.matched matched fired_events agree

        pub led_on : v.top.matched + length outs < length c.trace.events
            → IsOnWay c exact (pushed s' stack) (entered w (Fire f) (v.top.matched + length outs)
            (silent_after v.top.silent outs)) (tried + 1) passed
        led_on short =
            let n = fired_many in
            let z = marks_of (Fire f ∷ v.moves) in
            subst (λ u. IsOnWay c exact (pushed s' stack) (entered u (Fire f)
            (v.top.matched + length outs) (silent_after v.top.silent outs)) (tried + 1) passed)
            (sym next.next_is) (record {
              dealt = None;
              at = record {
                mine = [];
                rest = next.tries;
                firings_are = refl;
                count = refl;
                node = record {
                  events = way.at.node.events ++ outs;
                  is_run = led_run;
                  within = agree.within;
                  agree = led_agree;
                  unfinished = few_open c led_place (omega arith);
                };
                stage = (refl, refl);
                lower = lower_on;
              };
              knows = record {
                trials = trials_more c before on_now (Fire f ∷ v.moves) on_turn tried trial
                    known_listed.trials;
                sought = sought_on c exact before on_now z on_turn
                    (unsought_on c exact before on_now (Fire f ∷ v.moves) on_turn
                    (few_not_sought c exact (Fire f ∷ v.moves) led_place led_run (omega arith)))
                    known_listed.sought;
                met = met_on c exact before on_now z on_turn
                    (trying_passes c v.moves stands f way.at.node.is_run never_limit) passed
                    known_listed.met;
              };
            })

      -- all events are there, and maybe more
      module _ (k : ℕ) (agree : AgreeFor c.trace.events v.top.matched outs k)
          (ends : MayEndAt c exact v.top.matched k outs) where
        all_agree : AgreeAll c.trace.events (way.at.node.events ++ take k outs)
        all_agree =
            let joined = agree_on c.trace.events way.at.node.events outs v.top.matched k matched
            agree in
            let w = agree.within in
            subst (λ xs. AgreeAll xs (way.at.node.events ++ take k outs))
            (sym (take_on v.top.matched k c.trace.events (omega arith))
            ∙ ap (λ n. take n c.trace.events) ends.0 ∙ take-length c.trace.events) joined

        -- the events of the run are those given, and then what was sent beyond them
        parted : way.at.node.events ++ outs
            ≡ (way.at.node.events ++ take k outs) ++ drop k outs
        parted = ap (λ xs. way.at.node.events ++ xs) (sym (take-append-drop k outs))
            ∙ sym (append_assoc way.at.node.events (take k outs) (drop k outs))

        none_over : k ≡ length outs → drop k outs ≡ []
        none_over e = ap (λ n. drop n outs) e ∙ drop_all outs

        pub led_found :
            IsFound c exact (pushed s' stack) (entered w (Fire f) (v.top.matched + k)
            (silent_after v.top.silent outs)) (drop k outs) (tried + 1) passed
        led_found =
            let z = marks_of (Fire f ∷ v.moves) in
            subst (λ u. IsFound c exact (pushed s' stack) (entered u (Fire f)
            (v.top.matched + k) (silent_after v.top.silent outs)) (drop k outs) (tried + 1) passed)
            (sym next.next_is) (record {
              stands = record {
                events = way.at.node.events ++ take k outs;
                is_run = subst (λ (xs : List Event). IsBoundedRun c (Fire f ∷ v.moves) (record {
                  situation = s';
                  events = xs;
                  silent_in_row = silent_after v.top.silent outs;
                })) parted led_run;
                agree = all_agree;
                before = (
                  stands,
                  way.at.node.is_run,
                  (inner_at c v.moves stack.now v.top way.at.node).follows,
                );
                matched = ends.0;
                fresh = refl;
                none_left = refl;
                lower = lower_on;
              };
              ends = λ t. none_over (ends.1 t);
              trials = trials_more c before on_now (Fire f ∷ v.moves) on_turn tried trial
                  known_listed.trials;
              sought = sought_or c exact before on_now (Fire f ∷ v.moves) on_turn
                  known_listed.sought;
              met = met_on c exact before on_now z on_turn
                  (trying_passes c v.moves stands f way.at.node.is_run never_limit) passed
                  known_listed.met;
            })
