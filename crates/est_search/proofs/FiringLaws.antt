-- The steps of a search that try a firing or go back.
use Rattle.std.proofs.Common.{◌≡◌, ℕ, ◌+◌, ◌<◌, ◌≤◌, ◌⊎◌, List, [], ◌∷◌, ◌++◌, Option, Some, None}
use Rattle.std.proofs.Common.{length, take, refl, sym, ap, subst, ◌∙◌, inl, inr}
use Rattle.std.proofs.Common.{reverse, arith}
use Rattle.std.specs.Option.{option_or}
use Rattle.est_meaning.specs.mean_blocks.declared.fault.BlockFault.{BlockFault}
use Rattle.est_meaning.specs.mean_blocks.GlobalSituation.{Situation}
use Rattle.est_meaning.specs.mean_blocks.Outcome.{Outcome, Done, Fault, Limit}
use Rattle.est_meaning.specs.mean_blocks.TextByPlace.{text_of}
use Rattle.est_meaning.specs.declared.event.Event.{Event}
use Rattle.est_meaning.specs.declared.firing.Firing.{Firing}
use Rattle.est_meaning.specs.Agreement.{AgreeAll}
use Rattle.est_meaning.specs.Endings.{IsTraceEnd}
use Rattle.est_meaning.specs.TransitionSelection.{IsPossible}
use Rattle.est_meaning.specs.FiringSteps.{outcome}
use Rattle.est_meaning.specs.SituationStacks.{Stack, pushed}
use Rattle.est_meaning.specs.declared.run.Move.{Move}
use Rattle.est_meaning.specs.declared.run.Move.TheVariants.{Take, Fire}
use Rattle.est_meaning.specs.Order.{Mark, Trying, mark_of, marks_of, StartsWith}
use Rattle.est_meaning.specs.Run.{Setup, Place, after_firing, silent_after, IsBoundedRun}
use Rattle.est_meaning.specs.Run.{YieldsFirst}
use Rattle.est_meaning.specs.Trials.{IsTrial, ComesTo, PassesLimit, block, Faults}
use Rattle.est_meaning.proofs.Endings.{whole_ends}
use Rattle.est_meaning.proofs.OrderLaws.{marks_same, starts_self, starts_one}
use Rattle.est_meaning.proofs.RunLaws.{one_place, explains_follows}
use Rattle.est_meaning.proofs.TreeLaws.{IsInTree, IsOnTree, passes_in_tree, faults_in_tree}
use Rattle.run_paths.specs.declared.path.Stage.TheVariants.{Listed}
use Rattle.run_paths.specs.declared.path.Level.{Level}
use Rattle.run_paths.specs.declared.path.Best.{Best}
use Rattle.est_search.specs.declared.verdict.Faulted.{Faulted}
use Rattle.est_search.specs.declared.walk.Passed.{Passed}
use Rattle.est_search.specs.declared.walk.Notes.{Notes}
use Rattle.est_search.specs.inside.Ahead.{IsAfter, IsAhead}
use Rattle.est_search.specs.inside.Known.{Knows, IsNoted}
use Rattle.est_search.specs.inside.Agreement.{AgreeFor}
use Rattle.run_paths.specs.Paths.{View, entered, IsNext, IsUndone, HasReached, HasKept}
use Rattle.est_search.specs.inside.Path.{place_at, gone_back, stage_after, StageIs, AreLeftBelow}
use Rattle.est_search.specs.inside.Path.{AreLower, IsAt}
use Rattle.est_search.specs.inside.Walk.{passed_at, faulted_at, FaultIs, NotesAre, KnowsAll}
use Rattle.est_search.specs.inside.Walk.{IsOnWay, Accepts, IsOver}
use Rattle.est_search.proofs.AheadLaws.{Turn, turn_on, turn_off, skip_back, skip_all, IsNextMark}
use Rattle.est_search.proofs.KnownLaws.{knows_skip, noted_on, noted_now}
use Rattle.est_search.proofs.KnownLaws.{best_on, trials_more, accepts_tried, over_now}
use Rattle.est_search.proofs.EventLaws.{yields_so, yields_no_more, departs}
use Rattle.est_search.proofs.EventLaws.{agree_now, is_unfinished, explains_so}
use Rattle.est_search.proofs.PathLaws.{inner_at}
use Rattle.est_search.proofs.PathLaws.{firing_next, firing_ends, none_left, left_next, IsNextOf}
use Rattle.est_search.proofs.PathLaws.{next_mine, none_mine, IsListed, listed_stage, spent_stage}
use Rattle.run_paths.proofs.BestRuns.{at_most, kept_undone}
use Rattle.est_search.proofs.PathLaws.{BestAfter, best_reached}
use Rattle.est_search.proofs.WalkLaws.{all_skip, all_at, all_after, trying_passes, trying_faults}
use Rattle.est_search.proofs.WalkLaws.{events_noted}

-- FIRINGS

module _ (c : Setup) (stack : Stack) (v : View Move Firing) (tried : ℕ) (best : Best Move)
    (notes : Notes)
    (way : IsOnWay c stack v tried best notes) (f : Firing) (w : View Move Firing)
    (next : IsNext v f w) where
  abbrev pub stands : Place
  stands = place_at stack.now v.top way.at.node.events

  mine_next : IsNextOf way.at.mine way.at.rest f next.tries next.left
  mine_next = next_mine way.at.mine way.at.rest f next.tries next.left
      (sym next.tries_are ∙ way.at.firings_are) (way.at.count ∙ next.left_is)

  listed : IsListed c stack.now v.stage way.dealt (f ∷ mine_next.others)
  listed = listed_stage c stack.now v.stage way.dealt way.at.mine f mine_next.others
      mine_next.mine_is way.at.stage

  pub fire_possible : IsPossible c.limit (text_of c.spec) stack.now f
  fire_possible = listed.left.possible f (inl refl)

  trial : IsTrial c (Fire f ∷ v.moves)
  trial = (
    stands,
    inner_at c v.moves stack.now v.top way.at.node,
    fire_possible,
  )

  comes : (o : Outcome Situation (List Event))
      → outcome c.limit (text_of c.spec) stack.now f ≡ o → ComesTo c v.moves f o
  comes o is = record {
    place = stands;
    inner = inner_at c v.moves stack.now v.top way.at.node;
    possible = fire_possible;
    outcome_is = is;
  }

  all_listed : KnowsAll c (IsAhead (marks_of v.moves) (Some listed.mark)) v.moves tried best
      notes
  all_listed = all_at c (marks_of v.moves) way.dealt (Some listed.mark) v.moves tried best notes
      listed.dealt_is way.all

  is_next : IsNextMark c (marks_of v.moves) (Some listed.mark) (Trying f)
  is_next = firing_next c v.moves stands listed.mark f mine_next.others
      way.at.node.is_run listed.past listed.left

  off_turn : (IsOnTree c (Fire f ∷ v.moves) → ⊥)
      → Turn c (IsAhead (marks_of v.moves) (Some listed.mark))
      (IsAhead (marks_of v.moves) (Some (Trying f))) (marks_of (Fire f ∷ v.moves))
  off_turn off = turn_off c (marks_of v.moves) (Some listed.mark) (Trying f) is_next
      (firing_ends c f v.moves off)

  on_turn : Turn c (IsAhead (marks_of v.moves) (Some listed.mark))
      (IsAhead (marks_of (Fire f ∷ v.moves)) None) (marks_of (Fire f ∷ v.moves))
  on_turn = turn_on c (marks_of v.moves) (Some listed.mark) (Trying f) is_next

  -- the budget is used up
  pub over : IsOver c tried
  over = over_now c (IsAhead (marks_of v.moves) (Some listed.mark))
      (IsAhead (marks_of (Fire f ∷ v.moves)) None) (Fire f ∷ v.moves) on_turn tried trial
      all_listed.knows.trials all_listed.knows.explaining

  at_next : IsAt c stack w (Some (Trying f))
  at_next = subst (λ u. IsAt c stack u (Some (Trying f))) (sym next.next_is) (record {
    mine = mine_next.others;
    rest = way.at.rest;
    firings_are = mine_next.rest_is;
    count = mine_next.count;
    node = record {
      events = way.at.node.events;
      is_run = way.at.node.is_run;
      within = way.at.node.within;
      agree = way.at.node.agree;
      unfinished = way.at.node.unfinished;
    };
    stage = subst (λ st. StageIs c stack.now st (Some (Trying f)) mine_next.others)
        (sym listed.stage_is)
        (Trying f, refl, tt, left_next c stack.now listed.mark f mine_next.others listed.left);
    lower = way.at.lower;
  })

  moves_same : w.moves ≡ v.moves
  moves_same = ap (λ (u : View Move Firing). u.moves) next.next_is

  -- IT DOES NOT LEAD ON

  module _ (off : IsOnTree c (Fire f ∷ v.moves) → ⊥) where
    fired_off : (best' : Best Move) (notes' : Notes)
        → BestAfter c (IsAhead (marks_of v.moves) (Some (Trying f))) v.moves best'
        → (IsNoted (PassesLimit c) (IsAhead (marks_of v.moves) (Some listed.mark))
        (passed_at notes.passed)
        → IsNoted (PassesLimit c) (IsAhead (marks_of v.moves) (Some (Trying f)))
        (passed_at notes'.passed))
        → (IsNoted (Faults c) (IsAhead (marks_of v.moves) (Some listed.mark))
        (faulted_at notes.faulted)
        → IsNoted (Faults c) (IsAhead (marks_of v.moves) (Some (Trying f)))
        (faulted_at notes'.faulted))
        → NotesAre c notes' → IsOnWay c stack w (tried + 1) best' notes'
    fired_off best' notes' known passes faults noted = record {
      dealt = Some (Trying f);
      at = at_next;
      all = subst (λ h. KnowsAll c (IsAhead (marks_of h) (Some (Trying f))) h (tried + 1) best'
          notes') (sym moves_same) (all_after c
          (IsAhead (marks_of v.moves) (Some listed.mark))
          (IsAhead (marks_of v.moves) (Some (Trying f))) v.moves (Fire f) (off_turn off) tried best
          notes all_listed v.moves (tried + 1) best' notes'
          (λ e. off (record {
            place = e.place;
            is_run = e.is_run;
            follows = explains_follows c (Fire f ∷ v.moves) e;
          })) known passes faults noted
          (trials_more c (IsAhead (marks_of v.moves) (Some listed.mark))
          (IsAhead (marks_of v.moves) (Some (Trying f))) (Fire f ∷ v.moves) (off_turn off) tried
          trial));
    }

    quiet : (outcome c.limit (text_of c.spec) stack.now f ≡ Limit → ⊥)
        → IsNoted (PassesLimit c) (IsAhead (marks_of v.moves) (Some listed.mark))
        (passed_at notes.passed)
        → IsNoted (PassesLimit c) (IsAhead (marks_of v.moves) (Some (Trying f)))
        (passed_at notes.passed)
    quiet never = noted_on c (IsAhead (marks_of v.moves) (Some listed.mark))
        (IsAhead (marks_of v.moves) (Some (Trying f))) (marks_of (Fire f ∷ v.moves))
        (off_turn off) (PassesLimit c) (passes_in_tree c)
        (trying_passes c v.moves stands f way.at.node.is_run never)
        (passed_at notes.passed)

    sound : ((fault : BlockFault) → outcome c.limit (text_of c.spec) stack.now f ≡ Fault fault → ⊥)
        → IsNoted (Faults c) (IsAhead (marks_of v.moves) (Some listed.mark))
        (faulted_at notes.faulted)
        → IsNoted (Faults c) (IsAhead (marks_of v.moves) (Some (Trying f)))
        (faulted_at notes.faulted)
    sound never = noted_on c (IsAhead (marks_of v.moves) (Some listed.mark))
        (IsAhead (marks_of v.moves) (Some (Trying f))) (marks_of (Fire f ∷ v.moves))
        (off_turn off) (Faults c) (faults_in_tree c)
        (trying_faults c v.moves stands f way.at.node.is_run never)
        (faulted_at notes.faulted)

  -- it is no bounded run
  module _ (nowhere : (p : Place) → IsBoundedRun c (Fire f ∷ v.moves) p → ⊥) where
    off_nowhere : IsOnTree c (Fire f ∷ v.moves) → ⊥
    off_nowhere on = nowhere on.place on.is_run

    best_same : BestAfter c (IsAhead (marks_of v.moves) (Some (Trying f))) v.moves best
    best_same = record {
      run = all_listed.run;
      kept = all_listed.kept;
      knows = best_on c (IsAhead (marks_of v.moves) (Some listed.mark))
          (IsAhead (marks_of v.moves) (Some (Trying f))) (marks_of (Fire f ∷ v.moves))
          (off_turn off_nowhere) best.yields all_listed.run
          (λ r j same y. absurd (nowhere y.place (subst (λ u. IsBoundedRun c u y.place)
          (marks_same r (Fire f ∷ v.moves) same) y.is_run))) all_listed.knows.best;
    }

  undone_nowhere : (o : Outcome Situation (List Event))
      → outcome c.limit (text_of c.spec) stack.now f ≡ o
      → ((s : Situation) (outs : List Event) → o ≡ Done outs s → ⊥) → (p : Place)
      → IsBoundedRun c (Fire f ∷ v.moves) p → ⊥
  undone_nowhere o is never p run =
      let e : run.0 ≡ stands =
      one_place c v.moves run.0 stands run.1 way.at.node.is_run in
      never run.2.situation run.2.outs (sym is
      ∙ subst (λ (u : Place). outcome c.limit (text_of c.spec) u.situation f
      ≡ Done run.2.outs run.2.situation) e run.2.step.done)

  fault_noted : (o : Option Faulted) (moves : List Move) (fault : BlockFault)
      → reverse moves ≡ v.moves
      → faulted_at (option_or o (Some (record { run = moves; firing = f; fault = fault })))
      ≡ option_or (faulted_at o) (Some (marks_of (Fire f ∷ v.moves)))
  fault_noted None moves fault e = ap (λ u. Some (Trying f ∷ marks_of u)) e
  fault_noted (Some p) moves fault e = refl

  fault_is : (o : Option Faulted) (moves : List Move) (fault : BlockFault)
      → reverse moves ≡ v.moves → ComesTo c v.moves f (Fault fault) → FaultIs c o
      → FaultIs c (option_or o (Some (record { run = moves; firing = f; fault = fault })))
  fault_is None moves fault e is before = subst (λ u. ComesTo c u f (Fault fault)) (sym e) is
  fault_is (Some p) moves fault e is before = before

  pub fault_on : (moves : List Move) (fault : BlockFault) → reverse moves ≡ v.moves
      → outcome c.limit (text_of c.spec) stack.now f ≡ Fault fault
      → IsOnWay c stack w (tried + 1) best (record notes {
        faulted =
            option_or notes.faulted (Some (record { run = moves; firing = f; fault = fault }));
      })
  fault_on moves fault same is =
      let nowhere = undone_nowhere (Fault fault) is (λ s outs e. cc) in
      let off = off_nowhere nowhere in
      fired_off off best _ (best_same nowhere)
      (quiet off (λ l. let e : Fault fault ≡ Limit = sym is ∙ l in cc))
      (λ n. subst (λ u. IsNoted (Faults c) (IsAhead (marks_of v.moves) (Some (Trying f))) u)
      (sym (fault_noted notes.faulted moves fault same))
      (noted_now c (IsAhead (marks_of v.moves) (Some listed.mark))
      (IsAhead (marks_of v.moves) (Some (Trying f))) (marks_of (Fire f ∷ v.moves))
      (off_turn off) (Faults c) (faults_in_tree c)
      (record {
        earlier = v.moves;
        firing = f;
        fault = fault;
        at = refl;
        comes = comes (Fault fault) is;
      }) (faulted_at notes.faulted) n)) (
        fault_is notes.faulted moves fault same (comes (Fault fault) is) all_listed.noted.0,
        all_listed.noted.1,
      )

  pass_noted : (o : Option Passed) (moves : List Move) (many : ℕ) → reverse moves ≡ v.moves
      → passed_at (option_or o (Some (record { run = moves; events = many; firing = Some f })))
      ≡ option_or (passed_at o) (Some (marks_of (Fire f ∷ v.moves)))
  pass_noted None moves many e = ap (λ u. Some (Trying f ∷ marks_of u)) e
  pass_noted (Some p) moves many e = refl

  pub limit_on : (moves : List Move) (many : ℕ) → reverse moves ≡ v.moves → many ≡ v.top.matched
      → outcome c.limit (text_of c.spec) stack.now f ≡ Limit
      → IsOnWay c stack w (tried + 1) best (record notes {
        passed =
            option_or notes.passed
            (Some (record { run = moves; events = many; firing = Some f }));
      })
  limit_on moves many same count is =
      let nowhere = undone_nowhere Limit is (λ s outs e. cc) in
      let off = off_nowhere nowhere in
      fired_off off best _ (best_same nowhere)
      (λ n. subst (λ u. IsNoted (PassesLimit c) (IsAhead (marks_of v.moves) (Some (Trying f))) u)
      (sym (pass_noted notes.passed moves many same))
      (noted_now c (IsAhead (marks_of v.moves) (Some listed.mark))
      (IsAhead (marks_of v.moves) (Some (Trying f))) (marks_of (Fire f ∷ v.moves))
      (off_turn off) (PassesLimit c) (passes_in_tree c)
      (block v.moves f refl (comes Limit is)) (passed_at notes.passed) n))
      (sound off (λ fault l. let e : Limit ≡ Fault fault = sym is ∙ l in cc)) (
        all_listed.noted.0,
        events_noted c v.moves stack.now v.top way.at.node notes.passed moves
            many (Some f) same count all_listed.noted.1,
      )

  -- IT IS DONE

  module _ (s' : Situation) (outs : List Event)
      (is_done : outcome c.limit (text_of c.spec) stack.now f ≡ Done outs s') where
    never_limit : outcome c.limit (text_of c.spec) stack.now f ≡ Limit → ⊥
    never_limit l = (let e : Done outs s' ≡ Limit = sym is_done ∙ l in cc)

    never_fault : (fault : BlockFault)
        → outcome c.limit (text_of c.spec) stack.now f ≡ Fault fault → ⊥
    never_fault fault l = (let e : Done outs s' ≡ Fault fault = sym is_done ∙ l in cc)

    -- too many silent firings stand in a row
    silent_nowhere : c.silent < silent_after v.top.silent outs → (p : Place)
        → IsBoundedRun c (Fire f ∷ v.moves) p → ⊥
    silent_nowhere many p run =
        let e : run.0 ≡ stands =
        one_place c v.moves run.0 stands run.1 way.at.node.is_run in
        let d : outcome c.limit (text_of c.spec) stack.now f ≡ Done run.2.outs run.2.situation =
        subst (λ (u : Place). outcome c.limit (text_of c.spec) u.situation f
        ≡ Done run.2.outs run.2.situation) e run.2.step.done in
        let both : Done outs s' ≡ Done run.2.outs run.2.situation = sym is_done ∙ d in
        let same : outs ≡ run.2.outs = cc in
        let row : p.silent_in_row ≡ silent_after v.top.silent outs =
        ap (λ (u : Place). u.silent_in_row) run.2.leads
        ∙ ap (λ (u : Place). silent_after u.silent_in_row run.2.outs) e
        ∙ ap (λ u. silent_after v.top.silent u) (sym same) in
        let few = run.3 in
        omega arith

    pub silent_on : c.silent < silent_after v.top.silent outs
        → IsOnWay c stack w (tried + 1) best notes
    silent_on many =
        let nowhere = silent_nowhere many in
        let off = off_nowhere nowhere in
        fired_off off best notes (best_same nowhere) (quiet off never_limit)
        (sound off never_fault) all_listed.noted

    module _ (few : silent_after v.top.silent outs ≤ c.silent) where
      fired : Place
      fired = after_firing stands s' outs

      fired_run : IsBoundedRun c (Fire f ∷ v.moves) fired
      unfolding fired
      fired_run = (
        stands,
        way.at.node.is_run,
        record {
          situation = s';
          outs = outs;
          step = record { possible = fire_possible; done = is_done };
          leads = refl;
        },
        few,
      )

      fired_events : fired.events ≡ way.at.node.events ++ outs
      unfolding fired
      fired_events = refl

      fired_now : fired.situation ≡ s'
      unfolding fired
      fired_now = refl

      -- the trace ends with the events of the firing, in a situation
      abbrev EndsIn : Situation → Type 0
      EndsIn s = IsTraceEnd c.trace c.limit (text_of c.spec) s (v.top.matched + length outs)

      abbrev matched : AgreeAll (take v.top.matched c.trace.events) way.at.node.events
      matched = way.at.node.agree

      module _ (k : ℕ) (agree : AgreeFor c.trace.events v.top.matched outs k) where
        fired_yields : YieldsFirst c (Fire f ∷ v.moves) (v.top.matched + k)
        fired_yields = yields_so c (Fire f ∷ v.moves) fired fired_run way.at.node.events outs
            v.top.matched k matched fired_events agree (
              stands,
              way.at.node.is_run,
              (inner_at c v.moves stack.now v.top way.at.node).follows,
            )

        fired_few : (r : List Move) (j : ℕ) → marks_of r ≡ marks_of (Fire f ∷ v.moves)
            → YieldsFirst c r j → j ≤ v.top.matched + k
        fired_few r j same y = yields_no_more c (Fire f ∷ v.moves) fired fired_run
            way.at.node.events outs v.top.matched k matched fired_events agree j
            (subst (λ u. YieldsFirst c u j) (marks_same r (Fire f ∷ v.moves) same) y)

        pub departed_on : (best' : Best Move) (made : ℕ) → made ≡ length v.moves
            → HasReached best best' made (Fire f) (v.top.matched + k) → k < length outs
            → IsOnWay c stack w (tried + 1) best' notes
        departed_on best' made made_is reached short =
            let off = departs c (Fire f ∷ v.moves) fired fired_run way.at.node.events outs
            v.top.matched k matched fired_events agree short in
            fired_off off best' notes
            (best_reached c (IsAhead (marks_of v.moves) (Some listed.mark))
            (IsAhead (marks_of v.moves) (Some (Trying f))) v.moves (Fire f) (off_turn off) best
            best' all_listed.run made (v.top.matched + k) v.moves (starts_self v.moves) made_is
            reached fired_yields fired_few all_listed.kept all_listed.knows.best)
            (quiet off never_limit) (sound off never_fault) all_listed.noted

      module _ (agree : AgreeFor c.trace.events v.top.matched outs (length outs)) where
        pub led_found : EndsIn s' → Accepts c (Fire f ∷ v.moves) (tried + 1)
        led_found end = accepts_tried c (IsAhead (marks_of v.moves) (Some listed.mark))
            (IsAhead (marks_of (Fire f ∷ v.moves)) None) (Fire f ∷ v.moves) on_turn tried trial
            all_listed.knows.trials
            (explains_so c (Fire f ∷ v.moves) fired fired_run way.at.node.events outs v.top.matched
            matched fired_events agree (subst EndsIn (sym fired_now) end))
            all_listed.knows.explaining

        abbrev led_place : Place
        led_place = record {
          situation = s';
          events = way.at.node.events ++ outs;
          silent_in_row = silent_after v.top.silent outs;
        }

        led_run : IsBoundedRun c (Fire f ∷ v.moves) led_place
        unfolding fired
        led_run = fired_run

        led_agree : AgreeAll (take (v.top.matched + length outs) c.trace.events)
            (way.at.node.events ++ outs)
        unfolding fired
        led_agree = agree_now c (Fire f ∷ v.moves) fired fired_run way.at.node.events outs
            v.top.matched matched fired_events agree

        pub led_on : (best' : Best Move) (made : ℕ) → made ≡ length v.moves
            → HasReached best best' made (Fire f) (v.top.matched + length outs)
            → (EndsIn s' → ⊥)
            → IsOnWay c (pushed s' stack) (entered w (Fire f) (v.top.matched + length outs)
            (silent_after v.top.silent outs)) (tried + 1) best' notes
        led_on best' made made_is reached never =
            let P = IsAhead (marks_of v.moves) (Some listed.mark) in
            let P' = IsAhead (marks_of (Fire f ∷ v.moves)) None in
            let z = marks_of (Fire f ∷ v.moves) in
            let within = agree.within in
            subst (λ u. IsOnWay c (pushed s' stack) (entered u (Fire f)
            (v.top.matched + length outs) (silent_after v.top.silent outs)) (tried + 1) best'
            notes) (sym next.next_is) (record {
              dealt = None;
              at = record {
                mine = [];
                rest = next.tries;
                firings_are = refl;
                count = refl;
                node = record {
                  events = way.at.node.events ++ outs;
                  is_run = led_run;
                  within = within;
                  agree = led_agree;
                  unfinished = λ x. never (whole_ends c led_place (v.top.matched + length outs)
                      within led_agree x);
                };
                stage = (refl, refl);
                lower = (
                  mine_next.others,
                  way.at.rest,
                  mine_next.rest_is,
                  mine_next.count,
                  record {
                    events = way.at.node.events;
                    is_run = way.at.node.is_run;
                    within = way.at.node.within;
                    agree = way.at.node.agree;
                    unfinished = way.at.node.unfinished;
                  },
                  left_next c stack.now listed.mark f mine_next.others listed.left,
                  way.at.lower,
                );
              };
              all = all_after c P P' v.moves (Fire f) on_turn tried best notes all_listed
                  (Fire f ∷ v.moves) (tried + 1) best' notes
                  (is_unfinished c (Fire f ∷ v.moves) fired fired_run way.at.node.events outs
                  v.top.matched matched fired_events agree
                  (λ end. never (subst EndsIn fired_now end)))
                  (best_reached c P P' v.moves (Fire f) on_turn best best' all_listed.run made
                  (v.top.matched + length outs) (Fire f ∷ v.moves) (starts_one (Fire f) v.moves)
                  made_is reached (fired_yields (length outs) agree)
                  (fired_few (length outs) agree) all_listed.kept all_listed.knows.best)
                  (noted_on c P P' z on_turn (PassesLimit c) (passes_in_tree c)
                  (trying_passes c v.moves stands f way.at.node.is_run
                  never_limit) (passed_at notes.passed))
                  (noted_on c P P' z on_turn (Faults c) (faults_in_tree c)
                  (trying_faults c v.moves stands f way.at.node.is_run
                  never_fault) (faulted_at notes.faulted))
                  all_listed.noted
                  (trials_more c P P' (Fire f ∷ v.moves) on_turn tried trial);
            })

-- BACK

yields_kept : (old new : Best Move) (left : ℕ) (made : Move) → HasKept old new left made
    → new.yields ≡ old.yields
yields_kept old new left made k = elim (at_most old.common left) [
  | inl le ↦ ap (λ (b : Best Move). b.yields) (k.apart le)
  | inr lt ↦ (k.shared lt).0
]

stage_back : (c : Setup) (s : Situation) (made : Move) (mine : List Firing)
    → AreLeftBelow c s made mine → StageIs c s (stage_after made) (Some (mark_of made)) mine
stage_back c s Take mine left = (refl, left)
stage_back c s (Fire f) mine left = (Trying f, refl, tt, left)

lower_depth : (c : Setup) (l : Level) (ls : List Level) (m : Move) (h : List Move)
    (below : List Situation) (firings : List Firing) → AreLower c (l ∷ ls) (m ∷ h) below firings
    → 0 < length below
lower_depth c l ls m h [] firings a = absurd a
lower_depth c l ls m h (s ∷ below) firings a = omega arith

no_moves : (c : Setup) (h : List Move) (below : List Situation) (firings : List Firing)
    → AreLower c [] h below firings → h ≡ []
no_moves c [] below firings a = refl
no_moves c (m ∷ h) below firings a = absurd a

module _ (c : Setup) (stack : Stack) (v : View Move Firing) (tried : ℕ) (best : Best Move)
    (notes : Notes)
    (way : IsOnWay c stack v tried best notes) (stage : v.stage ≡ Listed)
    (spent : (v.top.left ≡ 0) ⊎ (v.tries ≡ [])) where
  all_spent : way.at.mine ≡ []
  all_spent = none_mine way.at.mine way.at.rest (elim spent [
    | inl e ↦ inl (way.at.count ∙ e)
    | inr e ↦ inr (sym way.at.firings_are ∙ e)
  ])

  spent_listed : IsListed c stack.now v.stage way.dealt []
  spent_listed = spent_stage c stack.now v.stage way.dealt way.at.mine stage all_spent
      way.at.stage

  none_goes_on : (n : Mark) (x : List Mark) → IsInTree c x → IsAfter way.dealt n
      → StartsWith x (n ∷ marks_of v.moves) → ⊥
  none_goes_on n x tree a s = none_left c v.moves (place_at stack.now v.top way.at.node.events)
      spent_listed.mark way.at.node.is_run spent_listed.past spent_listed.left n x tree
      (subst (λ d. IsAfter d n) spent_listed.dealt_is a) s

  pub back_depth : (made : Move) (w : View Move Firing) → IsUndone v made w → 0 < length stack.below
  back_depth made w undone =
      lower_depth c w.top w.lower made w.moves stack.below way.at.rest
      (subst (λ ls. AreLower c ls (made ∷ w.moves) stack.below way.at.rest) undone.lower
      (subst (λ h. AreLower c v.lower h stack.below way.at.rest) undone.moves way.at.lower))

  pub back_on : (made : Move) (w : View Move Firing) (stack' : Stack) (best' : Best Move) (left : ℕ)
      → IsUndone v made w → stack ≡ pushed stack.now stack' → left ≡ length w.moves
      → HasKept best best' left made → IsOnWay c stack' (gone_back w made) tried best' notes
  back_on made w stack' best' left undone back left_is kept =
      let below : stack.below ≡ stack'.now ∷ stack'.below = ap (λ (u : Stack). u.below) back in
      let l : AreLower c (w.top ∷ w.lower) (made ∷ w.moves) (stack'.now ∷ stack'.below)
      way.at.rest =
      subst (λ ss. AreLower c (w.top ∷ w.lower) (made ∷ w.moves) ss way.at.rest) below
      (subst (λ ls. AreLower c ls (made ∷ w.moves) stack.below way.at.rest) undone.lower
      (subst (λ h. AreLower c v.lower h stack.below way.at.rest) undone.moves way.at.lower)) in
      let all : KnowsAll c (IsAhead (marks_of (made ∷ w.moves)) way.dealt) (made ∷ w.moves) tried
      best notes = subst (λ h. KnowsAll c (IsAhead (marks_of h) way.dealt) h tried best notes)
      undone.moves way.all in
      let none : (n : Mark) (x : List Mark) → IsInTree c x → IsAfter way.dealt n
      → StartsWith x (n ∷ marks_of (made ∷ w.moves)) → ⊥ =
      subst (λ h. (n : Mark) (x : List Mark) → IsInTree c x → IsAfter way.dealt n
      → StartsWith x (n ∷ marks_of h) → ⊥) undone.moves none_goes_on in
      record {
        dealt = Some (mark_of made);
        at = record {
          mine = l.0;
          rest = l.1;
          firings_are = undone.tries ∙ way.at.firings_are
              ∙ ap (λ u. u ++ way.at.rest) all_spent ∙ l.2;
          count = l.3;
          node = l.4;
          stage = stage_back c stack'.now made l.0 l.5;
          lower = l.6;
        };
        all = record {
          run = all.run;
          kept = kept_undone made w.moves best best' all.run left left_is kept all.kept;
          knows = subst (λ n. Knows c (IsAhead (marks_of w.moves) (Some (mark_of made))) tried n
              all.run (passed_at notes.passed) (faulted_at notes.faulted))
              (sym (yields_kept best best' left made kept))
              (knows_skip c (IsAhead (mark_of made ∷ marks_of w.moves) way.dealt)
              (IsAhead (marks_of w.moves) (Some (mark_of made)))
              (skip_back c (marks_of w.moves) way.dealt (mark_of made) none) tried best.yields
              all.run (passed_at notes.passed) (faulted_at notes.faulted) all.knows);
          noted = all.noted;
        };
      }

  -- nothing is left
  pub all_done : (v.lower ≡ []) ⊎ (v.moves ≡ []) → KnowsAll c (λ x. ⊥) [] tried best notes
  all_done end =
      let none : v.moves ≡ [] = elim end [
        | inl e ↦ no_moves c v.moves stack.below way.at.rest
            (subst (λ ls. AreLower c ls v.moves stack.below way.at.rest) e way.at.lower)
        | inr e ↦ e
      ] in
      let all : KnowsAll c (IsAhead [] way.dealt) [] tried best notes =
      subst (λ h. KnowsAll c (IsAhead (marks_of h) way.dealt) h tried best notes) none way.all in
      all_skip c (IsAhead [] way.dealt) (λ x. ⊥) [] tried best notes
      (skip_all c way.dealt (subst (λ h. (n : Mark) (x : List Mark) → IsInTree c x
      → IsAfter way.dealt n → StartsWith x (n ∷ marks_of h) → ⊥) none none_goes_on)) all
