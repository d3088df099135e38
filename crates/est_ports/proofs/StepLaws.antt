-- The steps of a walk that list moves, try one, or go back.
use Rattle.std.proofs.Common.{◌≡◌, ℕ, ◌+◌, ◌≤◌, ◌⊎◌, List, [], ◌∷◌, ◌++◌, Option, Some, None}
use Rattle.std.proofs.Common.{length}
use Rattle.std.proofs.Common.{take, drop, refl, sym, ap, subst, ◌∙◌, inl, inr, arith}
use Rattle.std.specs.Option.{option_or}
use Rattle.std.proofs.lemmas.List.{length-append}
use Rattle.est_syntax.specs.Least.{IsIn}
use Rattle.est_meaning.specs.Order.{StartsWith}
use Rattle.est_meaning.specs.Run.{Setup}
use Rattle.est_meaning.specs.SituationStacks.{Stack, pushed}
use Rattle.est_meaning.specs.TransitionSelection.{IsSettled, IsPossible}
use Rattle.est_meaning.specs.declared.event.Event.{Event}
use Rattle.est_meaning.specs.declared.event.Event.TheVariants as event
use Rattle.est_meaning.specs.declared.firing.Firing.{Firing}
use Rattle.est_meaning.specs.mean_blocks.GlobalSituation.{Situation}
use Rattle.est_meaning.specs.mean_blocks.TextByPlace.{text_of}
use Rattle.mean_ports.specs.declared.lists.PortLists.{PortLists}
use Rattle.mean_ports.specs.declared.moves.PortMove.{PortMove}
use Rattle.mean_ports.specs.declared.moves.PortMove.TheVariants.{TakeAt, Pass, Fire}
use Rattle.mean_ports.specs.HowMany.{HasMany}
use Rattle.mean_ports.specs.PortRuns.{Left, PortPlace, IsPortRun, IsAllUsed, after_outside}
use Rattle.mean_ports.specs.PortTrials.{IsDefinedMove, IsPortTrial, IsFiringTrial, PassesIn}
use Rattle.mean_ports.specs.PortTrials.{PassesOnTree}
use Rattle.mean_ports.specs.PortYields.{PortYields}
use Rattle.run_paths.specs.declared.path.Level.{Level}
use Rattle.run_paths.specs.declared.path.Stage.{Stage}
use Rattle.run_paths.specs.declared.path.Stage.TheVariants.{Fresh, Listed}
use Rattle.run_paths.specs.declared.path.Best.{Best}
use Rattle.run_paths.specs.Paths.{View, entered, with_tries, IsNext, IsUndone, HasKept}
use Rattle.est_ports.specs.declared.left.Used.{Used}
use Rattle.est_ports.specs.declared.left.Rest.{Rest}
use Rattle.est_ports.specs.declared.walk.Passed.{Passed}
use Rattle.est_ports.specs.inside.Ahead.{GoesOn, IsUnasked, IsBelow}
use Rattle.est_ports.specs.inside.Ahead.{IsAhead, AreGuardsAhead}
use Rattle.est_ports.specs.inside.Known.{KnowsFirings, IsPassNoted, IsNoted}
use Rattle.est_ports.specs.inside.Known.{Knows}
use Rattle.est_ports.specs.inside.Leftover.{HasUsedUp, Stands, used_of, lower, KeepsBest}
use Rattle.est_ports.specs.inside.Standing.{place_at, IsNode, AreApart, AreLower, IsBest}
use Rattle.est_ports.specs.inside.Walk.{IsOnWay, IsTakeIn}
use Rattle.est_ports.proofs.AheadLaws.{Turn, Skip, drop_none, take_front, drop_front}
use Rattle.est_ports.proofs.AheadLaws.{turn_off, guards_off, turn_on, guards_on, skip_listed}
use Rattle.est_ports.proofs.AheadLaws.{guards_listed, skip_back, guards_back}
use Rattle.est_ports.proofs.BestLaws.{stands_up, best_back, best_undone, yields_kept}
use Rattle.est_ports.proofs.KnownLaws.{firings_many, skip_with, firing_skip, knows_skip}
use Rattle.est_ports.proofs.KnownLaws.{takes_more, firings_more, one_more, noted_on, knows_turn}
use Rattle.est_ports.proofs.KnownLaws.{noted_first}
use Rattle.est_ports.proofs.PathLaws.{here, mine, others, mine_fresh, all_apart}
use Rattle.est_ports.proofs.PathLaws.{at_listed, after, mine_is, others_are, opened, staged, trial}
use Rattle.est_ports.proofs.PathLaws.{view_next, at_next, at_entered, lower_there, at_back}
use Rattle.est_ports.proofs.PathLaws.{no_moves, uses_back}
use Rattle.est_ports.proofs.PortPlaces.{one_port_place}
use Rattle.est_ports.proofs.PortTree.{IsOnTree, CanGoOn}

-- what is known where at a run these moves are left, and these below it
abbrev KnowsBy : Setup → PortLists → View PortMove PortMove → Stage → List PortMove → List PortMove
    → ℕ → ℕ → ℕ → Option Passed → Type 0
KnowsBy c lists v stage m d tried fired most passed = Knows c lists
    (λ y. GoesOn stage m v.moves y ⊎ IsBelow GoesOn v.lower v.moves d y)
    (λ y. IsUnasked stage m v.moves y ⊎ IsBelow IsUnasked v.lower v.moves d y)
    tried fired most passed

-- a move is counted with the firings where it is one
abbrev pub IsCounted : PortMove → ℕ → ℕ → Type 0
IsCounted (TakeAt port) fired fired' = fired' ≡ fired
IsCounted Pass fired fired' = fired' ≡ fired
IsCounted (Fire f) fired fired' = fired' ≡ fired + 1

-- below the run without moves nothing is left
nothing_below : (P : Stage → List PortMove → List PortMove → List PortMove → Type 0)
    (ls : List Level) (tries y : List PortMove) → IsBelow P ls [] tries y → ⊥
nothing_below P [] tries y b = b
nothing_below P (l ∷ ls) tries y b = b

none_known : (c : Setup) (lists : PortLists) (ls : List Level) (tries : List PortMove)
    (tried fired most : ℕ) (passed : Option Passed)
    → Knows c lists (IsBelow GoesOn ls [] tries) (IsBelow IsUnasked ls [] tries) tried fired most
    passed → Knows c lists (λ x. ⊥) (λ x. ⊥) tried fired most passed
none_known c lists ls tries tried fired most passed k = knows_skip c lists
    (IsBelow GoesOn ls [] tries) (λ x. ⊥) (IsBelow IsUnasked ls [] tries) (λ x. ⊥) (record {
      on = λ x tree b. nothing_below GoesOn ls tries x b;
      back = λ x b. absurd b;
    }) (λ x on b. nothing_below IsUnasked ls tries x b) tried fired most passed k

module _ (c : Setup) (lists : PortLists) (stack : Stack) (v : View PortMove PortMove) (rest : Rest)
    (tried fired : ℕ) (best : Best PortMove) (bu : Best Used) (passed : Option Passed)
    (way : IsOnWay c lists stack v rest tried fired best bu passed) where
  abbrev pub stands : PortPlace
  stands = here c lists stack v rest way.at

  abbrev pub left_here : List PortMove
  left_here = mine c lists stack v rest way.at

  abbrev pub left_below : List PortMove
  left_below = others c lists stack v rest way.at

  -- LISTING

  -- what is known where other moves are listed, and none was left
  listed_by : (stage : Stage) (tries : List PortMove) (passed' : Option Passed)
      → KnowsBy c lists v stage tries v.tries tried fired best.yields passed'
      → Knows c lists (IsAhead (with_tries v stage tries)) (AreGuardsAhead (with_tries v stage
      tries)) tried fired best.yields passed'
  listed_by stage tries passed' k =
      subst (λ d. KnowsBy c lists v stage (take (length tries) (tries ++ v.tries)) d tried fired
      best.yields passed') (sym (drop_front tries v.tries))
      (subst (λ m. KnowsBy c lists v stage m v.tries tried fired best.yields passed')
      (sym (take_front tries v.tries)) k)

  known_at : (stage : Stage) → v.stage ≡ stage → left_here ≡ []
      → KnowsBy c lists v stage [] v.tries tried fired best.yields passed
  known_at stage is none =
      subst (λ d. KnowsBy c lists v stage [] d tried fired best.yields passed)
      (drop_none v.top.left v.tries none)
      (subst (λ m. KnowsBy c lists v stage m left_below tried fired best.yields passed) none
      (subst (λ s. KnowsBy c lists v s left_here left_below tried fired best.yields passed) is
      way.knows))

  -- what comes from outside is defined
  pub take_defined : (m : PortMove) → IsTakeIn way.at.node.left m → IsDefinedMove c stands m
  take_defined (TakeAt port) t =
      let e = event.Arrives t.1.interaction in (
        after_outside c stands e t.1.after,
        record {
          interaction = t.1.interaction;
          left = t.1.after;
          here = t.1.here;
          next = t.1.next;
          leads = refl;
        },
      )
  take_defined Pass t =
      let l : Left = record { now = t.2.phase; later = t.2.phases; times = t.2.times } in (
        after_outside c stands (event.Passes t.0) l,
        record {
          units = t.0;
          phase = t.2.phase;
          phases = t.2.phases;
          times = t.2.times;
          used_up = t.2.used_up;
          phases_are = t.2.phases_are;
          times_are = t.2.times_are;
          leads = refl;
        },
      )
  take_defined (Fire f) t = absurd t

  -- each move that is defined there comes from outside, or is a firing that is possible
  pub take_or_fire : (m : PortMove) → IsDefinedMove c stands m → IsTakeIn way.at.node.left m
      ⊎ ((f : Firing) × (Fire f ≡ m) × IsPossible c.limit (text_of c.spec) stack.now f)
  take_or_fire (TakeAt port) d = inl (
    event.Arrives d.1.interaction,
    record {
      interaction = d.1.interaction;
      after = d.1.left;
      here = d.1.here;
      event_is = refl;
      next = d.1.next;
    },
  )
  take_or_fire Pass d = inl (
    d.1.units,
    record { now = d.1.phase; later = d.1.phases; times = d.1.times },
    record {
      phase = d.1.phase;
      phases = d.1.phases;
      times = d.1.times;
      used_up = d.1.used_up;
      phases_are = d.1.phases_are;
      times_are = d.1.times_are;
      after_is = refl;
    },
  )
  take_or_fire (Fire f) d = inr (f, refl, d)

  -- a move that is defined after the run is so there
  defined_here : (m : PortMove) → CanGoOn c lists v.moves m → IsDefinedMove c stands m
  defined_here m can = subst (λ p. IsDefinedMove c p m)
      (one_port_place c lists v.moves can.place stands can.is_run way.at.node.is_run) can.defined

  -- these are all moves that are defined there, each once
  module _ (moves : List PortMove) (apart : AreApart moves)
      (each : (m : PortMove) → IsIn m moves → IsDefinedMove c stands m)
      (all : (m : PortMove) → IsDefinedMove c stands m → IsIn m moves) (fresh : v.stage ≡ Fresh)
    where
      none : left_here ≡ []
      none = mine_fresh c lists stack v rest way.at fresh

      all_there : (m : PortMove) → CanGoOn c lists v.moves m → IsIn m moves
      all_there m can = all m (defined_here m can)

      abbrev B : List PortMove → Type 0
      B = IsBelow GoesOn v.lower v.moves v.tries

      abbrev D : List PortMove → Type 0
      D = IsBelow IsUnasked v.lower v.moves v.tries

      listed_skip : Skip c lists (λ y. GoesOn Fresh [] v.moves y ⊎ B y)
          (λ y. GoesOn Listed moves v.moves y ⊎ B y)
      listed_skip = skip_listed c lists v.moves B [] moves all_there

      listed_with : (rest' : Rest) (passed' : Option Passed) → rest' ≡ rest
          → IsNoted c lists (λ y. GoesOn Listed moves v.moves y ⊎ B y)
          (λ y. IsUnasked Listed moves v.moves y ⊎ D y) passed'
          → IsOnWay c lists stack (with_tries v Listed moves) rest' tried fired best bu passed'
      listed_with rest' passed' same noted = record {
        at = at_listed c lists stack v rest way.at rest' Listed moves none same tt
            (record { apart = apart; defined = each; staged = λ m i. refl });
        knows = listed_by Listed moves passed' (skip_with c lists
            (λ y. GoesOn Fresh [] v.moves y ⊎ B y) (λ y. GoesOn Listed moves v.moves y ⊎ B y)
            (λ y. IsUnasked Fresh [] v.moves y ⊎ D y)
            (λ y. IsUnasked Listed moves v.moves y ⊎ D y)
            listed_skip tried fired best.yields passed passed' noted (known_at Fresh fresh none));
        is_best = subst (λ r. IsBest c lists v.moves (used_of r) best bu) (sym same) way.is_best;
      }

      settled_guards : IsSettled c.limit (text_of c.spec) stack.now → (u : PassesOnTree c lists)
          → u.firing ≡ None → IsOnTree c lists u.run
          → IsUnasked Fresh [] v.moves u.run ⊎ D u.run
          → IsUnasked Listed moves v.moves u.run ⊎ D u.run
      settled_guards settled u is on a =
          elim (guards_listed c lists v.moves D [] moves all_there u.run on a) [
            | inl g ↦ g
            | inr e ↦
                (let q : u.place ≡ stands = one_port_place c lists v.moves u.place stands
                (subst (λ x. IsPortRun c lists x u.place) e u.inner.is_run) way.at.node.is_run in
                let p : PassesIn c u.place.situation None =
                subst (λ o. PassesIn c u.place.situation o) is u.passes in
                absurd (p (subst (λ (x : PortPlace). IsSettled c.limit (text_of c.spec)
                x.situation) (sym q) settled)))
          ]

      settled_noted : IsSettled c.limit (text_of c.spec) stack.now → (o : Option Passed)
          → IsNoted c lists (λ y. GoesOn Fresh [] v.moves y ⊎ B y)
          (λ y. IsUnasked Fresh [] v.moves y ⊎ D y) o
          → IsNoted c lists (λ y. GoesOn Listed moves v.moves y ⊎ B y)
          (λ y. IsUnasked Listed moves v.moves y ⊎ D y) o
      settled_noted settled None n = λ u. firing_skip c lists
          (λ y. GoesOn Fresh [] v.moves y ⊎ B y) (λ y. GoesOn Listed moves v.moves y ⊎ B y)
          (λ y. IsUnasked Fresh [] v.moves y ⊎ D y)
          (λ y. IsUnasked Listed moves v.moves y ⊎ D y) listed_skip u u.firing refl
          (λ is on a. settled_guards settled u is on a) (n u)
      settled_noted settled (Some p) n = n

      -- the situation is settled
      pub settled_on : (rest' : Rest) → rest' ≡ rest
          → IsSettled c.limit (text_of c.spec) stack.now
          → IsOnWay c lists stack (with_tries v Listed moves) rest' tried fired best bu passed
      settled_on rest' same settled = listed_with rest' passed same
          (settled_noted settled passed (known_at Fresh fresh none).passes)

      -- it is not, and that is noted where nothing was
      pub unsettled_on : (rest' : Rest) (now : Passed) → rest' ≡ rest → IsPassNoted c lists now
          → IsOnWay c lists stack (with_tries v Listed moves) rest' tried fired best bu
          (option_or passed (Some now))
      unsettled_on rest' now same is = listed_with rest' (option_or passed (Some now)) same
          (noted_first c lists (λ y. GoesOn Fresh [] v.moves y ⊎ B y)
          (λ y. IsUnasked Fresh [] v.moves y ⊎ D y)
          (λ y. GoesOn Listed moves v.moves y ⊎ B y)
          (λ y. IsUnasked Listed moves v.moves y ⊎ D y) passed now is
          (known_at Fresh fresh none).passes)

  -- TRYING

  module _ (t : PortMove) (w : View PortMove PortMove) (next : IsNext v t w) where
    abbrev pub after_next : View PortMove PortMove
    after_next = view_next c lists stack v rest way.at t w next

    abbrev rest_here : List PortMove
    rest_here = after c lists stack v rest way.at t w next

    abbrev z : List PortMove
    z = t ∷ v.moves

    abbrev E : List PortMove → Type 0
    E = IsBelow GoesOn v.lower v.moves (drop next.left next.tries)

    abbrev F : List PortMove → Type 0
    F = IsBelow IsUnasked v.lower v.moves (drop next.left next.tries)

    staged_here : v.stage ≡ Listed
    staged_here = staged c lists stack v rest way.at t w next

    once_here : IsIn t rest_here → ⊥
    once_here = (opened c lists stack v rest way.at t w next).apart.0

    apart_here : (y : List PortMove) → StartsWith y v.moves → E y → ⊥
    apart_here = subst (λ d. (y : List PortMove) → StartsWith y v.moves
        → IsBelow GoesOn v.lower v.moves d y → ⊥) (others_are c lists stack v rest way.at t w next)
        (all_apart c lists stack v rest way.at)

    pub is_trial : IsPortTrial c lists z
    is_trial = trial c lists stack v rest way.at t w next

    -- what is known, by the move and those after it
    abbrev KnownHere : Type 0
    KnownHere = KnowsBy c lists v v.stage (t ∷ rest_here) (drop next.left next.tries) tried fired
        best.yields passed

    known_here : KnownHere
    known_here =
        subst (λ d. KnowsBy c lists v v.stage (t ∷ rest_here) d tried fired best.yields passed)
        (others_are c lists stack v rest way.at t w next)
        (subst (λ m. KnowsBy c lists v v.stage m left_below tried fired best.yields passed)
        (mine_is c lists stack v rest way.at t w next) way.knows)

    abbrev P : List PortMove → Type 0
    P y = GoesOn v.stage (t ∷ rest_here) v.moves y ⊎ E y

    abbrev G : List PortMove → Type 0
    G y = IsUnasked v.stage (t ∷ rest_here) v.moves y ⊎ F y

    abbrev Off : List PortMove → Type 0
    Off y = GoesOn v.stage rest_here v.moves y ⊎ E y

    abbrev GuardsOff : List PortMove → Type 0
    GuardsOff y = IsUnasked v.stage rest_here v.moves y ⊎ F y

    abbrev On : List PortMove → Type 0
    On y = GoesOn Fresh (take 0 next.tries) z y
        ⊎ (GoesOn Listed rest_here v.moves y ⊎ E y)

    abbrev GuardsGoOn : List PortMove → Type 0
    GuardsGoOn y = IsUnasked Fresh (take 0 next.tries) z y
        ⊎ (IsUnasked Listed rest_here v.moves y ⊎ F y)

    fire_trial : (f : Firing) → t ≡ Fire f → IsFiringTrial c lists z
    fire_trial f e = subst (λ x. IsFiringTrial c lists (x ∷ v.moves)) (sym e)
        (subst (λ x. IsPortTrial c lists (x ∷ v.moves)) e is_trial)

    counted_by : (P' : List PortMove → Type 0) → Turn c lists P P' z → (m : PortMove) → t ≡ m
        → (fired' : ℕ) → IsCounted m fired fired'
        → KnowsFirings c lists (z ∷ known_here.trials.trials) fired'
    counted_by P' turn (TakeAt port) e fired' is =
        subst (λ n. KnowsFirings c lists (z ∷ known_here.trials.trials) n) (sym is)
        (takes_more c lists P P' G G z turn known_here.trials.trials fired
        known_here.trials.firings)
    counted_by P' turn Pass e fired' is =
        subst (λ n. KnowsFirings c lists (z ∷ known_here.trials.trials) n) (sym is)
        (takes_more c lists P P' G G z turn known_here.trials.trials fired
        known_here.trials.firings)
    counted_by P' turn (Fire f) e fired' is =
        subst (λ n. KnowsFirings c lists (z ∷ known_here.trials.trials) n) (sym is)
        (firings_more c lists P P' G G z turn tried fired (fire_trial f e) known_here.trials)

    going : Turn c lists P On z
    going = turn_on c lists v.moves E v.stage t rest_here staged_here once_here
        (take 0 next.tries) apart_here

    -- the budget is used up
    pub over_budget : HasMany (IsPortTrial c lists) (tried + 1)
    over_budget = one_more c lists P On G GuardsGoOn z going tried fired is_trial
        known_here.trials

    -- so many firings were tried, with this one
    pub many_fired : (fired' : ℕ) → IsCounted t fired fired'
        → HasMany (IsFiringTrial c lists) fired'
    many_fired fired' is = firings_many c lists (z ∷ known_here.trials.trials) fired'
        (counted_by On going t refl fired' is)

    -- IT DOES NOT LEAD ON

    module _ (off : IsOnTree c lists z → ⊥) where
      gone : Turn c lists P Off z
      gone = turn_off c lists v.moves E v.stage t rest_here staged_here once_here off apart_here

      off_with : (rest' : Rest) (fired' : ℕ) (best' : Best PortMove) (bu' : Best Used)
          (passed' : Option Passed) → used_of rest' ≡ used_of rest
          → Stands lists rest' way.at.node.left way.at.node.events → IsCounted t fired fired'
          → best.yields ≤ best'.yields
          → ((j : ℕ) → PortYields c lists z j → j ≤ best'.yields)
          → IsBest c lists v.moves (used_of rest') best' bu' → IsNoted c lists Off GuardsOff passed'
          → IsOnWay c lists stack after_next rest' (tried + 1) fired' best' bu' passed'
      off_with rest' fired' best' bu' passed' used stand counted le few b noted = record {
        at = at_next c lists stack v rest way.at t w next rest' used stand;
        knows = knows_turn c lists P Off G GuardsOff z gone tried fired fired' best.yields
            best'.yields passed passed' is_trial (λ u. off (u.place, u.is_run)) le few known_here
            (counted_by Off gone t refl fired' counted) noted;
        is_best = b;
      }

      -- and does not pass its limit
      pub off_quiet : (rest' : Rest) (fired' : ℕ) (best' : Best PortMove) (bu' : Best Used)
          → used_of rest' ≡ used_of rest
          → Stands lists rest' way.at.node.left way.at.node.events → IsCounted t fired fired'
          → best.yields ≤ best'.yields
          → ((j : ℕ) → PortYields c lists z j → j ≤ best'.yields)
          → IsBest c lists v.moves (used_of rest') best' bu'
          → ((u : PassesOnTree c lists) (f : Firing) → u.firing ≡ Some f → Fire f ∷ u.run ≡ z → ⊥)
          → IsOnWay c lists stack after_next rest' (tried + 1) fired' best' bu' passed
      off_quiet rest' fired' best' bu' used stand counted le few b never =
          off_with rest' fired' best' bu' passed used stand counted le few b
          (noted_on c lists P Off G GuardsOff z gone
          (guards_off c lists v.moves F v.stage t rest_here staged_here once_here off) never passed
          known_here.passes)

      -- or does, and that is noted where nothing was
      pub off_noted : (rest' : Rest) (fired' : ℕ) (best' : Best PortMove) (bu' : Best Used)
          (now : Passed) → used_of rest' ≡ used_of rest
          → Stands lists rest' way.at.node.left way.at.node.events → IsCounted t fired fired'
          → best.yields ≤ best'.yields
          → ((j : ℕ) → PortYields c lists z j → j ≤ best'.yields)
          → IsBest c lists v.moves (used_of rest') best' bu' → IsPassNoted c lists now
          → IsOnWay c lists stack after_next rest' (tried + 1) fired' best' bu'
          (option_or passed (Some now))
      off_noted rest' fired' best' bu' now used stand counted le few b is =
          off_with rest' fired' best' bu' (option_or passed (Some now)) used stand counted le few b
          (noted_first c lists P G Off GuardsOff passed now is known_here.passes)

    -- IT LEADS ON

    module _ (s : Situation) (matched silent k : ℕ) (events : List Event) (left : Left)
        (run : IsPortRun c lists z (place_at s
        (record { matched = matched; silent = silent; left = 0 }) events left))
        (rest' : Rest) (front : List Used) (used : used_of rest' ≡ front ++ used_of rest)
        (more : length front ≡ k) (matched_is : matched ≡ v.top.matched + k)
        (count : length events ≡ matched) (stand : Stands lists rest' left events)
        (open_left : IsAllUsed left → ⊥) where
      abbrev q : PortPlace
      q = place_at s (record { matched = matched; silent = silent; left = 0 }) events left

      abbrev on_node : IsNode c lists (used_of rest') z s
          (record { matched = matched; silent = silent; left = 0 })
      on_node = record {
        events = events;
        left = left;
        is_run = run;
        uses = stands_up lists rest' left events stand;
        height =
            (let n : length (used_of rest') ≡ length front + length (used_of rest) =
            ap length used ∙ length-append front (used_of rest) in
            let m = way.at.node.height in
            omega arith);
        count = count;
        unfinished = open_left;
      }

      pub on_entered : (fired' : ℕ) (best' : Best PortMove) (bu' : Best Used)
          → IsCounted t fired fired' → best.yields ≤ best'.yields
          → ((j : ℕ) → PortYields c lists z j → j ≤ best'.yields)
          → IsBest c lists z (used_of rest') best' bu'
          → ((u : PassesOnTree c lists) (f : Firing) → u.firing ≡ Some f → Fire f ∷ u.run ≡ z → ⊥)
          → IsOnWay c lists (pushed s stack) (entered after_next t matched silent) rest'
          (tried + 1) fired' best' bu' passed
      on_entered fired' best' bu' counted le few b never = record {
        at = at_entered c lists stack v rest way.at t w next rest' s matched silent (front, used)
            on_node stand;
        knows = knows_turn c lists P On G GuardsGoOn z going tried fired fired' best.yields
            best'.yields passed passed is_trial
            (λ u. open_left (subst (λ (x : PortPlace). IsAllUsed x.left)
            (one_port_place c lists z u.place q u.is_run run) u.all_used)) le few known_here
            (counted_by On going t refl fired' counted)
            (noted_on c lists P On G GuardsGoOn z going
            (guards_on c lists v.moves F v.stage t rest_here staged_here once_here
            (take 0 next.tries)) never passed known_here.passes);
        is_best = b;
      }

  -- BACK

  module _ (listed : v.stage ≡ Listed) (none : left_here ≡ []) where
    below_known : Knows c lists (IsBelow GoesOn v.lower v.moves v.tries)
        (IsBelow IsUnasked v.lower v.moves v.tries) tried fired best.yields passed
    below_known =
        let B = IsBelow GoesOn v.lower v.moves v.tries in
        let D = IsBelow IsUnasked v.lower v.moves v.tries in
        knows_skip c lists (λ y. GoesOn Listed [] v.moves y ⊎ B y) B
        (λ y. IsUnasked Listed [] v.moves y ⊎ D y) D (skip_back c lists v.moves B)
        (guards_back c lists v.moves D) tried fired best.yields passed (known_at Listed listed none)

    pub back_on : (made : PortMove) (w : View PortMove PortMove) (undone : IsUndone v made w)
        (stack' : Stack) (back : stack ≡ pushed stack.now stack') (rest' : Rest)
        (best' : Best PortMove) (bu' : Best Used) (height : ℕ) → height ≡ length w.moves
        → HasKept best best' height made → KeepsBest bu (used_of rest) bu' (used_of rest')
        → used_of rest' ≡ lower w.top.matched (used_of rest)
        → ((below : Left) (events : List Event)
        → HasUsedUp lists (lower w.top.matched (used_of rest)) below events
        → Stands lists rest' below events)
        → IsOnWay c lists stack' w rest' tried fired best' bu' passed
    back_on made w undone stack' back rest' best' bu' height height_is kept keeps used stand =
        let there = lower_there c lists stack v rest way.at made w undone stack' back none in
        let uses = uses_back c lists stack v rest way.at made w undone stack' back none in
        let b : IsBest c lists (made ∷ w.moves) (used_of rest) best bu =
        subst (λ h. IsBest c lists h (used_of rest) best bu) undone.moves way.is_best in
        let k1 = subst (λ ts. Knows c lists (IsBelow GoesOn v.lower v.moves ts)
        (IsBelow IsUnasked v.lower v.moves ts) tried fired best.yields passed) (sym undone.tries)
        below_known in
        let k2 = subst (λ h. Knows c lists (IsBelow GoesOn v.lower h w.tries)
        (IsBelow IsUnasked v.lower h w.tries) tried fired best.yields passed) undone.moves k1 in
        let stage : w.stage ≡ Listed = undone.stage ∙ listed in
        let k3 = subst (λ ls. Knows c lists (IsBelow GoesOn ls (made ∷ w.moves) w.tries)
        (IsBelow IsUnasked ls (made ∷ w.moves) w.tries) tried fired best.yields passed)
        undone.lower k2 in
        record {
          at = at_back c lists stack v rest way.at made w undone stack' back none rest' used
              (stand there.2.left there.2.events uses) stage;
          knows = subst (λ n. Knows c lists (IsAhead w) (AreGuardsAhead w) tried fired n passed)
              (sym (yields_kept best best' height made kept))
              (subst (λ x. Knows c lists
              (λ y. GoesOn x (take w.top.left w.tries) w.moves y
              ⊎ IsBelow GoesOn w.lower w.moves (drop w.top.left w.tries) y)
              (λ y. IsUnasked x (take w.top.left w.tries) w.moves y
              ⊎ IsBelow IsUnasked w.lower w.moves (drop w.top.left w.tries) y) tried fired
              best.yields passed) (sym stage) k3);
          is_best = best_back c lists w.moves (used_of rest) (used_of rest') best' bu bu' keeps
              (best_undone c lists made w.moves (used_of rest) best best' bu height height_is kept
              b);
        }

    -- nothing is left
    pub all_done : (v.lower ≡ []) ⊎ (v.moves ≡ [])
        → Knows c lists (λ x. ⊥) (λ x. ⊥) tried fired best.yields passed
        × IsBest c lists [] (used_of rest) best bu
    all_done end =
        let no : v.moves ≡ [] = elim end [
          | inl e ↦ no_moves c lists (used_of rest) v.moves stack.below left_below
              (subst (λ ls. AreLower c lists (used_of rest) ls v.moves stack.below left_below) e
              way.at.lower)
          | inr e ↦ e
        ] in
        let b = subst (λ h. IsBest c lists h (used_of rest) best bu) no way.is_best in
        let k = subst (λ h. Knows c lists (IsBelow GoesOn v.lower h v.tries)
        (IsBelow IsUnasked v.lower h v.tries) tried fired best.yields passed) no below_known in
        (none_known c lists v.lower v.tries tried fired best.yields passed k, b)
