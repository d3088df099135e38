-- A walk that goes on by a move, as the code says it.
use Rattle.std.proofs.Common.{◌≡◌, ℕ, ◌+◌, ◌≤◌, List, ◌∷◌, ◌++◌, Option, Some, length, reverse}
use Rattle.std.proofs.Common.{refl, sym, ap, subst, ◌∙◌, arith}
use Rattle.std.proofs.lemmas.List.{length-reverse}
use Rattle.est_meaning.proofs.OrderLaws.{starts_one}
use Rattle.est_meaning.specs.Order.{StartsWith}
use Rattle.est_meaning.specs.Run.{Setup}
use Rattle.est_meaning.specs.SituationStacks.{Stack, pushed}
use Rattle.est_meaning.specs.declared.event.Event.{Event}
use Rattle.est_meaning.specs.declared.firing.Firing.{Firing}
use Rattle.est_meaning.specs.mean_blocks.GlobalSituation.{Situation}
use Rattle.mean_ports.specs.declared.lists.PortLists.{PortLists}
use Rattle.mean_ports.specs.declared.moves.PortMove.{PortMove}
use Rattle.mean_ports.specs.declared.moves.PortMove.TheVariants.{Fire}
use Rattle.mean_ports.specs.HowMany.{HasMany}
use Rattle.mean_ports.specs.PortRuns.{Left, IsPortRun, IsAllUsed}
use Rattle.mean_ports.specs.PortTrials.{IsFiringTrial, PassesOnTree}
use Rattle.mean_ports.specs.PortYields.{PortYields}
use Rattle.run_paths.specs.declared.path.Best.{Best}
use Rattle.run_paths.specs.Paths.{View, view_of, entered, IsNext, HasReached}
use Rattle.est_ports.specs.declared.left.Used.{Used}
use Rattle.est_ports.specs.declared.left.Rest.{Rest}
use Rattle.est_ports.specs.declared.walk.Passed.{Passed}
use Rattle.est_ports.specs.declared.walk.Walk.{Walk}
use Rattle.est_ports.specs.declared.walk.Step.{Step}
use Rattle.est_ports.specs.declared.walk.Step.TheVariants.{Going, Accepting, Over, Done}
use Rattle.est_ports.specs.inside.Leftover.{HasUsedUp, Stands, used_of}
use Rattle.est_ports.specs.inside.Standing.{place_at, HasFront, of_run, IsBest}
use Rattle.est_ports.specs.inside.Walk.{IsOnWay, HasRaised, HasGoneOn, IsEnd, StepIs, Accepts}
use Rattle.est_ports.proofs.BestLaws.{stands_up, best_raised, raised_most}
use Rattle.est_ports.proofs.CallLaws.{made_many, on_way_by}
use Rattle.est_ports.proofs.StepLaws.{IsCounted, after_next, many_fired, on_entered}

module _ (c : Setup) (lists : PortLists) (stack : Stack) (v : View PortMove PortMove) (rest : Rest)
    (tried fired : ℕ) (best : Best PortMove) (bu : Best Used) (passed : Option Passed)
    (way : IsOnWay c lists stack v rest tried fired best bu passed) (t : PortMove)
    (w : View PortMove PortMove) (next : IsNext v t w) (pre : Walk) (path_is : view_of pre.path ≡ w)
    (tried_is : pre.tried ≡ tried + 1) (best_is : pre.best ≡ best) (bu_is : pre.best_used ≡ bu)
    (passed_is : pre.passed ≡ passed) where
  made_is : length pre.path.moves.items ≡ length v.moves
  made_is = made_many pre.path
      ∙ ap (λ (x : View PortMove PortMove). length x.moves) (path_is ∙ next.next_is)

  module _ (mid : Walk) (k : ℕ) (r : HasRaised pre mid t k) where
    reached : HasReached best mid.best (length pre.path.moves.items) t k
    reached = subst (λ b. HasReached b mid.best (length pre.path.moves.items) t k) best_is r.best

    pub raised_le : (best.yields ≤ mid.best.yields) × (k ≤ mid.best.yields)
    raised_le = raised_most c lists best mid.best (length pre.path.moves.items) k t reached

    pub raised : (more : List PortMove) (front : List Used) (left : Left) (events : List Event)
        → StartsWith more v.moves → used_of pre.rest ≡ front ++ used_of rest
        → HasUsedUp lists (used_of pre.rest) left events → HasFront c lists (t ∷ v.moves) events
        → length events ≡ k → IsBest c lists more (used_of pre.rest) mid.best mid.best_used
    raised more front left events starts used uses has count =
        let same : best.yields ≡ pre.best.yields =
        ap (λ (b : Best PortMove). b.yields) (sym best_is) in
        let all : length pre.rest.used.items ≡ length (front ++ used_of rest) =
        sym (length-reverse pre.rest.used.items) ∙ ap length used in
        subst (λ u. IsBest c lists more u mid.best mid.best_used) (sym used)
        (best_raised c lists v.moves more t (used_of rest) front best mid.best bu mid.best_used
        (length pre.path.moves.items) k left events starts made_is reached
        (λ le. r.less (omega arith) ∙ bu_is)
        (λ lt. (let m = r.more (omega arith) in (m.0 ∙ all, m.1)))
        (subst (λ u. HasUsedUp lists u left events) used uses) has count way.is_best)

  module _ (s : Situation) (matched silent k : ℕ) (events : List Event) (left : Left)
      (run : IsPortRun c lists (t ∷ v.moves) (place_at s
      (record { matched = matched; silent = silent; left = 0 }) events left))
      (front : List Used) (used : used_of pre.rest ≡ front ++ used_of rest)
      (more : length front ≡ k) (matched_is : matched ≡ v.top.matched + k)
      (count : length events ≡ matched) (stand : Stands lists pre.rest left events)
      (few : (j : ℕ) → PortYields c lists (t ∷ v.moves) j → j ≤ matched)
      (never : (u : PassesOnTree c lists) (f : Firing) → u.firing ≡ Some f
      → Fire f ∷ u.run ≡ t ∷ v.moves → ⊥) (counted : IsCounted t fired pre.fired)
      (new : Walk) (step : Step) (g : HasGoneOn lists pre new t matched silent step) where
    view_is : view_of new.path ≡ entered (after_next c lists stack v rest tried fired best bu passed
        way t w next) t matched silent
    view_is = g.path ∙ ap (λ x. entered x t matched silent) (path_is ∙ next.next_is)

    rest_is : new.rest ≡ pre.rest
    rest_is = ap (λ (x : Walk). x.rest) g.others ∙ ap (λ (x : Walk). x.rest) g.raised.others

    fired_is : new.fired ≡ pre.fired
    fired_is = ap (λ (x : Walk). x.fired) g.others ∙ ap (λ (x : Walk). x.fired) g.raised.others

    best_now : IsBest c lists (t ∷ v.moves) (used_of pre.rest) g.mid.best g.mid.best_used
    best_now = raised g.mid matched g.raised (t ∷ v.moves) front left events (starts_one t v.moves)
        used (stands_up lists pre.rest left events stand) (of_run (place_at s
        (record { matched = matched; silent = silent; left = 0 }) events left) run refl) count

    going : (IsAllUsed left → ⊥) → StepIs c lists (pushed s stack) Going new
    going open_left =
        let le = raised_le g.mid matched g.raised in
        let a = le.0 in
        let b = le.1 in
        on_way_by c lists (pushed s stack) (pushed s stack) new
        (entered (after_next c lists stack v rest tried fired best bu passed way t w next) t matched
        silent) pre.rest (tried + 1) pre.fired g.mid.best g.mid.best_used passed refl view_is
        rest_is
        (ap (λ (x : Walk). x.tried) g.others ∙ ap (λ (x : Walk). x.tried) g.raised.others
        ∙ tried_is) fired_is (ap (λ (x : Walk). x.best) g.others)
        (ap (λ (x : Walk). x.best_used) g.others)
        (ap (λ (x : Walk). x.passed) g.others ∙ ap (λ (x : Walk). x.passed) g.raised.others
        ∙ passed_is)
        (on_entered c lists stack v rest tried fired best bu passed way t w next s matched silent k
        events left run pre.rest front used more matched_is count stand open_left pre.fired
        g.mid.best g.mid.best_used counted a (λ j y. (let n = few j y in omega arith)) best_now
        never)

    accepting : IsAllUsed left → StepIs c lists (pushed s stack) Accepting new
    accepting all =
        let a : Accepts c lists (used_of pre.rest) (t ∷ v.moves) = record {
          place = place_at s (record { matched = matched; silent = silent; left = 0 }) events left;
          is_run = run;
          all_used = all;
          uses = stands_up lists pre.rest left events stand;
        } in
        let moves : reverse new.path.moves.items ≡ t ∷ v.moves =
        ap (λ (x : View PortMove PortMove). x.moves) view_is in (
          subst (λ m. Accepts c lists (used_of new.rest) m) (sym moves)
              (subst (λ (r : Rest). Accepts c lists (used_of r) (t ∷ v.moves)) (sym rest_is) a),
          subst (λ n. HasMany (IsFiringTrial c lists) n) (sym fired_is)
              (many_fired c lists stack v rest tried fired best bu passed way t w next pre.fired
              counted),
        )

    by_step : (x : Step) → IsEnd x left → StepIs c lists (pushed s stack) x new
    by_step Going end = going end
    by_step Accepting end = accepting end
    by_step Over end = absurd end
    by_step Done end = absurd end

    -- what comes of the step
    pub gone_call : (stack' : Stack) → stack' ≡ pushed s stack → StepIs c lists stack' step new
    gone_call stack' same = subst (λ x. StepIs c lists x step new) (sym same)
        (by_step step (g.all_used left events stand))
