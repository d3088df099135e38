-- What firings and events keep, holds in each situation of a run.
use Rattle.std.proofs.Common.{◌≡◌, sym, subst, arith, ℕ, ◌≤◌, List, [], ◌∷◌, Some, None}
use Rattle.std.proofs.Common.{false, inl, inr}
use Rattle.std.specs.Prelude.{◌⊎◌}
use Rattle.mean_blocks.specs.Outcome.{Done}
use Rattle.mean_blocks.specs.TextByPlace.{Text, text_of}
use Rattle.mean_blocks.specs.GlobalSituation.{Situation}
use Rattle.mean_blocks.specs.StartMeaning.{start_before}
use Rattle.est_meaning.specs.declared.event.Event.{Event}
use Rattle.est_meaning.specs.declared.firing.Firing.{Firing}
use Rattle.est_meaning.specs.DelayStamps.{restamped, is_fired}
use Rattle.est_meaning.specs.OutsideEvents.{after_event}
use Rattle.est_meaning.specs.FiringSteps.{outcome, start_of}
use Rattle.est_meaning.specs.SelectionLaws.{HasStamps}
use Rattle.est_meaning.proofs.Outside.{events_are_outside}
use Rattle.est_meaning.proofs.Stamps.{stamps_stand}
use Rattle.est_meaning.proofs.StampTimes.{stamps_are_of_their_time}
use Rattle.est_meaning.proofs.Steps.{OnNext, firings_are_orderly}
use Rattle.est_meaning.specs.declared.run.Move.{Move}
use Rattle.est_meaning.specs.declared.run.Move.TheVariants.{Take, Fire}
use Rattle.est_meaning.specs.Run.{Setup, Place, IsBegun, IsRun}
use Rattle.est_meaning.proofs.RunRows.{rows_in_order}
use Rattle.law_runs.specs.StepItems.{IsCounted}
use Rattle.law_runs.proofs.CountedSteps.{starts_counted, counts_go_on}
use Rattle.law_runs.specs.OrderLaws.{IsOneTree}
use Rattle.law_runs.specs.RunOrder.{BeginsWithInit, RunsStayOrderly, StampsArePast}
use Rattle.law_runs.specs.RunOrder.{RunsStampInTime, RunsHaveTheirStamps, RunsAreCounted}
use Rattle.law_runs.proofs.ClimbsEnd.{climbs_end}
use Rattle.law_runs.proofs.GoodDelays.{good_delays_await_nothing}
use Rattle.law_runs.proofs.OrderlyStart.{start_tree}
use Rattle.law_runs.proofs.OrderlySteps.{restamped_orderly, finished_next, firings_stay_orderly}
use Rattle.law_runs.proofs.OrderlySteps.{events_stay_orderly}

-- a property that the start has, and that firings and events keep, holds in each situation
module _ (c : Setup) (P : Situation → Type 0)
    (start : IsBegun c → P c.start)
    (events : (s : Situation) (e : Event) → P s → P (after_event (text_of c.spec) s e))
    (firings : (s next : Situation) (f : Firing) (outs : List Event)
    → outcome c.limit (text_of c.spec) s f ≡ Done outs next → P s → P next) where
  pub in_each : (run : List Move) (p : Place) → IsBegun c → IsRun c run p → P p.situation
  in_each [] p begun r = subst (λ (w : Place). P w.situation) (sym r) (start begun)
  in_each (Take ∷ h) p begun r = subst (λ (w : Place). P w.situation) (sym r.2.leads)
      (events r.0.situation r.2.event (in_each h r.0 begun r.1))
  in_each (Fire f ∷ h) p begun r = subst (λ (w : Place). P w.situation) (sym r.2.leads)
      (firings r.0.situation r.2.situation f r.2.outs r.2.step.done (in_each h r.0 begun r.1))

-- ORDER

restamped_tree : (limit : ℕ) (t : Text) (u : Situation) → IsOneTree u
    → IsOneTree (restamped limit t None u)
restamped_tree limit t u h = record {
  order = restamped_orderly limit t None u h.order;
  root = record { alive = h.root.alive; alone = h.root.alone };
}

pub start_next : (c : Setup) → BeginsWithInit c.spec
    → OnNext IsOneTree (start_of c.limit (text_of c.spec))
unfolding start_of
start_next c h = let t = text_of c.spec in
    finished_next t (restamped c.limit t None) IsOneTree IsOneTree (start_before t c.limit)
    (restamped_tree c.limit t) (start_tree t c.limit h.0 h.1 h.2 h.3 h.4)

runs_one_tree : (c : Setup) (run : List Move) (p : Place) → BeginsWithInit c.spec → IsBegun c
    → IsRun c run p → IsOneTree p.situation
runs_one_tree c run p first begun r =
    in_each c IsOneTree (λ e. subst (OnNext IsOneTree) e (start_next c first))
    (λ s e h. events_stay_orderly (text_of c.spec) s e h)
    (λ s next f outs e h. firings_stay_orderly.tree c.limit (text_of c.spec) s next f outs e h)
    run p begun r

pub runs_stay_orderly : RunsStayOrderly
runs_stay_orderly c run p first begun r =
    let tree = runs_one_tree c run p first begun r in
    record {
      tree = tree;
      connections = (rows_in_order c run p begun r).connections;
      climbs = λ q. climbs_end (text_of c.spec) p.situation q tree.order.age;
    }

-- ITEMS

pub runs_are_counted : RunsAreCounted
runs_are_counted c run p begun r = let t = text_of c.spec in
    in_each c IsCounted (λ e. starts_counted c.limit t c.start c.start_outs e)
    (λ s e h. counts_go_on.event t s e h)
    (λ s next f outs e h. counts_go_on.firing c.limit t s next f outs e h) run p begun r

-- STAMPS

start_past : (c : Setup) → IsBegun c → StampsArePast c.start
start_past c begun k n e = let z = stamps_are_of_their_time.start c.limit (text_of c.spec) c.start
    c.start_outs k n begun e in omega (arith, z)

event_past : (t : Text) (s : Situation) (e : Event) → StampsArePast s
    → StampsArePast (after_event t s e)
event_past t s e h k n g =
    let a = h k n (subst (λ m. m k ≡ Some n) (events_are_outside.leaves t s e).stamps g) in
    let b = events_are_outside.clock t s e in omega (arith, a, b)

firing_past : (limit : ℕ) (t : Text) (s next : Situation) (f : Firing) (outs : List Event)
    → outcome limit t s f ≡ Done outs next → StampsArePast s → StampsArePast next
firing_past limit t s next f outs e h k n g =
    let b = (firings_are_orderly.goes_over limit t s next f outs e).clock in
    one b (stamps_are_of_their_time.firing limit t s next f outs k n e g)
  where
    one : next.clock ≡ s.clock
        → (n ≡ s.clock) ⊎ ((s.stamps k ≡ Some n) × (is_fired (Some f) k ≡ false)) → n ≤ next.clock
    one b (inl z) = omega (arith, b, z)
    one b (inr i) = let a = h k n i.0 in omega (arith, a, b)

pub runs_stamp_in_time : RunsStampInTime
runs_stamp_in_time c run p begun r = in_each c StampsArePast (start_past c)
    (event_past (text_of c.spec)) (firing_past c.limit (text_of c.spec)) run p begun r

pub runs_have_their_stamps : RunsHaveTheirStamps
runs_have_their_stamps c run p good begun r = let t = text_of c.spec in
    let d = good_delays_await_nothing c.spec good in
    in_each c (HasStamps c.limit t)
    (λ e. stamps_stand.start c.limit t c.start c.start_outs e)
    (λ s e h. stamps_stand.event c.limit t s e d h)
    (λ s next f outs e h. stamps_stand.firing c.limit t s next f outs e) run p begun r
