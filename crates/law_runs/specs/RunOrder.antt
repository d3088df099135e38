-- Order, links and stamps in each situation of a run.
use Rattle.std.specs.Prelude.{◌≡◌, ◌≤◌, ◌⊎◌, ℕ, List, Some, None}
use Rattle.std.specs.List.{AllByRecursion}
use Rattle.est_syntax.specs.declared.expression.Access.{Access}
use Rattle.est_syntax.specs.declared.expression.Expr.{Expr}
use Rattle.est_syntax.specs.declared.name.Used.{Used}
use Rattle.est_syntax.specs.declared.specification.Spec.{Spec}
use Rattle.est_syntax.specs.declared.statement.Statement.TheVariants.{Init}
use Rattle.est_check.specs.LeastFault.{IsGood}
use Rattle.mean_blocks.specs.declared.situation.InteractionPoint.{InteractionPoint}
use Rattle.mean_blocks.specs.declared.situation.Item.{Item}
use Rattle.mean_blocks.specs.Outcome.{Done}
use Rattle.mean_blocks.specs.TextByPlace.{Text, text_of}
use Rattle.mean_blocks.specs.GlobalSituation.{Clocked, QueueName, Situation}
use Rattle.mean_blocks.specs.Attachments.{above, up}
use Rattle.mean_blocks.specs.QueueEffects.{queue_of}
use Rattle.mean_blocks.specs.KeepingLaws.{AreMutual}
use Rattle.est_meaning.specs.declared.event.Event.{Event}
use Rattle.est_meaning.specs.declared.firing.Firing.{Firing}
use Rattle.est_meaning.specs.OutsideEvents.{after_event}
use Rattle.est_meaning.specs.FiringSteps.{outcome}
use Rattle.est_meaning.specs.SelectionLaws.{DelaysAwaitNothing, HasStamps}
use Rattle.est_meaning.specs.TransitionSelection.{IsAncestor}
use Rattle.est_meaning.specs.declared.run.Move.{Move}
use Rattle.est_meaning.specs.Run.{Setup, Place, IsBegun, IsRun}
use Rattle.law_runs.specs.StepItems.{IsCounted}
use Rattle.law_runs.specs.OrderLaws.{IsLiving, IsOrderly, IsOneTree}

-- THE ROOT

-- each living instance is the root or descends from it
abbrev pub DescendFromRoot : Situation → Type 0
DescendFromRoot s = (n : ℕ) → IsLiving s.rows n → (n ≡ 1) ⊎ IsAncestor s 1 n

-- in an orderly situation with one root all instances descend from that
abbrev pub OneTreeDescends : Type 0
OneTreeDescends = (s : Situation) → IsOneTree s → DescendFromRoot s

-- STEPS

-- A firing leads from an orderly situation to an orderly one, in which the instance that fired
-- lives. Where there was one root, it lives on as the only one.
pub record FiringsStayOrderly : Type 0 where
  pub order : (limit : ℕ) (t : Text) (s next : Situation) (f : Firing) (outs : List Event)
      → outcome limit t s f ≡ Done outs next → IsOrderly s
      → IsOrderly next × IsLiving next.rows f.instance
  pub tree : (limit : ℕ) (t : Text) (s next : Situation) (f : Firing) (outs : List Event)
      → outcome limit t s f ≡ Done outs next → IsOneTree s → IsOneTree next

-- So does an event: what arrives, arrives at the root, which lives.
abbrev pub EventsStayOrderly : Type 0
EventsStayOrderly = (t : Text) (s : Situation) (e : Event) → IsOneTree s
    → IsOneTree (after_event t s e)

-- RUNS

-- the initialize part of a specification is one `init` (ISO 9074, specification)
abbrev pub BeginsWithInit : Spec → Type 0
BeginsWithInit spec = (target : Access) × (body : Used) × (arguments : List Expr) × (place : ℕ)
    × (spec.first ≡ Init target body arguments place)

-- In an orderly situation with one root connections lead both ways, and each climb along
-- attachments ends at an interaction point that is attached to none of a parent.
pub record StandsInOrder (t : Text) (s : Situation) : Type 0 where
  pub tree : IsOneTree s
  pub connections : AreMutual s.peer
  pub climbs : (p : InteractionPoint) → above t s (up t s p) ≡ None

-- so it is in each situation of a run
abbrev pub RunsStayOrderly : Type 0
RunsStayOrderly = (c : Setup) (run : List Move) (p : Place) → BeginsWithInit c.spec → IsBegun c
    → IsRun c run p → StandsInOrder (text_of c.spec) p.situation

-- ITEMS

-- each item waits in the queue of the interaction point to which it belongs
abbrev pub WaitAtTheirPoints : Text → Situation → Type 0
WaitAtTheirPoints t s = (q : QueueName)
    → AllByRecursion (λ (i : Item). queue_of t i.at ≡ q) (s.queues q)

-- so it does in each situation of a run
abbrev pub ItemsWaitAtTheirPoints : Type 0
ItemsWaitAtTheirPoints = (c : Setup) (run : List Move) (p : Place) → IsBegun c → IsRun c run p
    → WaitAtTheirPoints (text_of c.spec) p.situation

-- in each situation of a run the number of items is that of those which were put, less those which
-- were taken and those which went with their instances
abbrev pub RunsAreCounted : Type 0
RunsAreCounted = (c : Setup) (run : List Move) (p : Place) → IsBegun c → IsRun c run p
    → IsCounted p.situation

-- STAMPS

-- no stamp is later than the clock
abbrev pub StampsArePast : Situation → Type 0
StampsArePast s = (k : Clocked) (n : ℕ) → s.stamps k ≡ Some n → n ≤ s.clock

-- in each situation of a run no stamp is later than the clock
abbrev pub RunsStampInTime : Type 0
RunsStampInTime = (c : Setup) (run : List Move) (p : Place) → IsBegun c → IsRun c run p
    → StampsArePast p.situation

-- no transition with a delay awaits an interaction, where no rule is broken
abbrev pub GoodDelaysAwaitNothing : Type 0
GoodDelaysAwaitNothing = (spec : Spec) → IsGood spec → DelaysAwaitNothing (text_of spec)

-- In each situation of a run of a specification that breaks no rule a stamp stands exactly where a
-- transition with a delay is enabled.
abbrev pub RunsHaveTheirStamps : Type 0
RunsHaveTheirStamps = (c : Setup) (run : List Move) (p : Place) → IsGood c.spec → IsBegun c
    → IsRun c run p → HasStamps c.limit (text_of c.spec) p.situation
