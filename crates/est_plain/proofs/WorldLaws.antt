-- Moves and starts leave the instances in ascending number; what is told of a situation that is
-- worked on holds of the one that stands.
use Rattle.std.proofs.Common.{◌≡◌, ◌↔◌, sym, subst, ℕ, Bool, IsTrue, IfOk, List, Result, Ok, Err}
use Rattle.est_syntax.specs.declared.specification.Spec.{Spec}
use Rattle.est_meaning.specs.mean_blocks.Outcome.{Done}
use Rattle.est_meaning.specs.mean_blocks.TextByPlace.{Text, text_of}
use Rattle.est_meaning.specs.mean_blocks.GlobalSituation.{Situation}
use Rattle.est_meaning.specs.mean_blocks.KeepingLaws.{AreNumbered}
use Rattle.est_meaning.specs.declared.event.Event.{Event}
use Rattle.est_meaning.specs.declared.firing.Firing.{Firing}
use Rattle.est_meaning.specs.OutsideEvents.{after_event}
use Rattle.est_meaning.specs.FiringSteps.{outcome, start_of}
use Rattle.est_meaning.specs.QuietSituations.{HasDue}
use Rattle.est_meaning.proofs.Steps.{firings_are_orderly, starts_begin_in_order}
use Rattle.est_meaning.proofs.Outside.{events_are_outside}

-- a firing keeps the instances in ascending number
pub next_numbered : (limit : ℕ) (t : Text) (s next : Situation) (f : Firing) (outs : List Event)
    → outcome limit t s f ≡ Done outs next → AreNumbered s → AreNumbered next
next_numbered limit t s next f outs h n =
    (firings_are_orderly.goes_over limit t s next f outs h).numbers n

-- so does an event
pub event_numbered : (t : Text) (s u : Situation) (e : Event) → u ≡ after_event t s e
    → AreNumbered s → AreNumbered u
event_numbered t s u e h n = subst AreNumbered (sym h) (events_are_outside.numbers t s e n)

-- a start begins with them so
pub start_numbered : (limit : ℕ) (t : Text) (s : Situation) (outs : List Event)
    → start_of limit t ≡ Done outs s → AreNumbered s
start_numbered limit t s outs h = (starts_begin_in_order limit t s outs h).numbers

-- whether something is due is told of each specification that has this text
pub due_told : {E : Type 0} (r : Result Bool E) (limit : ℕ) (t : Text) (s now : Situation)
    → s ≡ now → IfOk r (λ due. IsTrue due ↔ HasDue limit t s)
    → IfOk r (λ due. (spec : Spec) → t ≡ text_of spec
    → IsTrue due ↔ HasDue limit (text_of spec) now)
due_told (Ok due) limit t s now same h = λ spec is.
    subst (λ (u : Text). IsTrue due ↔ HasDue limit u now) is
    (subst (λ (u : Situation). IsTrue due ↔ HasDue limit t u) same h)
due_told (Err e) limit t s now same h = tt
