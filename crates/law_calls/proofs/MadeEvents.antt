-- Each event of a made trace is fair: drawn, or sent.
use Rattle.std.proofs.Common.{◌≡◌, sym, subst, ℕ, zero, suc, ◌≤◌, arith}
use Rattle.std.proofs.Common.{List, [], ◌∷◌, length, map}
use Rattle.std.specs.List.{All, AllByRecursion}
use Rattle.std.proofs.lemmas.List.{length-map}
use Rattle.rand_core.specs.Stream.{Stream}
use Rattle.est_syntax.specs.Kinds.{maxint}
use Rattle.est_syntax.specs.declared.specification.Spec.{Spec}
use Rattle.rule_declares.specs.PortList.{ports_of}
use Rattle.mean_blocks.specs.TextByPlace.{text_of}
use Rattle.est_meaning.specs.declared.event.Event.{Event}
use Rattle.est_meaning.specs.declared.event.Event.TheVariants as event
use Rattle.est_meaning.specs.declared.trace.Expected.TheVariants.{Known}
use Rattle.est_meaning.specs.Agreement.{AgreeAll}
use Rattle.est_meaning.specs.AllowedEvents.{IsReceivable, IsAllowed, IsAllowedExpected}
use Rattle.est_meaning.specs.AllowedEvents.{IsAllowedTrace, most_events}
use Rattle.est_meaning.specs.RecordedTraces.{Recorded, known_trace}
use Rattle.est_meaning.specs.SelectionLaws.{IsDeparture}
use Rattle.est_meaning.specs.declared.run.Move.{Move}
use Rattle.est_meaning.proofs.AgreementLaws.{agree_self, agree_same}
use Rattle.est_meaning.proofs.Steps.{only_departures}
use Rattle.law_runs.proofs.ParentsOlder.{joined_all}
use Rattle.law_values.specs.SentInteractions.{LeavesAsSent}
use Rattle.law_values.proofs.AllowedDepartures.{given_departures_are_allowed}
use Rattle.law_values.proofs.AllowedDepartures.{explained_traces_send}
use Rattle.run_make.specs.Recipe.{Task, Standing, DrawsOutside, Draws, Leads, first_standing}
use Rattle.run_make.specs.Recipe.{IsMadeTrace, setup_along}
use Rattle.run_make.specs.Recipe as recipe
use Rattle.run_make.proofs.Explaining.{made_explained}
use Rattle.run_make.proofs.Happening.{drawn_arrives}
use Rattle.law_calls.specs.MadeEventLaws.{IsFair, GivesWhatMayBe, MadeTracesAreFair}
use Rattle.law_calls.specs.MadeEventLaws.{MadeEventsAreAllowed, MadeTracesAreAllowed}

-- LISTS

each_of : {A : Type 0} (P : A → Type 0) (xs : List A) → All P xs → AllByRecursion P xs
each_of P [] h = tt
each_of P (x ∷ xs) h =
    (h 0 x (omega arith), each_of P xs (λ k d l. h (suc k) d (omega (arith, l))))

all_of : {A : Type 0} (P : A → Type 0) (xs : List A) → AllByRecursion P xs → All P xs
all_of P [] h k d l = absurd (omega (arith, l))
all_of P (x ∷ xs) h zero d l = h.0
all_of P (x ∷ xs) h (suc k) d l = all_of P xs h.1 k d (omega (arith, l))

mapped : {A : Type 0} (P Q : A → Type 0) (xs : List A) → ((x : A) → P x → Q x)
    → AllByRecursion P xs → AllByRecursion Q xs
mapped P Q [] f h = tt
mapped P Q (x ∷ xs) f h = (f x h.0, mapped P Q xs f h.1)

both_mapped : {A : Type 0} (P Q R : A → Type 0) (xs : List A) → ((x : A) → P x → Q x → R x)
    → AllByRecursion P xs → AllByRecursion Q xs → AllByRecursion R xs
both_mapped P Q R [] f h g = tt
both_mapped P Q R (x ∷ xs) f h g = (f x h.0 g.0, both_mapped P Q R xs f h.1 g.1)

onto : {A B : Type 0} (f : A → B) (P : B → Type 0) (xs : List A)
    → AllByRecursion (λ x. P (f x)) xs → AllByRecursion P (map f xs)
onto f P [] h = tt
onto f P (x ∷ xs) h = (h.0, onto f P xs h.1)

-- a trace of known events that may stand in one, and are not too many, is allowed
pub known_allowed : (spec : Spec) (es : List Event) → AllByRecursion (IsAllowed spec) es
    → length es ≤ most_events → IsAllowedTrace spec (known_trace es)
known_allowed spec es each few = record {
  few = (let n = length-map es Known in omega (arith, few));
  each = all_of (IsAllowedExpected spec) (map Known es)
      (onto Known (IsAllowedExpected spec) es each);
}

-- WHAT IS DRAWN

-- what the outside does is fair
abbrev OutsideFair : Spec → Event → Type 0
OutsideFair spec (event.Arrives i) = IsReceivable spec i
OutsideFair spec (event.Leaves i) = Unit {0}
OutsideFair spec (event.Passes units) = units ≤ maxint

departure_fair : (spec : Spec) (e : Event) → IsDeparture e → OutsideFair spec e
departure_fair spec (event.Arrives i) h = absurd h
departure_fair spec (event.Leaves i) h = tt
departure_fair spec (event.Passes units) h = absurd h

drawn_fair : (spec : Spec) (words left : Stream) (e : Event)
    → DrawsOutside (ports_of spec) words e left → OutsideFair spec e
drawn_fair spec words left e (recipe.arrives w next i drawn draws) =
    drawn_arrives spec w next left i draws
drawn_fair spec words left e (recipe.passes w units drawn draws) =
    let few = draws.units_are in omega arith

module _ (t : Task) where
  -- so is all that happens
  abbrev AreFair : List Event → Type 0
  AreFair es = AllByRecursion (OutsideFair t.spec) es

  sent_fair : (outs : List Event) → All IsDeparture outs → AreFair outs
  sent_fair outs h = mapped IsDeparture (OutsideFair t.spec) outs
      (λ e d. departure_fair t.spec e d) (each_of IsDeparture outs h)

  draw_fair : (p q : Standing) → Draws t p q → AreFair p.events → AreFair q.events
  draw_fair p q (recipe.fires w left f s outs drawn chosen step) h =
      joined_all (OutsideFair t.spec) p.events outs h (sent_fair outs
      (only_departures.firing t.limit (text_of t.spec) p.situation s f outs step.done))
  draw_fair p q (recipe.faults w left f fault drawn chosen faulted) h = h
  draw_fair p q (recipe.happens w next left e drawn held draws) h =
      joined_all (OutsideFair t.spec) p.events (e ∷ []) h
      (drawn_fair t.spec next left e draws, tt)

  draws_fair : (count : ℕ) (p q : Standing) → Leads t count p q → AreFair p.events
      → AreFair q.events
  draws_fair count p q recipe.here h = h
  draws_fair count p q (recipe.further {q = m} leads short draws) h =
      draw_fair m q draws (draws_fair count p m leads h)

-- THE LAWS

fair_by : (spec : Spec) (e : Event) → OutsideFair spec e → LeavesAsSent spec e → IsFair spec e
fair_by spec (event.Arrives i) h g = h
fair_by spec (event.Leaves i) h g = g
fair_by spec (event.Passes units) h g = h

-- the events of the run that is made with a trace are the trace
pub explained_events : (t : Task) (seed count : ℕ) (trace : List Event) (run : List Move)
    (made : IsMadeTrace t seed count (known_trace trace) run)
    → (made_explained t seed count (known_trace trace) run made).explains.place.events ≡ trace
explained_events t seed count trace run made =
    let e = made_explained t seed count (known_trace trace) run made in
    agree_same trace e.explains.place.events e.explains.whole.events

pub made_traces_are_fair : MadeTracesAreFair
made_traces_are_fair t seed count trace run sound made =
    let m = made.makes in
    let h = draws_fair t count (first_standing seed m.start m.outs) made.last m.leads
    (sent_fair t m.outs (only_departures.start t.limit (text_of t.spec) m.start m.outs m.ready))
    in
    let same : made.last.events ≡ trace = agree_same trace made.last.events
    (subst (λ (w : Recorded). AgreeAll w.events made.last.events) (sym made.trace_is)
    (agree_self made.last.events)) in
    let e = made_explained t seed count (known_trace trace) run made in
    let sent = subst (AllByRecursion (LeavesAsSent t.spec)) (explained_events t seed count trace run
    made) (explained_traces_send (setup_along t (known_trace trace) e.start e.outs) _ sound e.ready
    e.explains) in
    both_mapped (OutsideFair t.spec) (LeavesAsSent t.spec) (IsFair t.spec) trace
    (λ x a b. fair_by t.spec x a b) (subst (AllByRecursion (OutsideFair t.spec)) same h) sent

allowed_by : (spec : Spec) (e : Event) → IsFair spec e → GivesWhatMayBe spec e → IsAllowed spec e
allowed_by spec (event.Arrives i) h g = h
allowed_by spec (event.Leaves i) h g = given_departures_are_allowed spec i h (g h)
allowed_by spec (event.Passes units) h g = h

pub made_events_are_allowed : MadeEventsAreAllowed
made_events_are_allowed t seed count trace run sound made given =
    both_mapped (IsFair t.spec) (GivesWhatMayBe t.spec) (IsAllowed t.spec) trace
    (λ x a b. allowed_by t.spec x a b)
    (made_traces_are_fair t seed count trace run sound made) given

pub made_traces_are_allowed : MadeTracesAreAllowed
made_traces_are_allowed t seed count trace run sound made given few =
    known_allowed t.spec trace
    (made_events_are_allowed t seed count trace run sound made given) few
