-- The clock of a run.
use Rattle.std.proofs.Common.{◌≡◌, ◌≤◌, ◌+◌, ◌*◌, ◌^◌, ℕ, suc, List, []}
use Rattle.std.proofs.Common.{◌∷◌, ◌++◌, All, length, refl, ap, ◌∙◌, arith}
use Rattle.est_syntax.specs.declared.specification.Spec.{Spec}
use Rattle.est_syntax.specs.Kinds.{maxint}
use Rattle.mean_blocks.specs.GlobalSituation.{Situation}
use Rattle.mean_blocks.specs.TextByPlace.{Text, text_of}
use Rattle.est_meaning.specs.declared.event.Event.{Event}
use Rattle.est_meaning.specs.declared.event.Event.TheVariants as event
use Rattle.est_meaning.specs.declared.trace.Expected.{Expected}
use Rattle.est_meaning.specs.declared.trace.Expected.TheVariants.{Known, Partly}
use Rattle.est_meaning.specs.Agreement.{Agrees, AgreeAll}
use Rattle.est_meaning.specs.AllowedEvents.{IsAllowedExpected, IsAllowedTrace}
use Rattle.est_meaning.specs.OutsideEvents.{after_event, later, units_of}
use Rattle.est_meaning.specs.RecordedTraces.{Recorded}
use Rattle.est_meaning.proofs.Outside.{events_are_outside}
use Rattle.est_meaning.proofs.Steps.{firings_are_orderly, starts_begin_in_order}
use Rattle.est_meaning.specs.declared.run.Move.{Move}
use Rattle.est_meaning.specs.declared.run.Move.TheVariants.{Take, Fire}
use Rattle.est_meaning.specs.Run.{Setup, Place, IsRun, Takes}
use Rattle.est_meaning.specs.RunLaws.{ClockStaysBounded}

-- passing time is the event of that name
pub after_passing : (t : Text) (s : Situation) (units : ℕ)
    → after_event t s (event.Passes units) ≡ later s units
unfolding after_event
after_passing t s units = refl

-- the time that passes in these events
abbrev pub time_of : List Event → ℕ
time_of [] = 0
time_of (e ∷ es) = units_of e + time_of es

pub time_of-append : (xs ys : List Event) → time_of (xs ++ ys) ≡ time_of xs + time_of ys
time_of-append [] ys = omega arith
time_of-append (x ∷ xs) ys = (let e = time_of-append xs ys in omega arith)

pub units_first : (e : Event) (es : List Event) → units_of e ≤ time_of (e ∷ es)
units_first e es = omega arith

-- the units of time that are expected to pass in an event
abbrev pub units_expected : Expected → ℕ
units_expected (Known e) = units_of e
units_expected (Partly port signal seen) = 0

-- the time that is expected to pass in events
abbrev pub time_expected : List Expected → ℕ
time_expected [] = 0
time_expected (x ∷ xs) = units_expected x + time_expected xs

pub time_expected-append : (xs ys : List Expected)
    → time_expected (xs ++ ys) ≡ time_expected xs + time_expected ys
time_expected-append [] ys = omega arith
time_expected-append (x ∷ xs) ys = (let e = time_expected-append xs ys in omega arith)

-- in an event that agrees as much time passes as is expected
units_agree : (x : Expected) (e : Event) → Agrees x e → units_of e ≡ units_expected x
units_agree (Known x) e a = ap units_of a
units_agree (Partly port signal seen) (event.Arrives i) a = absurd a
units_agree (Partly port signal seen) (event.Leaves i) a = refl
units_agree (Partly port signal seen) (event.Passes units) a = absurd a

-- and so in events that do
time_agrees : (xs : List Expected) (es : List Event) → AgreeAll xs es
    → time_of es ≡ time_expected xs
time_agrees [] [] a = refl
time_agrees [] (e ∷ es) a = absurd a
time_agrees (x ∷ xs) [] a = absurd a
time_agrees (x ∷ xs) (e ∷ es) a =
    let first = units_agree x e a.0 in
    let rest = time_agrees xs es a.1 in
    omega arith

-- the clock of a run is at most the start's and the time of its events
pub clock_of_run : (c : Setup) (h : List Move) (p : Place) → IsRun c h p
    → p.situation.clock ≤ c.start.clock + time_of p.events
clock_of_run c [] p r = (let a : p.situation.clock ≡ c.start.clock =
    ap (λ (w : Place). w.situation.clock) r in omega arith)
clock_of_run c (Take ∷ h) p r =
    let q = r.0 in
    let t = r.2 in
    let before = clock_of_run c h q r.1 in
    let now : p.situation.clock ≡ q.situation.clock + units_of t.event =
    ap (λ (w : Place). w.situation.clock) t.leads
    ∙ events_are_outside.clock (text_of c.spec) q.situation t.event
    in
    let events : time_of p.events ≡ time_of q.events + time_of (t.event ∷ []) =
    ap (λ (w : Place). time_of w.events) t.leads ∙ time_of-append q.events (t.event ∷ []) in
    omega arith
clock_of_run c (Fire f ∷ h) p r =
    let q = r.0 in
    let t = r.2 in
    let before = clock_of_run c h q r.1 in
    let over = firings_are_orderly.goes_over c.limit (text_of c.spec) q.situation t.situation f
    t.outs t.step.done in
    let now : p.situation.clock ≡ q.situation.clock =
    ap (λ (w : Place). w.situation.clock) t.leads ∙ over.clock in
    let events : time_of p.events ≡ time_of q.events + time_of t.outs =
    ap (λ (w : Place). time_of w.events) t.leads ∙ time_of-append q.events t.outs in
    omega arith

-- where the next event is taken, its time fits in that of the trace
pub clock_to_come : (c : Setup) (h : List Move) (p q : Place) → IsRun c h p → (t : Takes c p q)
    → p.situation.clock + units_of t.event ≤ c.start.clock + time_expected c.trace.events
clock_to_come c h p q r t =
    let now = clock_of_run c h p r in
    let same = time_agrees t.front p.events t.agree in
    let whole : time_expected c.trace.events
    ≡ time_expected t.front + time_expected (Known t.event ∷ t.rest) = ap time_expected t.next
    ∙ time_expected-append t.front (Known t.event ∷ t.rest) in
    omega arith

-- no run along a trace brings the clock further than the trace's time
pub clock_within : (c : Setup) (h : List Move) (p : Place) → IsRun c h p
    → p.situation.clock ≤ c.start.clock + time_expected c.trace.events
clock_within c [] p r = (let a : p.situation.clock ≡ c.start.clock =
    ap (λ (w : Place). w.situation.clock) r in omega arith)
clock_within c (Take ∷ h) p r =
    let q = r.0 in
    let t = r.2 in
    let now : p.situation.clock ≡ q.situation.clock + units_of t.event =
    ap (λ (w : Place). w.situation.clock) t.leads
    ∙ events_are_outside.clock (text_of c.spec) q.situation t.event
    in
    let fits = clock_to_come c h q p r.1 t in
    omega arith
clock_within c (Fire f ∷ h) p r =
    let q = r.0 in
    let t = r.2 in
    let before = clock_within c h q r.1 in
    let over = firings_are_orderly.goes_over c.limit (text_of c.spec) q.situation t.situation f
    t.outs t.step.done in
    let now : p.situation.clock ≡ q.situation.clock =
    ap (λ (w : Place). w.situation.clock) t.leads ∙ over.clock in
    omega arith

units_allowed : (spec : Spec) (x : Expected) → IsAllowedExpected spec x → units_expected x ≤ maxint
units_allowed spec (Known (event.Arrives i)) a = omega arith
units_allowed spec (Known (event.Leaves i)) a = omega arith
units_allowed spec (Known (event.Passes units)) a = a
units_allowed spec (Partly port signal seen) a = omega arith

time_allowed : (spec : Spec) (xs : List Expected) → All (IsAllowedExpected spec) xs
    → time_expected xs ≤ maxint * length xs
time_allowed spec [] a = omega arith
time_allowed spec (x ∷ xs) a =
    let first = units_allowed spec x (a 0 x (omega arith)) in
    let rest = time_allowed spec xs (λ k d lt. a (suc k) d (omega arith)) in
    omega arith

-- the time of a trace within its limits
pub time_of_trace : (spec : Spec) (trace : Recorded) → IsAllowedTrace spec trace
    → time_expected trace.events ≤ 10 ^ 15
time_of_trace spec trace a =
    let few = a.few in
    let time = time_allowed spec trace.events a.each in
    omega arith

pub clock_bounded : ClockStaysBounded
clock_bounded c run p begun allowed r =
    let zero_start =
    (starts_begin_in_order c.limit (text_of c.spec) c.start c.start_outs begun).clock in
    let time = time_of_trace c.spec c.trace allowed in
    let within = clock_within c run p r in
    (omega arith, λ q t. (let fits = clock_to_come c run p q r t in omega arith))
