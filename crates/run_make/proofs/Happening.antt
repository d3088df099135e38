-- What the outside does, as the code draws it and puts it down.
use Rattle.std.proofs.Common.{◌≡◌, refl, sym, ap, subst, ◌∙◌, ℕ, ◌+◌, ◌/◌, ◌%◌, ◌<◌, ◌⊎◌}
use Rattle.std.proofs.Common.{inl, inr, arith, IsTrue, List, [], ◌∷◌, ◌++◌, length, reverse}
use Rattle.std.proofs.Common.{slice_get, get_or, Option, Some, None, option_map, Result, Ok, Err}
use Rattle.std.specs.Result.{OnOk}
use Rattle.std.proofs.lemmas.List.{length_push}
use Rattle.std.proofs.lemmas.Option.{same_Some, slice_get-get_or}
use Rattle.rand_core.specs.Stream.{Stream}
use Rattle.est_syntax.specs.declared.specification.Spec.{Spec}
use Rattle.est_syntax.specs.declared.ports.Port.{Port}
use Rattle.est_syntax.specs.declared.ports.Signal.{Signal}
use Rattle.est_meaning.specs.rule_declares.PortList.{ports_of}
use Rattle.est_meaning.specs.mean_blocks.GlobalSituation.{Situation}
use Rattle.est_meaning.specs.mean_blocks.TextByPlace.{text_of}
use Rattle.est_values.specs.declared.value.Value.{Value}
use Rattle.est_meaning.specs.declared.event.Event.{Event}
use Rattle.est_meaning.specs.declared.event.Event.TheVariants as event
use Rattle.est_meaning.specs.declared.event.Interaction.{Interaction}
use Rattle.est_meaning.specs.AllowedEvents.{IsReceivable, IsArrival}
use Rattle.est_meaning.specs.OutsideEvents.{after_event, later}
use Rattle.est_meaning.specs.SituationStacks.{Stack, pushed}
use Rattle.est_meaning.specs.declared.run.Move.{Move}
use Rattle.est_meaning.specs.declared.run.Move.TheVariants.{Take}
use Rattle.est_meaning.proofs.ClockLaws.{after_passing}
use Rattle.run_make.specs.declared.arrivals.Arrival.{Arrival}
use Rattle.run_make.specs.declared.making.Making.{Making}
use Rattle.run_make.specs.Arrivals.{arrivals_of}
use Rattle.run_make.specs.DrawnValues.{DrawsValues}
use Rattle.run_make.specs.Recipe.{DrawsInteraction, DrawsOutside, task_of}
use Rattle.run_make.specs.Recipe as recipe
use Rattle.run_make.specs.Words.{IsDrawn, stream_at}
use Rattle.run_make.specs.inside.Received.{IsReceived}
use Rattle.run_make.specs.inside.Standings.{HasTaken, HasArrived, HasHappened, HasOneMore}
use Rattle.run_make.proofs.DrawnFits.{drawn_fit}
use Rattle.run_make.proofs.Receiving.{is_received}
use Rattle.run_make.proofs.Turning.{standing_with, last_first}

-- RESULTS

-- what is so of a value is so
pub on_ok : {T E P : Type 0} (r : Result T E) → P → OnOk r P
on_ok (Ok v) p = p
on_ok (Err e) p = tt

pub on_ok_map : {T E P Q : Type 0} (r : Result T E) → (P → Q) → OnOk r P → OnOk r Q
on_ok_map (Ok v) f p = f p
on_ok_map (Err e) f p = tt

pub on_ok_both : {T E P Q R : Type 0} (r : Result T E) → (P → Q → R) → OnOk r P → OnOk r Q
    → OnOk r R
on_ok_both (Ok v) f p q = f p q
on_ok_both (Err e) f p q = tt

-- WHAT IS CHOSEN

-- what a port may receive
abbrev signals_in : Option Port → Option (List Signal)
signals_in o = option_map (λ (p : Port). p.signals) o

no_port : (o : Option Port) (p : Port) → o ≡ Some p → None ≡ signals_in o → ⊥
no_port None p is e = cc
no_port (Some q) p is e = cc

signals_same : (o : Option Port) (p : Port) (xs : List Signal) → o ≡ Some p
    → Some xs ≡ signals_in o → xs ≡ p.signals
signals_same None p xs is e = cc
signals_same (Some q) p xs is e =
    let same : q ≡ p = cc in
    let found : xs ≡ q.signals = cc in
    found ∙ ap (λ (x : Port). x.signals) same

list_some : (list : List Arrival) → (list ≡ [] → ⊥) → 0 < length list
list_some [] none = absurd (none refl)
list_some (x ∷ xs) none = omega arith

-- the arrival that a word chooses
pub chosen_arrival : (list : List Arrival) (w : ℕ) (d : Arrival)
    → (((w % 2 ≡ 1) ⊎ (list ≡ [])) → ⊥)
    → slice_get list (w / 2 % length list) ≡ Some (get_or list (w / 2 % length list) d)
chosen_arrival list w d asks =
    let some : 0 < length list = list_some list (λ e. asks (inr e)) in
    let within : w / 2 % length list < length list = omega arith in
    slice_get-get_or list (w / 2 % length list) d within

module _ (ports : List Port) (list : List Arrival) (w : ℕ) (a : Arrival)
    (same : list ≡ arrivals_of ports) (asks : ((w % 2 ≡ 1) ⊎ (list ≡ [])) → ⊥)
    (chosen : slice_get list (w / 2 % length list) ≡ Some a) where
  chosen_is : slice_get (arrivals_of ports) (w / 2 % length (arrivals_of ports)) ≡ Some a
  chosen_is = subst (λ (l : List Arrival). slice_get l (w / 2 % length l) ≡ Some a) same chosen

  chosen_received : IsReceived ports a
  chosen_received = is_received ports _ a chosen_is

  word_even : w % 2 ≡ 0
  word_even = let odd : w % 2 ≡ 1 → ⊥ = λ e. asks (inl e) in omega arith

  -- its port is there
  pub port_there : None ≡ option_map (λ (p : Port). p.signals) (slice_get ports a.port) → ⊥
  port_there none =
      no_port (slice_get ports a.port) chosen_received.port chosen_received.port_is none

  module _ (xs : List Signal)
      (found : Some xs ≡ option_map (λ (p : Port). p.signals) (slice_get ports a.port)) where
    signals_there : xs ≡ chosen_received.port.signals
    signals_there = signals_same (slice_get ports a.port) chosen_received.port xs
        chosen_received.port_is found

    -- and so is its signal
    pub signal_there : None ≡ slice_get xs a.signal → ⊥
    signal_there none =
        let at : slice_get xs a.signal ≡ slice_get chosen_received.port.signals a.signal =
        ap (λ (l : List Signal). slice_get l a.signal) signals_there in
        let is = chosen_received.signal_is in
        cc

    -- with its values it is drawn
    pub interaction_drawn : (s : Signal) (words left : Stream) (vs : List Value)
        → Some s ≡ slice_get xs a.signal → DrawsValues s.kinds words vs left
        → DrawsInteraction ports w words
        (record { port = a.port; signal = a.signal; values = vs }) left
    interaction_drawn s words left vs is drawn = record {
      even = word_even;
      arrival = a;
      chosen = chosen_is;
      port = chosen_received.port;
      port_is = chosen_received.port_is;
      signal = s;
      signal_is = sym (ap (λ (l : List Signal). slice_get l a.signal) signals_there) ∙ sym is;
      values = drawn;
      port_number = refl;
      signal_number = refl;
    }

-- WHAT HAPPENS

-- an interaction that is drawn may arrive
pub drawn_arrives : (spec : Spec) (w : ℕ) (words left : Stream) (i : Interaction)
    → DrawsInteraction (ports_of spec) w words i left → IsArrival spec (event.Arrives i)
unfolding IsReceivable
drawn_arrives spec w words left i d =
    let ports = ports_of spec in
    let r = is_received ports _ d.arrival d.chosen in
    let port : r.port ≡ d.port = same_Some r.port d.port (sym r.port_is ∙ d.port_is) in
    let signal : r.signal ≡ d.signal = same_Some r.signal d.signal (sym r.signal_is
    ∙ ap (λ (x : Port). slice_get x.signals d.arrival.signal) port ∙ d.signal_is) in (
      d.port,
      d.signal,
      record {
        port_is = ap (slice_get ports) d.port_number ∙ d.port_is;
        signal_is = ap (slice_get d.port.signals) d.signal_number ∙ d.signal_is;
        fits = drawn_fit d.signal.kinds words left i.values d.values;
      },
      subst (λ (x : Signal). IsTrue x.receives) signal r.receives,
    )

pub may_arrive : (spec : Spec) (ports : List Port) (w : ℕ) (words left : Stream) (i : Interaction)
    → ports ≡ ports_of spec → DrawsInteraction ports w words i left
    → IsArrival spec (event.Arrives i)
may_arrive spec ports w words left i same d = drawn_arrives spec w words left i
    (subst (λ (l : List Port). DrawsInteraction l w words i left) same d)

-- an event from outside is one event more
pub one_more : (old new : Making) (e : Event) → HasTaken old new e → HasOneMore old new
one_more old new e taken =
    (ap length taken.events ∙ length_push old.events e, taken.idle)

-- time passes
pub time_passed : (stack after : Stack) (units many : ℕ) → many ≡ units
    → after ≡ pushed (later stack.now many) stack → after.now ≡ later stack.now units
time_passed stack after units many same e =
    ap (λ (x : Stack). x.now) e ∙ ap (later stack.now) same

-- an interaction arrives
pub has_arrived : (spec : Spec) (ports : List Port) (w : ℕ) (old mid new : Making)
    (stack after : Stack) (i : Interaction) → mid.run ≡ old.run → mid.events ≡ old.events
    → DrawsInteraction ports w (stream_at old.rng) i (stream_at mid.rng)
    → after ≡ pushed (after_event (text_of spec) stack.now (event.Arrives i)) stack
    → HasTaken mid new (event.Arrives i)
    → HasArrived spec ports w old stack.now new after.now
has_arrived spec ports w old mid new stack after i runs events drawn there taken = record {
  interaction = i;
  draws = subst (λ (s : Stream). DrawsInteraction ports w (stream_at old.rng) i s)
      (sym (ap stream_at taken.rng)) drawn;
  run = taken.run ∙ ap (λ (l : List Move). l ++ Take ∷ []) runs;
  events = taken.events ∙ ap (λ (l : List Event). l ++ event.Arrives i ∷ []) events;
  idle = taken.idle;
  situation = ap (λ (x : Stack). x.now) there;
}

-- an event that is drawn has happened
module _ (limit silent : ℕ) (spec : Spec) (ports : List Port) (old new : Making)
    (s now : Situation) where
  has_happened : (e : Event) → new.run ≡ old.run ++ Take ∷ [] → new.events ≡ old.events ++ e ∷ []
      → new.idle ≡ 0 → now ≡ after_event (text_of spec) s e
      → DrawsOutside ports (stream_at old.rng) e (stream_at new.rng)
      → HasHappened (task_of limit silent spec) ports old s new now
  has_happened e run events idle there draws =
      let run' : reverse new.run ≡ Take ∷ reverse old.run = last_first old.run new.run Take run in
      record {
        event = e;
        draws = draws;
        leads = λ i. standing_with (stream_at new.rng) (run' i) (there i) (events i) (idle i);
      }

  module _ (mid : Making) (w : ℕ) (drawn : IsDrawn (stream_at old.rng) w (stream_at mid.rng))
      (runs : mid.run ≡ old.run) (events : mid.events ≡ old.events) where
    -- time
    pub time_happened : (list : List Arrival) → list ≡ arrivals_of ports
        → (w % 2 ≡ 1) ⊎ (list ≡ []) → HasTaken mid new (event.Passes (w / 2 % 10 + 1))
        → now ≡ later s (w / 2 % 10 + 1)
        → HasHappened (task_of limit silent spec) ports old s new now
    time_happened list same none taken there =
        let units = w / 2 % 10 + 1 in
        let nothing : (w % 2 ≡ 1) ⊎ (arrivals_of ports ≡ []) =
        elim none [ inl odd ↦ inl odd | inr empty ↦ inr (sym same ∙ empty) ] in
        let left : stream_at new.rng ≡ stream_at mid.rng = ap stream_at taken.rng in
        has_happened (event.Passes units)
        (taken.run ∙ ap (λ (l : List Move). l ++ Take ∷ []) runs)
        (taken.events ∙ ap (λ (l : List Event). l ++ event.Passes units ∷ []) events)
        taken.idle (there ∙ sym (after_passing (text_of spec) s units))
        (subst (λ (x : Stream). DrawsOutside ports (stream_at old.rng) (event.Passes units) x)
        (sym left)
        (recipe.passes w units drawn (record { none = nothing; units_are = refl })))

    -- an arrival
    pub arrival_happened : HasArrived spec ports w mid s new now
        → HasHappened (task_of limit silent spec) ports old s new now
    arrival_happened a =
        has_happened (event.Arrives a.interaction)
        (a.run ∙ ap (λ (l : List Move). l ++ Take ∷ []) runs)
        (a.events ∙ ap (λ (l : List Event). l ++ event.Arrives a.interaction ∷ []) events)
        a.idle a.situation (recipe.arrives w (stream_at mid.rng) a.interaction drawn a.draws)
