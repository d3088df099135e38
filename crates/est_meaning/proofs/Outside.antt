-- What the outside does.
use Rattle.std.proofs.Common.{◌≡◌, refl, sym, subst, ap, ◌∙◌, arith, ℕ, ◌+◌, Bool, true}
use Rattle.std.proofs.Common.{List, [], ◌∷◌, Option, Some, None, nat_eq, ◌≤◌}
use Rattle.std.proofs.lemmas.Bool.{eqb-true}
use Rattle.std.proofs.lemmas.List.Quantifiers.{position-Some}
use Rattle.std.proofs.lemmas.Option.{slice_get-get_or}
use Rattle.std.specs.Prelude.{slice_get, slice_index_or, option_and_then}
use Rattle.std.specs.List.{position}
use Rattle.std.specs.Option.{option_map, option_map_or}
use Rattle.est_syntax.specs.declared.ports.Port.{Port}
use Rattle.est_syntax.specs.declared.ports.Signal.{Signal}
use Rattle.mean_blocks.specs.rule_scope.declared.declaration.Standing.{Standing}
use Rattle.mean_blocks.specs.rule_scope.Outline.{standing}
use Rattle.mean_blocks.specs.rule_declares.LookUps.{started_header}
use Rattle.mean_blocks.specs.rule_declares.PortList.{ports_of}
use Rattle.mean_blocks.specs.InstancePoints.{point}
use Rattle.mean_blocks.specs.declared.situation.InteractionPoint.{InteractionPoint}
use Rattle.mean_blocks.specs.declared.situation.Item.{Item}
use Rattle.mean_blocks.specs.TextByPlace.{Text}
use Rattle.mean_blocks.specs.GlobalSituation.{Situation, is_point}
use Rattle.mean_blocks.specs.OutputEffects.{arrived}
use Rattle.mean_blocks.specs.KeepingLaws.{AscendBelow, AreMutual}
use Rattle.mean_blocks.proofs.MutualPeers.{point_same}
use Rattle.est_meaning.specs.declared.event.Event.{Event}
use Rattle.est_meaning.specs.declared.event.Event.TheVariants as event
use Rattle.est_meaning.specs.declared.event.Interaction.{Interaction}
use Rattle.est_meaning.specs.OutsideEvents.{port_point, signal_place, is_port, is_signal}
use Rattle.est_meaning.specs.OutsideEvents.{port_in, signals_at}
use Rattle.est_meaning.specs.OutsideEvents.{departure_through, item_by, item_at, arrival}
use Rattle.est_meaning.specs.OutsideEvents.{after_event, units_of}
use Rattle.est_meaning.specs.SelectionLaws.{PortsAreOfTheRoot}
use Rattle.est_meaning.specs.SelectionLaws.{LeavesInstances, EventsAreOutside, PortsGoBothWays}
use Rattle.est_meaning.proofs.Options.{then_some, map_some, or_true}

-- INSTANCES AND THE CLOCK

arrived_leaves : (t : Text) (s : Situation) (o : Option Item)
    → LeavesInstances s (option_map_or (λ (x : Item). arrived t x.at x s) o s)
arrived_leaves t s None =
    record { rows = refl; peer = refl; down = refl; stamps = refl; next = refl }
arrived_leaves t s (Some x) =
    record { rows = refl; peer = refl; down = refl; stamps = refl; next = refl }

event_leaves : (t : Text) (s : Situation) (e : Event) → LeavesInstances s (after_event t s e)
unfolding after_event
event_leaves t s (event.Arrives i) = arrived_leaves t s (arrival t i)
event_leaves t s (event.Leaves i) =
    record { rows = refl; peer = refl; down = refl; stamps = refl; next = refl }
event_leaves t s (event.Passes units) =
    record { rows = refl; peer = refl; down = refl; stamps = refl; next = refl }

arrived_clock : (t : Text) (s : Situation) (o : Option Item)
    → (option_map_or (λ (x : Item). arrived t x.at x s) o s).clock ≡ s.clock
arrived_clock t s None = refl
arrived_clock t s (Some x) = refl

event_clock : (t : Text) (s : Situation) (e : Event)
    → (after_event t s e).clock ≡ s.clock + units_of e
unfolding after_event
event_clock t s (event.Arrives i) = (let e = arrived_clock t s (arrival t i) in omega arith)
event_clock t s (event.Leaves i) = omega arith
event_clock t s (event.Passes units) = refl

pub events_are_outside : EventsAreOutside
events_are_outside = record {
  leaves = event_leaves;
  clock = event_clock;
  numbers = λ t s e h. let l = event_leaves t s e in (
    subst (λ n. 1 ≤ n) (sym l.next) h.0,
    subst (λ n. AscendBelow 1 n (after_event t s e).rows) (sym l.next)
        (subst (AscendBelow 1 s.next) (sym l.rows) h.1),
  );
  connections = λ t s e h. subst AreMutual (sym (event_leaves t s e).peer) h;
}

-- NUMBERS OF PORTS AND SIGNALS

-- what stands at the number of the first item that passes a test
found_at : {A : Type 0} (test : A → Bool) (xs : List A) (n : ℕ) → position test xs ≡ Some n
    → (x : A) × (slice_get xs n ≡ Some x) × (test x ≡ true)
found_at test [] n h = absurd (cc)
found_at test (x ∷ xs) n h = let p = position-Some test (x ∷ xs) n x h in
    (slice_index_or (x ∷ xs) n x, slice_get-get_or (x ∷ xs) n x p.0, p.1)

leaves_is : (x y : Interaction) → event.Leaves x ≡ event.Leaves y → x ≡ y
leaves_is x y e = cc

-- an item that is this signal of this port arrives by their numbers
arrives_by : (t : Text) (i : Item) (n m d : ℕ) (port : Port) (x : Signal) (p : InteractionPoint)
    → slice_get (ports_of t.spec) n ≡ Some port → port_point t port ≡ Some p → i.at ≡ p
    → slice_get port.signals m ≡ Some x → signal_place t i.at x ≡ Some d → i.signal ≡ d
    → arrival t (record { port = n; signal = m; values = i.values }) ≡ Some i
arrives_by t i n m d port x p a b c e f g =
    let y : Interaction = record { port = n; signal = m; values = i.values } in
    ap (option_and_then (item_at t y)) a
    ∙ ap (option_and_then (λ q. option_and_then (item_by t y q) (slice_get port.signals m)))
    (b ∙ ap (λ q. Some q) (sym c))
    ∙ ap (option_and_then (item_by t y i.at)) e
    ∙ ap (option_map (λ declared. record { at = i.at; signal = declared; values = i.values })) f
    ∙ ap (λ z. Some (record { at = i.at; signal = z; values = i.values })) (sym g)

pub ports_of_the_root : PortsAreOfTheRoot
ports_of_the_root t port p h =
    let a = then_some (port_in t port) (started_header t.outline t.spec.first) p h in
    let b = map_some (λ (x : Standing). point 1 x.place port.index)
    (standing t.outline a.0 port.name.bytes) p a.2 in (
      sym (ap (λ (q : InteractionPoint). q.instance) b.2),
      sym (ap (λ (q : InteractionPoint). q.index) b.2),
    )

pub ports_go_both_ways : PortsGoBothWays
ports_go_both_ways t i x h =
    let a = then_some (departure_through t i) (position (is_port t i.at) (ports_of t.spec)) _ h in
    let b = map_some _ (position (is_signal t i.at i.signal) (signals_at t a.0)) _ a.2 in
    let c = found_at (is_port t i.at) (ports_of t.spec) a.0 a.1 in
    let d = or_true (is_point i.at) (port_point t c.0) c.2 in
    let e = found_at (is_signal t i.at i.signal) (signals_at t a.0) b.0 b.1 in
    let f = or_true (nat_eq i.signal) (signal_place t i.at e.0) e.2 in
    let signals = ap (λ o. option_map_or (λ (p : Port). p.signals) o []) c.1 in
    subst (λ y. arrival t y ≡ Some i) (leaves_is _ x b.2)
    (arrives_by t i a.0 b.0 f.0 c.0 e.0 d.0 c.1 d.1 (point_same i.at d.0 d.2)
    (ap (λ xs. slice_get xs b.0) (sym signals) ∙ e.1) f.1 (eqb-true i.signal f.0 f.2))
