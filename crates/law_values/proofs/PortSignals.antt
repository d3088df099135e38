-- The ports of a specification, and what passes them, are what its outline declares of interaction
-- points and channels.
use Rattle.std.proofs.Common.{◌≡◌, refl, sym, ap, subst, ◌∙◌, ℕ, zero, suc, Bool, true, false}
use Rattle.std.proofs.Common.{if◌then◌else◌, List, [], ◌∷◌, Option, Some, None, slice_get}
use Rattle.std.specs.Prelude.{option_and_then}
use Rattle.std.specs.List.{AllByRecursion, AllZip, cons_option}
use Rattle.std.specs.Option.{option_map}
use Rattle.std.proofs.lemmas.Option.{same_Some, none-some}
use Rattle.est_syntax.specs.declared.channel.Role.{Role}
use Rattle.est_syntax.specs.declared.kind.Kind.{Kind}
use Rattle.est_syntax.specs.declared.ports.Direction.TheVariants.{Sends}
use Rattle.est_syntax.specs.declared.ports.Port.{Port}
use Rattle.est_syntax.specs.declared.ports.Signal.{Signal}
use Rattle.est_syntax.specs.declared.specification.Spec.{Spec}
use Rattle.est_values.specs.declared.value.Value.{Value}
use Rattle.rule_scope.specs.declared.declaration.Entry.{Entry}
use Rattle.rule_scope.specs.declared.declaration.Member.{Member}
use Rattle.rule_scope.specs.declared.declaration.Member.TheVariants as member
use Rattle.rule_scope.specs.declared.declaration.Senders.{Senders}
use Rattle.rule_scope.specs.declared.declaration.Side.{Side}
use Rattle.rule_scope.specs.declared.declaration.Sort.TheVariants as sort
use Rattle.rule_scope.specs.declared.declaration.Standing.{Standing}
use Rattle.rule_scope.specs.Outline.{Outline, names_of, entry_at, member_at, standing}
use Rattle.rule_scope.specs.Uses.{same_sort}
use Rattle.rule_declares.specs.Bodies.{outline_of}
use Rattle.rule_declares.proofs.Regions.{region_once}
use Rattle.rule_declares.specs.LookUps.{started_header}
use Rattle.rule_declares.specs.LookUps.{side_at, may_pass}
use Rattle.rule_declares.specs.PortList.{kinds_in, signal_by, signals_of, element, elements_with}
use Rattle.rule_declares.specs.PortList.{elements_by, header_ports, ports_of}
use Rattle.rule_ports.proofs.Listing.{flat_place}
use Rattle.rule_ports.proofs.Ranks.{unmapped}
use Rattle.plain_outside.proofs.PortPlaces.{found_once, standing_is, ports_at}
use Rattle.mean_blocks.specs.declared.situation.InteractionPoint.{InteractionPoint}
use Rattle.mean_blocks.specs.declared.situation.Item.{Item}
use Rattle.mean_blocks.specs.InstancePoints.{point}
use Rattle.mean_blocks.specs.TextByPlace.{text_of}
use Rattle.est_meaning.specs.declared.event.Event.{Event}
use Rattle.est_meaning.specs.declared.event.Event.TheVariants as event
use Rattle.est_meaning.specs.declared.event.Interaction.{Interaction}
use Rattle.est_meaning.specs.OutsideEvents.{port_in, port_point, signal_place, item_at, item_by}
use Rattle.est_meaning.specs.OutsideEvents.{arrival, departure, departures}
use Rattle.est_meaning.proofs.Options.{then_some, map_some}
use Rattle.est_meaning.proofs.Outside.{ports_go_both_ways}
use Rattle.law_values.specs.SentInteractions.{Takes, IsSent, IsSentAt, LeavesAsSent}

module _ (spec : Spec) where
  abbrev o : Outline
  o = outline_of spec

  -- a name stands once in its region
  found_there : (region i : ℕ) (n : List ℕ × Standing) → slice_get (names_of o region) i ≡ Some n
      → standing o region n.0 ≡ Some n.1
  found_there region i n h =
      standing_is o region n.0 ∙ found_once (names_of o region) i n (region_once spec region) h

  -- PORTS

  -- the side of what is declared
  abbrev side_by : Option Entry → Option Side
  side_by x = option_and_then (λ (e : Entry). e.side) x

  -- an element of an interaction point
  record IsElement (name : List ℕ) (x : Option Entry) (p : Port) : Type 0 where
    named : p.name.bytes ≡ name
    passed : p.signals ≡ signals_of o (side_by x)

  element_is : (name : List ℕ) (x : Option Entry) (r : ℕ) (p : Port)
      → slice_get (elements_by o name x) r ≡ Some p → IsElement name x p
  element_is name None r p h = absurd (none-some p h)
  element_is name (Some e) r p h = by (same_sort sort.Point e.declared.sort) e.dims h
    where
      by : (b : Bool) (dims : Option (List Kind))
          → slice_get (if b then elements_with name (signals_of o e.side) dims else []) r ≡ Some p
          → IsElement name (Some e) p
      by false dims h = absurd (none-some p h)
      by true None h = absurd (none-some p h)
      by true (Some ks) h =
          let u = unmapped (element name ks (signals_of o e.side)) _ r p h in record {
            named = ap (λ (q : Port). q.name.bytes) (sym u.2);
            passed = ap (λ (q : Port). q.signals) (sym u.2);
          }

  -- what passes a port of a header is what passes the interaction point
  port_passes : (header k : ℕ) (p : Port) (x : Standing)
      → slice_get (header_ports o (Some header)) k ≡ Some p
      → standing o header p.name.bytes ≡ Some x
      → p.signals ≡ signals_of o (side_at o (Some x.place))
  port_passes header k p x h e =
      let f = flat_place (ports_at o) (names_of o header) k p h in
      let n = f.1.0 in
      let is = element_is n.0 (entry_at o n.1.place) f.1.1.0 p f.1.1.2 in
      let same : n.1 ≡ x = same_Some n.1 x (sym (found_there header f.0 n f.1.1.1)
      ∙ ap (standing o header) (sym is.named) ∙ e) in
      is.passed ∙ ap (λ (s : Standing). signals_of o (side_at o (Some s.place))) same

  port_signals : (k : ℕ) (port : Port) (p : InteractionPoint)
      → slice_get (ports_of spec) k ≡ Some port → port_point (text_of spec) port ≡ Some p
      → port.signals ≡ signals_of o (side_at o (Some p.declared))
  unfolding ports_of
  port_signals k port p h e =
      let t = text_of spec in
      let a = then_some (port_in t port) (started_header o spec.first) p e in
      let b = map_some (λ (x : Standing). point 1 x.place port.index)
      (standing o a.0 port.name.bytes) p a.2 in
      port_passes a.0 k port b.0 (subst (λ x. slice_get (header_ports o x) k ≡ Some port) a.1 h) b.1
      ∙ ap (λ (q : InteractionPoint). signals_of o (side_at o (Some q.declared))) b.2

  -- SIGNALS

  -- an interaction of a channel as a signal
  record IsInteraction (r : Role) (n : List ℕ × Standing) (m : Option Member) (x : Signal)
      : Type 0 where
    senders : Senders
    declared : m ≡ Some (member.Interaction senders)
    named : x.name.bytes ≡ n.0
    kinds : x.kinds ≡ kinds_in o (names_of o n.1.place)
    sent : x.sends ≡ may_pass Sends r senders

  signal_is : (r : Role) (n : List ℕ × Standing) (m : Option Member) (j : ℕ) (x : Signal)
      → slice_get (signal_by o r n m) j ≡ Some x → IsInteraction r n m x
  signal_is r n None j x h = absurd (none-some x h)
  signal_is r n (Some (member.Role q)) j x h = absurd (none-some x h)
  signal_is r n (Some member.Field) j x h = absurd (none-some x h)
  signal_is r n (Some (member.Interaction s)) zero x h = let same = same_Some _ x h in record {
    senders = s;
    declared = refl;
    named = ap (λ (y : Signal). y.name.bytes) (sym same);
    kinds = ap (λ (y : Signal). y.kinds) (sym same);
    sent = ap (λ (y : Signal). y.sends) (sym same);
  }
  signal_is r n (Some (member.Interaction s)) (suc j) x h = absurd (none-some x h)

  signal_passes : (side : Side) (j d : ℕ) (x : Signal)
      → slice_get (signals_of o (Some side)) j ≡ Some x
      → option_map (λ (n : Standing). n.place) (standing o side.channel x.name.bytes) ≡ Some d
      → (n : List ℕ × Standing) × (IsInteraction side.role n (member_at o n.1.place) x)
      × (n.1.place ≡ d)
  signal_passes side j d x h e =
      let f = flat_place (λ (n : List ℕ × Standing). signal_by o side.role n
      (member_at o n.1.place)) (names_of o side.channel) j x h in
      let n = f.1.0 in
      let is = signal_is side.role n (member_at o n.1.place) f.1.1.0 x f.1.1.2 in
      let y = map_some (λ (n : Standing). n.place) (standing o side.channel x.name.bytes) d e in
      let same : n.1 ≡ y.0 = same_Some n.1 y.0 (sym (found_there side.channel f.0 n f.1.1.1)
      ∙ ap (standing o side.channel) (sym is.named) ∙ y.1) in
      (n, is, ap (λ (s : Standing). s.place) same ∙ y.2)

  -- DEPARTURES

  interaction_same : (m : Option Member) (a b : Senders) → m ≡ Some (member.Interaction a)
      → m ≡ Some (member.Interaction b) → a ≡ b
  interaction_same m a b h g = cc

  -- an item that was sent, by the numbers of its port and its signal
  sent_at : (x : Interaction) (i : Item) (port : Port) (signal : Signal)
      → slice_get (ports_of spec) x.port ≡ Some port
      → port_point (text_of spec) port ≡ Some i.at
      → slice_get port.signals x.signal ≡ Some signal
      → signal_place (text_of spec) i.at signal ≡ Some i.signal → x.values ≡ i.values
      → IsSent o i → IsSentAt spec x
  sent_at x i port signal p q r s v h =
      let side = h.sends.side in
      let passed = port_signals x.port port i.at p q
      ∙ ap (signals_of o) h.sends.side_is in
      let there : slice_get (signals_of o (Some side)) x.signal ≡ Some signal =
      ap (λ xs. slice_get xs x.signal) (sym passed) ∙ r in
      let f = signal_passes side x.signal i.signal signal there
      (subst (λ y. option_and_then (λ (z : Side). option_map (λ (n : Standing). n.place)
      (standing o z.channel signal.name.bytes)) y ≡ Some i.signal) h.sends.side_is s) in
      let is = f.1 in
      let same : is.senders ≡ h.sends.senders =
      interaction_same (member_at o i.signal) is.senders h.sends.senders
      (ap (member_at o) (sym f.2) ∙ is.declared) h.sends.declared in
      record {
        port = port;
        signal = signal;
        port_is = p;
        signal_is = r;
        sends = is.sent ∙ ap (may_pass Sends side.role) same ∙ h.sends.may;
        values = subst (λ vs. AllZip Takes signal.kinds vs) (sym v)
            (subst (λ ks. AllZip Takes ks i.values)
            (ap (λ d. kinds_in o (names_of o d)) (sym f.2) ∙ sym is.kinds) h.values);
      }

  -- what an item is made of
  made_of : (q : InteractionPoint) (d : ℕ) (vs : List Value) (i : Item)
      → record { at = q; signal = d; values = vs } ≡ i
      → (q ≡ i.at) × (d ≡ i.signal) × (vs ≡ i.values)
  made_of q d vs i e = (
    ap (λ (y : Item). y.at) e,
    ap (λ (y : Item). y.signal) e,
    ap (λ (y : Item). y.values) e,
  )

  arrival_sent : (x : Interaction) (i : Item) → arrival (text_of spec) x ≡ Some i → IsSent o i
      → IsSentAt spec x
  arrival_sent x i h g =
      let t = text_of spec in
      let a = then_some (item_at t x) (slice_get (ports_of spec) x.port) i h in
      let b = then_some _ (port_point t a.0) i a.2 in
      let c = then_some (item_by t x b.0) (slice_get a.0.signals x.signal) i b.2 in
      let d = map_some _ (signal_place t b.0 c.0) i c.2 in
      let m = made_of b.0 d.0 x.values i d.2 in
      sent_at x i a.0 c.0 a.1 (b.1 ∙ ap Some m.0) c.1
      (subst (λ q. signal_place t q c.0 ≡ Some i.signal) m.0 (d.1 ∙ ap Some m.1)) m.2 g

  -- the event of an item that was sent
  departure_sent : (i : Item) (e : Event) → departure (text_of spec) i ≡ Some e → IsSent o i
      → LeavesAsSent spec e
  departure_sent i (event.Leaves x) h g =
      arrival_sent x i (ports_go_both_ways (text_of spec) i x h) g
  departure_sent i (event.Arrives x) h g = tt
  departure_sent i (event.Passes units) h g = tt

  pub departures_sent : (items : List Item) → AllByRecursion (IsSent o) items
      → AllByRecursion (LeavesAsSent spec) (departures (text_of spec) items)
  departures_sent [] h = tt
  departures_sent (i ∷ items) h =
      one (departure (text_of spec) i) refl (departures_sent items h.1)
    where
      one : (x : Option Event) → departure (text_of spec) i ≡ x
          → AllByRecursion (LeavesAsSent spec) (departures (text_of spec) items)
          → AllByRecursion (LeavesAsSent spec)
          (cons_option x (departures (text_of spec) items))
      one None e rest = rest
      one (Some x) e rest = (departure_sent i x e h.0, rest)
