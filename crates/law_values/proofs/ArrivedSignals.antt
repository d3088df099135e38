-- The kinds of the signals of ports are those of the parameters of interactions.
use Rattle.std.specs.Prelude.{option_and_then}
use Rattle.std.specs.Option.{option_map}
use Rattle.std.proofs.Common.{◌≡◌, sym, ap, subst, ◌∙◌, ℕ, zero, suc, Bool, true, false}
use Rattle.std.proofs.Common.{if◌then◌else◌, List, [], Option, Some, None, slice_get}
use Rattle.std.proofs.lemmas.Option.{same_Some, none-some}
use Rattle.est_syntax.specs.declared.channel.Role.{Role}
use Rattle.est_syntax.specs.declared.kind.Kind.{Kind}
use Rattle.est_syntax.specs.declared.ports.Port.{Port}
use Rattle.est_syntax.specs.declared.ports.Signal.{Signal}
use Rattle.est_syntax.specs.declared.specification.Spec.{Spec}
use Rattle.rule_scope.specs.declared.declaration.Entry.{Entry}
use Rattle.rule_scope.specs.declared.declaration.Member.{Member}
use Rattle.rule_scope.specs.declared.declaration.Side.{Side}
use Rattle.rule_scope.specs.declared.declaration.Standing.{Standing}
use Rattle.rule_scope.specs.Outline.{Outline, names_of, entry_at, member_at, standing}
use Rattle.rule_scope.specs.Uses.{same_sort}
use Rattle.rule_scope.specs.declared.declaration.Member.TheVariants as member
use Rattle.rule_scope.specs.declared.declaration.Sort.TheVariants as sort
use Rattle.rule_declares.specs.Bodies.{outline_of}
use Rattle.rule_declares.proofs.Regions.{region_once}
use Rattle.rule_declares.specs.PortList.{kinds_in, signal_by, signals_of, element, elements_with}
use Rattle.rule_declares.specs.PortList.{elements_by, header_ports, ports_of}
use Rattle.rule_ports.proofs.Listing.{flat_place}
use Rattle.rule_ports.proofs.Ranks.{unmapped}
use Rattle.rule_declares.specs.LookUps.{started_header}
use Rattle.rule_declares.specs.LookUps.{side_at}
use Rattle.mean_blocks.specs.declared.situation.InteractionPoint.{InteractionPoint}
use Rattle.mean_blocks.specs.declared.situation.Item.{Item}
use Rattle.mean_blocks.specs.InstancePoints.{point}
use Rattle.mean_blocks.specs.TextByPlace.{text_of}
use Rattle.plain_outside.proofs.PortPlaces.{found_once, standing_is, ports_at}
use Rattle.est_meaning.specs.declared.event.Interaction.{Interaction}
use Rattle.est_meaning.specs.OutsideEvents.{port_in, port_point, signal_place, item_at, item_by}
use Rattle.est_meaning.specs.OutsideEvents.{arrival}
use Rattle.est_meaning.proofs.Options.{then_some, map_some}

module _ (spec : Spec) where
  abbrev o : Outline
  o = outline_of spec

  found_there : (region i : ℕ) (n : List ℕ × Standing) → slice_get (names_of o region) i ≡ Some n
      → standing o region n.0 ≡ Some n.1
  found_there region i n h =
      standing_is o region n.0 ∙ found_once (names_of o region) i n (region_once spec region) h

  -- an element of an interaction point has its name, and the signals of its side
  element_is : (name : List ℕ) (x : Option Entry) (r : ℕ) (p : Port)
      → slice_get (elements_by o name x) r ≡ Some p
      → (p.name.bytes ≡ name)
      × (p.signals ≡ signals_of o (option_and_then (λ (e : Entry). e.side) x))
  element_is name None r p h = absurd (none-some p h)
  element_is name (Some e) r p h = by (same_sort sort.Point e.declared.sort) e.dims h
    where
      by : (b : Bool) (dims : Option (List Kind))
          → slice_get (if b then elements_with name (signals_of o e.side) dims else []) r ≡ Some p
          → (p.name.bytes ≡ name) × (p.signals ≡ signals_of o e.side)
      by false dims h = absurd (none-some p h)
      by true None h = absurd (none-some p h)
      by true (Some ks) h =
          let u = unmapped (element name ks (signals_of o e.side)) _ r p h in (
            ap (λ (q : Port). q.name.bytes) (sym u.2),
            ap (λ (q : Port). q.signals) (sym u.2),
          )

  port_passes : (header k : ℕ) (p : Port) (x : Standing)
      → slice_get (header_ports o (Some header)) k ≡ Some p
      → standing o header p.name.bytes ≡ Some x
      → p.signals ≡ signals_of o (side_at o (Some x.place))
  port_passes header k p x h e =
      let f = flat_place (ports_at o) (names_of o header) k p h in
      let n = f.1.0 in
      let is = element_is n.0 (entry_at o n.1.place) f.1.1.0 p f.1.1.2 in
      let same : n.1 ≡ x = same_Some n.1 x (sym (found_there header f.0 n f.1.1.1)
      ∙ ap (standing o header) (sym is.0) ∙ e) in
      is.1 ∙ ap (λ (s : Standing). signals_of o (side_at o (Some s.place))) same

  port_signals : (k : ℕ) (port : Port) (p : InteractionPoint)
      → slice_get (ports_of spec) k ≡ Some port → port_point (text_of spec) port ≡ Some p
      → port.signals ≡ signals_of o (side_at o (Some p.declared))
  unfolding ports_of
  port_signals k port p h e =
      let t = text_of spec in
      let a = then_some (port_in t port) (started_header o spec.first) p e in
      let b = map_some (λ (x : Standing). point 1 x.place port.index)
      (standing o a.0 port.name.bytes) p a.2 in
      port_passes a.0 k port b.0 (subst (λ x. slice_get (header_ports o x) k ≡ Some port) a.1 h) b.1
      ∙ ap (λ (q : InteractionPoint). signals_of o (side_at o (Some q.declared))) b.2

  -- an interaction of a channel as a signal
  signal_is : (r : Role) (n : List ℕ × Standing) (m : Option Member) (j : ℕ) (x : Signal)
      → slice_get (signal_by o r n m) j ≡ Some x
      → (x.name.bytes ≡ n.0) × (x.kinds ≡ kinds_in o (names_of o n.1.place))
  signal_is r n None j x h = absurd (none-some x h)
  signal_is r n (Some (member.Role q)) j x h = absurd (none-some x h)
  signal_is r n (Some member.Field) j x h = absurd (none-some x h)
  signal_is r n (Some (member.Interaction s)) zero x h = let same = same_Some _ x h in
      (ap (λ (y : Signal). y.name.bytes) (sym same), ap (λ (y : Signal). y.kinds) (sym same))
  signal_is r n (Some (member.Interaction s)) (suc j) x h = absurd (none-some x h)

  signal_kinds : (side : Option Side) (j d : ℕ) (x : Signal)
      → slice_get (signals_of o side) j ≡ Some x
      → option_and_then (λ (z : Side). option_map (λ (n : Standing). n.place)
      (standing o z.channel x.name.bytes)) side ≡ Some d
      → x.kinds ≡ kinds_in o (names_of o d)
  signal_kinds None j d x h e = absurd (none-some d e)
  signal_kinds (Some side) j d x h e =
      let f = flat_place (λ (n : List ℕ × Standing). signal_by o side.role n
      (member_at o n.1.place)) (names_of o side.channel) j x h in
      let n = f.1.0 in
      let is = signal_is side.role n (member_at o n.1.place) f.1.1.0 x f.1.1.2 in
      let y = map_some (λ (n : Standing). n.place) (standing o side.channel x.name.bytes) d e in
      let same : n.1 ≡ y.0 = same_Some n.1 y.0 (sym (found_there side.channel f.0 n f.1.1.1)
      ∙ ap (standing o side.channel) (sym is.0) ∙ y.1) in
      is.1 ∙ ap (λ p. kinds_in o (names_of o p)) (ap (λ (s : Standing). s.place) same ∙ y.2)

  -- the item that an interaction is has the kinds of its signal, and its values
  pub arrival_kinds : (x : Interaction) (i : Item) (port : Port) (signal : Signal)
      → arrival (text_of spec) x ≡ Some i → slice_get (ports_of spec) x.port ≡ Some port
      → slice_get port.signals x.signal ≡ Some signal
      → (signal.kinds ≡ kinds_in o (names_of o i.signal)) × (x.values ≡ i.values)
  arrival_kinds x i port signal h p q =
      let t = text_of spec in
      let a = then_some (item_at t x) (slice_get (ports_of spec) x.port) i h in
      let b = then_some _ (port_point t a.0) i a.2 in
      let c = then_some (item_by t x b.0) (slice_get a.0.signals x.signal) i b.2 in
      let d = map_some _ (signal_place t b.0 c.0) i c.2 in
      one a.0 c.0 b.0 d.0 a.1 b.1 c.1 d.1 d.2
    where
      one : (other : Port) (y : Signal) (at : InteractionPoint) (d : ℕ)
          → slice_get (ports_of spec) x.port ≡ Some other
          → port_point (text_of spec) other ≡ Some at
          → slice_get other.signals x.signal ≡ Some y
          → signal_place (text_of spec) at y ≡ Some d
          → record { at = at; signal = d; values = x.values } ≡ i
          → (signal.kinds ≡ kinds_in o (names_of o i.signal)) × (x.values ≡ i.values)
      one other y at d e f g k m =
          let same : y ≡ signal = same_Some y signal (sym g ∙ ap (λ (z : Port). slice_get z.signals
          x.signal) (same_Some other port (sym e ∙ p)) ∙ q) in
          let is = signal_kinds (side_at o (Some at.declared)) x.signal d y
          (ap (λ xs. slice_get xs x.signal) (sym (port_signals x.port other at e f)) ∙ g) k in
          let at_end : d ≡ i.signal = ap (λ (z : Item). z.signal) m in (
            subst (λ (z : Signal). z.kinds ≡ kinds_in o (names_of o i.signal)) same
                (subst (λ (n : ℕ). y.kinds ≡ kinds_in o (names_of o n)) at_end is),
            ap (λ (z : Item). z.values) m,
          )
