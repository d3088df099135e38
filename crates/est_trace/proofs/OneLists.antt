-- One shape is that of one choice of lists.
use Rattle.std.proofs.Common.{◌≡◌, ℕ, List, ◌∷◌, length, refl, sym, ◌∙◌, ap, ap₂, subst}
use Rattle.std.proofs.Common.{Option, Some, None}
use Rattle.est_syntax.specs.declared.ports.Port.{Port}
use Rattle.text_reader.specs.Grammar.{nothing, both, left, right, pick}
use Rattle.text_reader.specs.Going.{Shape}
use Rattle.text_values.specs.ValueShapes.{AreBracketed, ShowsOrdinal, ShowsValue}
use Rattle.text_values.proofs.OneValue.{one_index, one_values}
use Rattle.est_meaning.specs.declared.event.Event.{Event}
use Rattle.est_meaning.specs.declared.event.Event.TheVariants.{Arrives, Leaves, Passes}
use Rattle.est_meaning.specs.declared.event.Interaction.{Interaction}
use Rattle.mean_ports.specs.declared.lists.PortLists.{PortLists}
use Rattle.mean_ports.specs.ListsOfEvents.{AreListsOf}
use Rattle.mean_ports.proofs.OneLists.{events_tell_their_lists}
use Rattle.est_trace.specs.PortNames.{GoodPorts}
use Rattle.est_trace.specs.ListShapes.{Named, ShowsSignalAt, ShowsPortEvent, ShowsPort, ShowsParts}
use Rattle.est_trace.specs.ListShapes.{no_more, port_next, time_next, event_next, ShowsLists}
use Rattle.est_trace.proofs.Shown.{one_pick, one_there, one_place, equal_interactions, both_same}

-- AN EVENT

-- a port that is named is told by its number and its signals
one_named : (n m : Named) → n.number ≡ m.number → n.signals ≡ m.signals → n ≡ m
one_named n m a b = λ i. record { number = a i; signals = b i }

one_signal : (n : Named) (i j : Interaction) (t u : Shape) → t ≡ u → ShowsSignalAt n i t
    → ShowsSignalAt n j u → i ≡ j
one_signal n i j t u e h k =
    let r = one_pick i.signal j.signal (sym h.shape ∙ (e ∙ k.shape)) in
    let signals : h.signal ≡ k.signal = one_there n.signals r.0 h.signal_is k.signal_is in
    equal_interactions (h.port_is ∙ sym k.port_is) r.0
    (one_values k.signal.kinds i.values j.values k.values_shape
    (subst (λ s. AreBracketed ShowsValue s.kinds i.values k.values_shape) signals
    (subst (λ v. AreBracketed ShowsValue h.signal.kinds i.values v) r.1 h.values_shown))
    k.values_shown)

one_event : (n : Named) (e f : Event) (t u : Shape) → t ≡ u → ShowsPortEvent n e t
    → ShowsPortEvent n f u → e ≡ f
one_event n (Arrives i) (Arrives j) (left t) (left u) q h k =
    ap Arrives (one_signal n i j t u (let r : t ≡ u = cc in r) h k)
one_event n (Leaves i) (Leaves j) (right t) (right u) q h k =
    ap Leaves (one_signal n i j t u (let r : t ≡ u = cc in r) h k)
one_event n (Arrives i) (Leaves j) (left t) (right u) q h k = cc
one_event n (Leaves i) (Arrives j) (right t) (left u) q h k = cc
one_event n (Arrives i) f (left t) u q h k = absurd k
one_event n (Leaves i) f (right t) u q h k = absurd k
one_event n e f t u q h k = absurd h

-- LISTS

module _ (ports : List Port) (good : GoodPorts ports) where
  -- a port that is named, with the shape of its subscripts
  one_port : (n m : Named) (i j : ℕ) (t u : Shape) → i ≡ j → t ≡ u → ShowsPort ports n i t
      → ShowsPort ports m j u → n ≡ m
  one_port n m i j t u a b h k =
      let heads : h.head ≡ k.head = one_there ports a h.head_is k.head_is in
      let index : h.port.index ≡ k.port.index =
      one_index k.head.index_kinds h.port.index k.port.index u
      (subst (λ o. AreBracketed ShowsOrdinal o.index_kinds h.port.index u) heads
      (subst (λ v. AreBracketed ShowsOrdinal h.head.index_kinds h.port.index v) b h.index_shown))
      k.index_shown in
      let named : h.port.name.bytes ≡ k.port.name.bytes =
      h.named ∙ (ap (λ o. o.name.bytes) heads ∙ sym k.named) in
      one_named n m
      (good.differ n.number m.number h.port k.port h.port_is k.port_is
      (one_place h.port k.port named index))
      (h.signals_are ∙ (ap (λ o. o.signals) heads ∙ sym k.signals_are))

  one_events : (a b : Option Named) (es fs : List Event) (t u : Shape) → a ≡ b → t ≡ u
      → ShowsParts ports a es t → ShowsParts ports b fs u → es ≡ fs
  one_events a b _ _ _ _ p q no_more no_more = refl
  one_events a b _ _ _ _ p q no_more (port_next m j k s) = cc
  one_events a b _ _ _ _ p q no_more (time_next v s) = cc
  one_events a b _ _ _ _ p q no_more (event_next k s) = cc
  one_events a b es fs _ _ p q (port_next {t = t} {u = x} n i h r)
      (port_next {t = u} {u = y} m j k s) =
      let e : pick i (both t x) ≡ pick j (both u y) = cc in
      let d = one_pick i j e in
      let c = both_same d.1 in
      one_events (Some n) (Some m) es fs x y
      (ap Some (one_port n m i j t u d.0 c.0 h k)) c.1 r s
  one_events a b _ _ _ _ p q (port_next n i h r) no_more = cc
  one_events a b _ _ _ _ p q (port_next n i h r) (time_next v s) = cc
  one_events a b _ _ _ _ p q (port_next n i h r) (event_next k s) = cc
  one_events a b _ _ _ _ p q (time_next {es = es} {u = x} w r) (time_next {es = fs} {u = y} v s) =
      let units : w ≡ v = cc in
      let rest : x ≡ y = cc in
      ap₂ (λ z zs. Passes z ∷ zs) units (one_events None None es fs x y refl rest r s)
  one_events a b _ _ _ _ p q (time_next w r) no_more = cc
  one_events a b _ _ _ _ p q (time_next w r) (port_next m j k s) = cc
  one_events a b _ _ _ _ p q (time_next w r) (event_next k s) = cc
  one_events _ _ _ _ _ _ p q (event_next {n = n} {e = e} {es = es} {t = t} {u = x} h r)
      (event_next {n = m} {e = f} {es = fs} {t = u} {u = y} k s) =
      let named : n ≡ m = cc in
      let same : t ≡ u = cc in
      let rest : x ≡ y = cc in
      ap₂ (λ z zs. z ∷ zs)
      (one_event m e f t u same (subst (λ o. ShowsPortEvent o e t) named h) k)
      (one_events (Some n) (Some m) es fs x y (ap Some named) rest r s)
  one_events _ _ _ _ _ _ p q (event_next h r) no_more = cc
  one_events _ _ _ _ _ _ p q (event_next h r) (port_next m j k s) = cc
  one_events _ _ _ _ _ _ p q (event_next h r) (time_next v s) = cc

  pub one_lists : (x y : PortLists) (t u : Shape) → t ≡ u → ShowsLists ports x t
      → ShowsLists ports y u → x ≡ y
  one_lists x y t u q h k =
      let whole : both h.shape nothing ≡ both k.shape nothing =
      sym h.shape_is ∙ (q ∙ k.shape_is) in
      let shapes : h.shape ≡ k.shape = cc in
      let events = one_events None None h.events k.events h.shape k.shape refl shapes h.shown
      k.shown in
      events_tell_their_lists (length ports) y x k.events k.lists_are
      (subst (λ es. AreListsOf (length ports) x es) events h.lists_are)
