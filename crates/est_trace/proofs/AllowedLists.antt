-- The lists of a text may stand at the ports.
use Rattle.std.proofs.Common.{All, ◌≡◌, ℕ, zero, suc, ◌+◌, ◌≤◌, List, [], ◌∷◌, ◌++◌, length}
use Rattle.std.proofs.Common.{refl, sym, ◌∙◌, ap, subst, arith, Option, Some, None, slice_get}
use Rattle.std.proofs.Common.{Result, Ok, Err, get_or, inl, inr, map}
use Rattle.std.specs.Prelude.{◌⊎◌, IfOk}
use Rattle.std.specs.List.{AllZip}
use Rattle.est_lexer.specs.declared.kind.Token.{Token}
use Rattle.text_reader.specs.Grammar.{one_of, word, seq, rule, both, left, right}
use Rattle.text_reader.specs.Grammar.{t_word, t_token, t_seq, t_left, t_right, t_opt_in, t_deeper}
use Rattle.text_reader.specs.Grammar.{t_rule, nothing}
use Rattle.text_reader.specs.Going.{Shape}
use Rattle.text_reader.specs.Tests.{named}
use Rattle.est_syntax.specs.Kinds.{maxint}
use Rattle.est_syntax.specs.declared.kind.Kind.{Kind}
use Rattle.est_syntax.specs.declared.ports.Direction.{Direction}
use Rattle.est_syntax.specs.declared.ports.Direction.TheVariants.{Receives, Sends}
use Rattle.est_syntax.specs.declared.ports.Port.{Port}
use Rattle.est_syntax.specs.declared.specification.Spec.{Spec}
use Rattle.est_values.specs.declared.value.Value.{Value}
use Rattle.est_values.specs.FittingValues.{Fits}
use Rattle.est_meaning.specs.rule_declares.PortList.{ports_of}
use Rattle.est_meaning.specs.AllowedEvents.{IsAllowed, most_events}
use Rattle.est_meaning.specs.RecordedTraces.{known_trace}
use Rattle.est_meaning.specs.declared.event.Event.{Event}
use Rattle.est_meaning.specs.declared.event.Event.TheVariants.{Arrives, Leaves, Passes}
use Rattle.est_meaning.specs.declared.event.Interaction.{Interaction}
use Rattle.est_meaning.specs.declared.trace.Expected.TheVariants.{Known}
use Rattle.mean_ports.specs.declared.lists.PortLists.{PortLists}
use Rattle.mean_ports.specs.ListsOfEvents.{AreListsOf}
use Rattle.mean_ports.specs.Merges.{AreUsedUp, Interleaves, used_up, next, MergesOf, event_count}
use Rattle.mean_ports.specs.Merges.{AreAllowedLists}
use Rattle.mean_ports.proofs.Lengths.{merges_as_long, known_length}
use Rattle.text_values.specs.declared.formats.Format.TheVariants.{Complete}
use Rattle.text_values.specs.TraceGrammar.{lists_at, named_port, port_event, signal, brackets}
use Rattle.text_values.specs.TraceGrammar.{subscripts}
use Rattle.text_values.specs.TraceGrammar.{is_head, port_lists, Rule}
use Rattle.text_values.specs.ValueShapes.{AreBracketed, ShowsOrdinal, ShowsValue}
use Rattle.text_values.proofs.FitsShown.{index_fits, values_fit}
use Rattle.est_trace.specs.ListShapes.{Named, ShowsSignalAt, ShowsPortEvent, ShowsParts, no_more}
use Rattle.est_trace.specs.ListShapes.{port_next, time_next, event_next, ShowsLists}
use Rattle.est_trace.specs.ListText.{ReadsLists}
use Rattle.est_trace.specs.PortNames.{GoodPorts}
use Rattle.est_trace.specs.declared.error.TraceError.{TraceError}
use Rattle.est_trace.specs.inside.AtPorts.{IsAtPort, IsAtPorts}
use Rattle.est_trace.specs.inside.ListReading.{signals_named}
use Rattle.est_trace.proofs.AtPorts.{allowed}
use Rattle.est_trace.proofs.Images.{some_same}
use Rattle.est_trace.proofs.Shown.{all_cons, bounded, Tree_of, one_of_shown, when_tree, after_word}
use Rattle.est_trace.proofs.Shown.{two_parts, signal_parts, element_signals}
use Rattle.est_trace.proofs.Written.{same_or_not, written, elsewhere}

-- EVENTS OF A TEXT

module _ (text : List ℕ) (s : List Token) (n : ℕ) (ports : List Port) (good : GoodPorts ports) where
  -- a tree by a grammar
  abbrev Tree_in : Rule → ℕ → ℕ → ℕ → Shape → Type 0
  Tree_in g d a b t = Tree_of text s n g d a b t

  good_values : (direction : Direction) (ks : List Kind) (vs : List Value) {d a b : ℕ} {t : Shape}
      → Tree_in (brackets direction Complete ks) d a b t → AreBracketed ShowsValue ks vs t
      → AllZip Fits ks vs
  good_values Receives ks vs x h = values_fit text s n ks vs x h
  good_values Sends ks vs x h = values_fit text s n ks vs x h

  -- the port that is named, if one is, has the signals of its head
  abbrev IsPlaced : Option Named → Type 0
  IsPlaced None = Unit {0}
  IsPlaced (Some m) =
      (p : Port) × (slice_get ports m.number ≡ Some p) × (p.signals ≡ m.signals)

  signal_at : (direction : Direction) (m : Named) (i : Interaction) {d a b : ℕ} {t : Shape}
      → IsPlaced (Some m) → Tree_in (one_of (signal Complete direction) m.signals) d a b t
      → ShowsSignalAt m i t → IsAtPort direction ports i
  signal_at direction m i {d} {a} {b} p x h =
      let q = signal_parts text s n Complete direction m.signals i.signal
      (subst (λ u. Tree_in (one_of (signal Complete direction) m.signals) d a b u) h.shape x) in
      let chosen : q.0 ≡ h.signal = some_same (sym q.1 ∙ h.signal_is) in
      record {
        port = p.0;
        signal = q.0;
        port_is = ap (slice_get ports) h.port_is ∙ p.1;
        signal_is = ap (λ xs. slice_get xs i.signal) p.2 ∙ q.1;
        direction_is = q.2;
        fits = good_values direction q.0.kinds i.values q.3
            (subst (λ z. AreBracketed ShowsValue z.kinds i.values h.values_shape) (sym chosen)
            h.values_shown);
      }

  event_at : (m : Named) (e : Event) (t : Shape) {d a b : ℕ} → IsPlaced (Some m)
      → Tree_in (port_event m.signals) d a b t → ShowsPortEvent m e t → IsAtPorts ports e
  event_at m (Arrives i) (left t) p (t_left (t_word k l w x)) h = signal_at Receives m i p x h
  event_at m (Leaves i) (right t) p (t_right (t_word k l w x)) h = signal_at Sends m i p x h
  event_at m e t p x h = absurd h

  -- each stands at a port, and there are no more than levels
  all_at : (at : Option Named) (es : List Event) (t : Shape) {d a b : ℕ} → IsPlaced at
      → ShowsParts ports at es t → Tree_in (rule (lists_at ports (signals_named at))) d a b t
      → All (IsAtPorts ports) es × (length es ≤ d)
  all_at at _ _ p no_more x = ((λ k d l. absurd (omega (arith, l))), omega arith)
  all_at at es _ p (port_next {t = t} {u = u} m i h r)
      (t_rule (t_opt_in (t_left (t_word {d = d} {b = b} k l w x)))) =
      let q = one_of_shown text s n (named_port ports) ports i x in
      let v = when_tree text s n (is_head q.0) {g = word (named q.0.name.bytes)
      (seq (subscripts q.0.index_kinds) (rule (lists_at ports (Some q.0.signals))))} q.2 in
      let parts = two_parts text s n (after_word text s n v.1) in
      let head : q.0 ≡ h.head = some_same (sym q.1 ∙ h.head_is) in
      let index = index_fits text s n q.0.index_kinds h.port.index parts.1
      (subst (λ z. AreBracketed ShowsOrdinal z.index_kinds h.port.index t) (sym head)
      h.index_shown) in
      let element = element_signals text s n ports good i m.number q.0 h.port q.1 h.port_is
      (h.named ∙ ap (λ z. z.name.bytes) (sym head)) index in
      let signals : q.0.signals ≡ m.signals = ap (λ z. z.signals) head ∙ sym h.signals_are in
      all_at (Some m) es u (h.port, h.port_is, element ∙ signals) r
      (subst (λ xs. Tree_in (rule (lists_at ports (Some xs))) d parts.0 b u) signals parts.2)
  all_at at _ _ p (time_next {es = es} {u = u} units r)
      (t_rule (t_opt_in (t_right (t_deeper (t_left (t_seq (t_word k l w (t_token _ k' l' w' z))
      y)))))) =
      let rest = all_at None es u tt r y in
      let many = rest.1 in (
        all_cons (IsAtPorts ports) (Passes units) es (bounded text 0 maxint units _ w' z) rest.0,
        omega (arith, many),
      )
  all_at _ _ _ p (event_next {n = m} {e = e} {es = es} {t = t} {u = u} h r)
      (t_rule (t_opt_in (t_right (t_deeper (t_right (t_seq x y)))))) =
      let rest = all_at (Some m) es u p r y in
      let many = rest.1 in (
        all_cons (IsAtPorts ports) e es (event_at m e t p x h) rest.0,
        omega (arith, many),
      )

  lists_at_ports : (lists : PortLists) (t : Shape) {d a b : ℕ} → Tree_in (port_lists ports) d a b t
      → (h : ShowsLists ports lists t) → All (IsAtPorts ports) h.events × (length h.events ≤ d)
  lists_at_ports lists t {d} {a} {b} x h =
      by (subst (λ u. Tree_in (port_lists ports) d a b u) h.shape_is x)
    where
      by : {e c f : ℕ} → Tree_in (port_lists ports) e c f (both h.shape nothing)
          → All (IsAtPorts ports) h.events × (length h.events ≤ e)
      by (t_word k l w (t_word k' l' w' (t_seq y z))) = all_at None h.events h.shape tt h.shown y

-- EVENTS OF LISTS

module _ (P : Event → Type 0) where
  none_bad : (es : List Event) → es ≡ [] → All P es
  none_bad es e = subst (λ w. All P w) (sym e) (λ k d l. absurd (omega (arith, l)))

  first_of : (e : Event) (es : List Event) → All P (e ∷ es) → P e
  first_of e es h = h 0 e (omega arith)

  rest_of : (e : Event) (es : List Event) → All P (e ∷ es) → All P es
  rest_of e es h = λ k d l. h (suc k) d (omega (arith, l))

  front_of : (xs ys : List Event) → All P (xs ++ ys) → All P xs
  front_of [] ys h = none_bad [] refl
  front_of (x ∷ xs) ys h = all_cons P x xs (first_of x (xs ++ ys) h)
      (front_of xs ys (rest_of x (xs ++ ys) h))

  behind_of : (xs ys : List Event) → All P (xs ++ ys) → All P ys
  behind_of [] ys h = h
  behind_of (x ∷ xs) ys h = behind_of xs ys (rest_of x (xs ++ ys) h)

  -- the events of each list
  abbrev AllIn : List (List Event) → Type 0
  AllIn lists = (k : ℕ) (es : List Event) → slice_get lists k ≡ Some es → All P es

  used_in : (lists : List (List Event)) → AreUsedUp lists → AllIn lists
  used_in [] u k es is = cc
  used_in (x ∷ lists) u zero es is =
      let same : x ≡ es = cc in
      let none : x ≡ [] = u 0 x (omega arith) in
      none_bad es (sym same ∙ none)
  used_in (x ∷ lists) u (suc k) es is =
      used_in lists (λ j d l. u (suc j) d (omega (arith, l))) k es is

  interleaved_in : (lists : List (List Event)) (es : List Event) → Interleaves lists es
      → All P es → AllIn lists
  interleaved_in lists _ (used_up u) h = used_in lists u
  interleaved_in lists _ (next {left = later} {e = e} {es = es} j n i) h =
      λ k fs is. by k fs is (same_or_not k j)
      (interleaved_in later es i (rest_of e es h))
    where
      by : (k : ℕ) (fs : List Event) → slice_get lists k ≡ Some fs → (k ≡ j) ⊎ (k ≡ j → ⊥)
          → AllIn later → All P fs
      by k fs is (inl q) inner =
          let here : slice_get lists j ≡ Some fs = ap (slice_get lists) (sym q) ∙ is in
          let whole : e ∷ n.rest ≡ fs =
          (let pair : Some (e ∷ n.rest) ≡ Some fs = sym n.begins ∙ here in cc) in
          let there : slice_get later j ≡ Some n.rest =
          ap (λ w. slice_get w j) n.left_is ∙ written lists j (e ∷ n.rest) n.rest n.begins in
          subst (λ w. All P w) whole
          (all_cons P e n.rest (first_of e es h) (inner j n.rest there))
      by k fs is (inr d) inner =
          inner k fs (ap (λ w. slice_get w k) n.left_is ∙ elsewhere lists k j n.rest d ∙ is)

  -- of phases, and of the times between them
  record AllThere (ps : List (List (List Event))) (us : List ℕ) : Type 0 where
    phases : All AllIn ps
    times : All (λ u. P (Passes u)) us

  merged_in : (ps : List (List (List Event))) (us : List ℕ) (es : List Event)
      → MergesOf ps us es → All P es → AllThere ps us
  merged_in [] us es m h = absurd m
  merged_in (p ∷ ps) [] es m h = record {
    phases = subst (λ qs. All AllIn (p ∷ qs)) (sym m.0)
        (all_cons AllIn p [] (interleaved_in p es m.1 h) (λ k d l. absurd (omega (arith, l))));
    times = λ k d l. absurd (omega (arith, l));
  }
  merged_in (p ∷ ps) (u ∷ us) es m h =
      let all : All P (m.0 ++ Passes u ∷ m.1) = subst (λ w. All P w) m.2 h in
      let front = front_of m.0 (Passes u ∷ m.1) all in
      let behind = behind_of m.0 (Passes u ∷ m.1) all in
      let rest = merged_in ps us m.1 m.4 (rest_of (Passes u) m.1 behind) in
      record {
        phases = all_cons AllIn p ps (interleaved_in p m.0 m.3 front) rest.phases;
        times = all_cons (λ w. P (Passes w)) u us (first_of (Passes u) m.1 behind) rest.times;
      }

-- there is one phase more than times
one_more : (ps : List (List (List Event))) (us : List ℕ) (es : List Event) → MergesOf ps us es
    → length ps ≡ length us + 1
one_more [] us es m = absurd m
one_more (p ∷ ps) [] es m = let none : length ps ≡ 0 = ap length m.0 in omega (arith, none)
one_more (p ∷ ps) (u ∷ us) es m = let rest = one_more ps us m.1 m.4 in omega (arith, rest)

-- THE LISTS

allowed_lists : (spec : Spec) (lists : PortLists) (es : List Event)
    → AreListsOf (length (ports_of spec)) lists es → All (IsAtPorts (ports_of spec)) es
    → length es ≤ most_events → AreAllowedLists spec lists
allowed_lists spec lists es a h l =
    let all : All (IsAllowed spec) es = λ k d z. allowed spec (get_or es k d) (h k d z) in
    let parts = merged_in (IsAllowed spec) lists.phases lists.times es a.merges all in record {
      many = one_more lists.phases lists.times es a.merges;
      phases = λ k d z. record {
        many = (a.phases k d z).many_are;
        each = λ port fs is. record {
          here = (a.phases k d z).each port fs is;
          each = parts.phases k d z port fs is;
        };
      };
      times = parts.times;
      few = (let m : length (map Known es) ≡ event_count lists =
          merges_as_long lists (known_trace es)
          record { events = es; known = refl; merges = a.merges } in
          let n = known_length es in omega (arith, m, n, l));
    }

pub text_allowed : (spec : Spec) (ports : List Port) (text : List ℕ) (tokens : List Token)
    (r : Result PortLists TraceError) → ports ≡ ports_of spec → GoodPorts ports
    → ReadsLists ports text tokens r → IfOk r (λ x. AreAllowedLists spec x)
text_allowed spec ports text tokens (Err error) e good h = tt
text_allowed spec ports text tokens (Ok lists) e good h =
    let t = h.0 in
    let all = lists_at_ports text tokens (length tokens) ports good lists t.0 t.1 t.2 in
    allowed_lists spec lists t.2.events
    (subst (λ ps. AreListsOf (length ps) lists t.2.events) e t.2.lists_are)
    (subst (λ ps. All (IsAtPorts ps) t.2.events) e all.0) all.1
