-- An event at a port that is named, part by part.
use Rattle.std.proofs.Common.{◌≡◌, ℕ, true, false, List, [], ◌∷◌, refl, sym, subst, Option}
use Rattle.std.proofs.Common.{slice_get, Some, None}
use Rattle.std.specs.Option.{IsSomeAnd, option_map}
use Rattle.est_syntax.specs.declared.kind.Kind.{Kind}
use Rattle.est_syntax.specs.declared.ports.Direction.{Direction}
use Rattle.est_syntax.specs.declared.ports.Direction.TheVariants.{Receives, Sends}
use Rattle.est_syntax.specs.declared.ports.Port.{Port}
use Rattle.est_syntax.specs.declared.ports.Signal.{Signal}
use Rattle.est_values.specs.declared.value.Value.{Value}
use Rattle.est_meaning.specs.rule_declares.Differing.{HaveDifferentNames}
use Rattle.est_meaning.specs.declared.event.Event.{Event}
use Rattle.est_meaning.specs.declared.event.Event.TheVariants.{Arrives, Leaves}
use Rattle.est_meaning.specs.declared.event.Interaction.{Interaction}
use Rattle.text_reader.specs.Grammar.{one_of, left, right}
use Rattle.text_reader.specs.Going.{Shape}
use Rattle.text_reader.specs.Moving.{Sees, Takes}
use Rattle.text_reader.specs.Tests.{said}
use Rattle.text_reader.specs.declared.reader.Reader.{Reader}
use Rattle.text_values.specs.declared.formats.Format.TheVariants.{Complete}
use Rattle.text_values.specs.TraceGrammar.{signal, brackets, parameters, port_event}
use Rattle.text_values.specs.ValueReading.{Reads}
use Rattle.text_values.specs.ValueShapes.{AreBracketed, ShowsValue}
use Rattle.est_trace.specs.ListShapes.{Named, ShowsSignalAt, ShowsPortEvent}
use Rattle.est_trace.specs.PortNames.{signal_name, signals_of}
use Rattle.est_trace.specs.declared.lists.NamedPort.{NamedPort}
use Rattle.est_trace.specs.inside.ListReading.{named_as, valued}
use Rattle.est_trace.specs.inside.Lookups.{Chooses}
use Rattle.est_trace.specs.inside.Parts.{parameters_of, ShowsSignal}
use Rattle.est_trace.proofs.Interactions.{signal_reads}
use Rattle.est_trace.proofs.LineReadings.{first_reads_else, second_reads}
use Rattle.est_trace.proofs.Readings.{word_reads, reads_as}

-- the values of all signals stand alike in complete traces
bracket_reads : (d : Direction) (ks : List Kind) {Is : Shape → Type 0} {A B : Reader}
    → Reads (parameters ks) Is A B → Reads (brackets d Complete ks) Is A B
bracket_reads Receives ks x = x
bracket_reads Sends ks x = x

module _ (d : Direction) (xs : List Signal) (port m : ℕ) where
  signal_shown : (o : Option (List Value)) (t : Shape)
      → ShowsSignal (λ ks u. IsSomeAnd o (λ vs. AreBracketed ShowsValue ks vs u)) xs m t
      → IsSomeAnd (option_map (valued port m) o)
      (λ i. ShowsSignalAt (record { number = port; signals = xs }) i t)
  signal_shown (Some vs) t h = record {
    signal = h.signal;
    values_shape = h.brackets_shape;
    port_is = refl;
    shape = h.shape;
    signal_is = h.signal_is;
    values_shown = h.shown;
  }
  signal_shown None t h = absurd h.shown

  -- a signal with its values, if they are there
  pub interaction_reads : (o : Option (List Value)) (r : Option Interaction) {A B C : Reader}
      → HaveDifferentNames signal_name xs → Chooses (signal Complete d) xs A m B
      → Reads (parameters (parameters_of (slice_get xs m)))
      (λ t. IsSomeAnd o (λ vs. AreBracketed ShowsValue (parameters_of (slice_get xs m)) vs t)) B C
      → r ≡ option_map (valued port m) o
      → Reads (one_of (signal Complete d) xs)
      (λ t. IsSomeAnd r (λ i. ShowsSignalAt (record { number = port; signals = xs }) i t)) A C
  interaction_reads o r h x y e =
      reads_as (signal_reads Complete d
      (λ ks t. IsSomeAnd o (λ vs. AreBracketed ShowsValue ks vs t)) xs h x
      (bracket_reads d (parameters_of (slice_get xs m)) y))
      (λ w t z. subst (λ v. IsSomeAnd v
      (λ i. ShowsSignalAt (record { number = port; signals = xs }) i t)) (sym e)
      (signal_shown o t z))

-- what is shown of the event is that of its interaction
left_shown : (n : Named) (i : Option Interaction) (t : Shape)
    → IsSomeAnd i (λ j. ShowsSignalAt n j t)
    → IsSomeAnd (option_map Arrives i) (λ f. ShowsPortEvent n f (left t))
left_shown n (Some i) t h = h
left_shown n None t h = absurd h

right_shown : (n : Named) (i : Option Interaction) (t : Shape)
    → IsSomeAnd i (λ j. ShowsSignalAt n j t)
    → IsSomeAnd (option_map Leaves i) (λ f. ShowsPortEvent n f (right t))
right_shown n (Some i) t h = h
right_shown n None t h = absurd h

module _ (ports : List Port) (p : NamedPort) (xs : List Signal)
    (e : xs ≡ signals_of (slice_get ports p.head)) where
  abbrev here : Named
  here = record { number = p.number; signals = xs }

  at_head : (r : Option Event) {A C : Reader}
      → Reads (port_event xs) (λ t. IsSomeAnd r (λ f. ShowsPortEvent here f t)) A C
      → Reads (port_event (named_as ports p).signals)
      (λ t. IsSomeAnd r (λ f. ShowsPortEvent (named_as ports p) f t)) A C
  at_head r {A} {C} x = subst (λ ys. Reads (port_event ys) (λ t. IsSomeAnd r
      (λ f. ShowsPortEvent (record { number = p.number; signals = ys }) f t)) A C) e x

  pub leaving_reads : (o : Option Interaction) (r : Option Event) {A B C : Reader}
      → Sees A (said "out") true → Takes (said "out") A B
      → Reads (one_of (signal Complete Sends) xs)
      (λ t. IsSomeAnd o (λ i. ShowsSignalAt here i t)) B C → r ≡ option_map Leaves o
      → Reads (port_event (named_as ports p).signals)
      (λ t. IsSomeAnd r (λ f. ShowsPortEvent (named_as ports p) f t)) A C
  leaving_reads o r s k x q = at_head r (second_reads (said "out") refl refl refl refl
      (λ t h. subst (λ v. IsSomeAnd v (λ f. ShowsPortEvent here f (right t))) (sym q)
      (right_shown here o t h)) s (word_reads k x))

  pub arriving_reads : (o : Option Interaction) (r : Option Event) {A B C : Reader}
      → Sees A (said "out") false → Takes (said "in") A B
      → Reads (one_of (signal Complete Receives) xs)
      (λ t. IsSomeAnd o (λ i. ShowsSignalAt here i t)) B C → r ≡ option_map Arrives o
      → Reads (port_event (named_as ports p).signals)
      (λ t. IsSomeAnd r (λ f. ShowsPortEvent (named_as ports p) f t)) A C
  arriving_reads o r s k x q = at_head r (first_reads_else (said "out" ∷ []) refl refl refl refl
      (λ t h. subst (λ v. IsSomeAnd v (λ f. ShowsPortEvent here f (left t))) (sym q)
      (left_shown here o t h)) (s, tt) (word_reads k x))
