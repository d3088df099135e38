-- What a trace shows tells the trace, and that it may stand at the ports.
use Rattle.std.proofs.Common.{All, ◌≡◌, ℕ, ℤ, zero, suc, ◌≤◌, Bool, true, false}
use Rattle.std.proofs.Common.{◌&&◌, List, [], ◌∷◌, length, refl, sym, ◌∙◌, ap}
use Rattle.std.proofs.Common.{subst, arith, Option, Some, None, slice_get}
use Rattle.std.specs.Prelude.{nat_le}
use Rattle.std.specs.List.{AllZip}
use Rattle.est_lexer.specs.declared.kind.Token.{Token}
use Rattle.est_lexer.specs.declared.kind.TokenKind.TheVariants.{Number}
use Rattle.est_lexer.specs.TokenKinds.{is_same}
use Rattle.est_lexer.specs.Spans.{spelling}
use Rattle.text_reader.specs.Grammar.{one_of, when, word, seq, rule, meets, KeptOf, Tree}
use Rattle.text_reader.specs.Grammar.{nothing, leaf, both, left, right, some, pick}
use Rattle.text_reader.specs.Grammar.{t_word, t_token, t_seq, t_left, t_right}
use Rattle.text_reader.specs.Grammar.{t_opt_in, t_deeper, t_rule}
use Rattle.text_reader.proofs.Members.{and_left}
use Rattle.est_syntax.specs.declared.kind.Kind.{Kind}
use Rattle.est_syntax.specs.declared.ports.Direction.{Direction}
use Rattle.est_syntax.specs.declared.ports.Direction.TheVariants.{Receives, Sends}
use Rattle.est_syntax.specs.declared.ports.Port.{Port}
use Rattle.est_syntax.specs.declared.ports.Signal.{Signal}
use Rattle.est_syntax.specs.Kinds.{maxint}
use Rattle.est_values.specs.declared.value.Value.{Value}
use Rattle.est_values.specs.FittingValues.{Fits, IsOrdinalOf}
use Rattle.est_seen.specs.declared.seen.Seen.{Seen}
use Rattle.est_seen.specs.SeenValues.{MayFit}
use Rattle.est_meaning.specs.declared.event.Interaction.{Interaction}
use Rattle.est_meaning.specs.declared.event.Event.TheVariants.{Arrives, Leaves}
use Rattle.est_meaning.specs.declared.trace.Expected.{Expected}
use Rattle.est_meaning.specs.declared.trace.Expected.TheVariants.{Known}
use Rattle.est_meaning.specs.RecordedTraces.{Recorded}
use Rattle.text_reader.specs.Tests.{Test, named, number, value, value_in, holds}
use Rattle.text_reader.specs.Going.{Shape}
use Rattle.text_reader.proofs.Apart.{within}
use Rattle.text_reader.proofs.Single.{kept_number}
use Rattle.text_values.specs.declared.formats.Format.{Format}
use Rattle.text_values.specs.declared.formats.Format.TheVariants.{Complete, Partial}
use Rattle.text_values.specs.TraceGrammar.{Rule, events_at, passes, some_pass, is_head, signal}
use Rattle.text_values.specs.TraceGrammar.{dot_signal, subscripts, brackets, port, event, trace}
use Rattle.text_values.specs.ValueShapes.{AreBracketed, ShowsOrdinal}
use Rattle.text_values.proofs.OneValue.{one_index, one_values}
use Rattle.text_values.proofs.OneSeen.{one_seens}
use Rattle.text_values.proofs.FitsShown.{index_fits, values_fit}
use Rattle.text_values.proofs.SeenFits.{seens_fit}
use Rattle.est_trace.specs.PortNames.{GoodPorts}
use Rattle.est_trace.proofs.Images.{some_same}
use Rattle.est_trace.specs.TraceShapes.{ShowsAt, IsSeenAs, whole, part, ShowsKnown, ShowsPartly}
use Rattle.est_trace.specs.TraceShapes.{ShowsBrackets, ShowsPassing, ShowsEvent, ShowsEvents}
use Rattle.est_trace.specs.TraceShapes.{ShowsQuiet, ShowsRest, ShowsTrace}
use Rattle.est_trace.specs.inside.AtPorts.{PassesAt, IsExpectedAt, AreAtPorts}
use Rattle.est_trace.specs.TraceText.{traces, IsTraceOfAtMost}
use Rattle.est_trace.proofs.SeenDepartures.{one_seen_as, whole_fit}

-- ONE TRACE SHOWS A SHAPE

-- the shape of an alternative tells its number
pub one_pick : (i j : ℕ) {t u : Shape} → pick i t ≡ pick j u → (i ≡ j) × (t ≡ u)
one_pick zero zero e = (refl, cc)
one_pick zero (suc j) e = cc
one_pick (suc i) zero e = cc
one_pick (suc i) (suc j) {t} {u} e =
    let q : pick i t ≡ pick j u = cc in
    let r = one_pick i j q in
    (ap suc r.0, r.1)

-- one item at a place
pub one_there : {A : Type 0} (xs : List A) {i j : ℕ} {x y : A} → i ≡ j → slice_get xs i ≡ Some x
    → slice_get xs j ≡ Some y → x ≡ y
one_there xs p e h = some_same (sym e ∙ (ap (slice_get xs) p ∙ h))

pub equal_interactions : {p q m n : ℕ} {xs ys : List Value} → p ≡ q → m ≡ n → xs ≡ ys
    → let x : Interaction = record {
      port = p;
      signal = m;
      values = xs;
    } in x ≡ record { port = q; signal = n; values = ys }
equal_interactions a b c = cc

pub both_same : {t t' u u' : Shape} → both t u ≡ both t' u' → (t ≡ t') × (u ≡ u')
both_same e = (cc, cc)

-- the name and the subscripts of a port
abbrev pub place_of : Port → List ℕ × List ℤ
place_of p = (p.name.bytes, p.index)

pub one_place : (p q : Port) → p.name.bytes ≡ q.name.bytes → p.index ≡ q.index
    → place_of p ≡ place_of q
one_place p q h k = λ i. (h i, k i)

-- one event has these brackets
module _ {p q m n : ℕ} (x y : Expected) (ks : List Kind) (t : Shape) (a : p ≡ q) (b : m ≡ n) where
  one_known : (event : Interaction → Expected) → ShowsKnown p m event x ks t
      → ShowsKnown q n event y ks t → x ≡ y
  one_known event h k =
      h.event_is ∙ (ap event (equal_interactions a b
      (one_values ks h.values k.values t h.shown k.shown)) ∙ sym k.event_is)

  one_partly : ShowsPartly p m x ks t → ShowsPartly q n y ks t → x ≡ y
  one_partly h k =
      one_seen_as q n k.seen x y
      (subst (λ (i : ℕ). IsSeenAs i n k.seen x) a
      (subst (λ (i : ℕ). IsSeenAs p i k.seen x) b
      (subst (λ (l : List Seen). IsSeenAs p m l x)
      (one_seens ks h.seen k.seen t h.shown k.shown) h.seen_as))) k.seen_as

  one_brackets : (d : Direction) (f : Format) → ShowsBrackets d f p m x ks t
      → ShowsBrackets d f q n y ks t → x ≡ y
  one_brackets Receives f h k = one_known (λ i. Known (Arrives i)) h k
  one_brackets Sends Complete h k = one_known (λ i. Known (Leaves i)) h k
  one_brackets Sends Partial h k = one_partly h k

module _ (ports : List Port) (good : GoodPorts ports) where
  -- one signal of one port stands there, with these brackets
  one_at : (P Q : List Kind → Shape → Type 0) (p q m n : ℕ) (t : Shape)
      (h : ShowsAt P ports p m t) (k : ShowsAt Q ports q n t)
      → (p ≡ q) × (m ≡ n) × P k.signal.kinds k.brackets_shape
  one_at P Q p q m n t h k =
      let r = one_pick h.first k.first (sym h.shape ∙ k.shape) in
      let b = both_same r.1 in
      let s = one_pick m n b.1 in
      let heads : h.head ≡ k.head = one_there ports r.0 h.head_is k.head_is in
      let signals : h.signal ≡ k.signal = one_there k.head.signals s.0
      (subst (λ o. slice_get o.signals m ≡ Some h.signal) heads h.signal_is) k.signal_is in
      let index : h.port.index ≡ k.port.index =
      one_index k.head.index_kinds h.port.index k.port.index k.index_shape
      (subst (λ o. AreBracketed ShowsOrdinal o.index_kinds h.port.index k.index_shape) heads
      (subst (λ u. AreBracketed ShowsOrdinal h.head.index_kinds h.port.index u) b.0 h.index_shown))
      k.index_shown in
      let named : h.port.name.bytes ≡ k.port.name.bytes =
      h.named ∙ (ap (λ o. o.name.bytes) heads ∙ sym k.named) in (
        good.differ p q h.port k.port h.port_is k.port_is (one_place h.port k.port named index),
        s.0,
        subst (λ z. P z.kinds k.brackets_shape) signals
            (subst (λ u. P h.signal.kinds u) s.1 h.shown),
      )

  one_passing : (d : Direction) (f : Format) (x y : Expected) (t : Shape)
      → ShowsPassing d f ports x t → ShowsPassing d f ports y t → x ≡ y
  one_passing d f x y t h k =
      let r = one_at (λ ks u. ShowsBrackets d f h.port h.signal x ks u)
      (λ ks u. ShowsBrackets d f k.port k.signal y ks u) h.port k.port h.signal k.signal t h.shown
      k.shown in
      one_brackets x y k.shown.signal.kinds k.shown.brackets_shape r.0 r.1 d f r.2 k.shown.shown

  one_event : (f : Format) (x y : Expected) (t : Shape) → ShowsEvent f ports x t
      → ShowsEvent f ports y t → x ≡ y
  one_event f x y (left (leaf (value n))) d e = d ∙ sym e
  one_event f x y (right (left t)) d e = one_passing Receives f x y t d e
  one_event f x y (right (right t)) d e = one_passing Sends f x y t d e
  one_event f x y _ d e = absurd d

  pub same_events : (f : Format) (xs ys : List Expected) (t : Shape) → ShowsEvents f ports xs t
      → ShowsEvents f ports ys t → xs ≡ ys
  same_events f [] [] t d e = refl
  same_events f [] (y ∷ ys) nothing d e = absurd e
  same_events f [] (y ∷ ys) t d e = absurd d
  same_events f (x ∷ xs) [] (some (both t u)) d e = absurd e
  same_events f (x ∷ xs) (y ∷ ys) (some (both t u)) d e =
      let p = one_event f x y t d.0 e.0 in let q = same_events f xs ys u d.1 e.1 in cc
  same_events f (x ∷ xs) ys t d e = absurd d

  one_quiet : (a b : Bool) (t : Shape) → ShowsQuiet a t → ShowsQuiet b t → a ≡ b
  one_quiet false false t d e = refl
  one_quiet true true t d e = refl
  one_quiet false true nothing d e = absurd e
  one_quiet false true t d e = absurd d
  one_quiet true false (some nothing) d e = absurd e
  one_quiet true false t d e = absurd d

  one_rest : (f : Format) (r s : Recorded) (t : Shape) → ShowsRest f ports r t
      → ShowsRest f ports s t → r ≡ s
  one_rest f r s (both t u) d e =
      let p = same_events f r.events s.events t d.0 e.0 in
      let q = one_quiet r.quiet s.quiet u d.1 e.1 in
      λ i. record { events = p i; quiet = q i }
  one_rest f r s _ d e = absurd d

  pub one_trace : (r s : Recorded) (t : Shape) → ShowsTrace ports r t → ShowsTrace ports s t
      → r ≡ s
  one_trace r s (left t) d e = one_rest Complete r s t d e
  one_trace r s (right (left t)) d e = one_rest Partial r s t d e
  one_trace r s (right (right t)) d e = one_rest Partial r s t d e
  one_trace r s _ d e = absurd d

-- EVENTS STAND AT THE PORTS

-- a number that is kept lies within its bounds
pub bounded : (text : List ℕ) (low high units : ℕ) (o : Option Token)
    → meets (holds text) (number low high) o ≡ true → KeptOf (traces text) o (value units)
    → units ≤ high
bounded text low high units None m k = absurd k
bounded text low high units (Some t) m k =
    let q : value (value_in text t) ≡ value units =
    sym (kept_number t.kind (spelling text t) (and_left (is_same t.kind Number)
    (nat_le low (value_in text t) && nat_le (value_in text t) high) m)) ∙ k in
    let p : value_in text t ≡ units = cc in
    subst (λ n. n ≤ high) p (within low high text t m).1

pub all_cons : {A : Type 0} (P : A → Type 0) (x : A) (xs : List A) → P x → All P xs → All P (x ∷ xs)
all_cons P x xs p q zero d l = p
all_cons P x xs p q (suc k) d l = q k d (omega (arith, l))

module _ (text : List ℕ) (s : List Token) (n : ℕ) where
  abbrev pub Tree_of : Rule → ℕ → ℕ → ℕ → Shape → Type 0
  Tree_of g d a b t = Tree (traces text) s n g d a b t

  -- the alternative of a number
  pub one_of_shown : {A : Type 0} (f : A → Rule) (xs : List A) (i : ℕ) {d a b : ℕ} {t : Shape}
      → Tree_of (one_of f xs) d a b (pick i t)
      → (x : A) × (slice_get xs i ≡ Some x) × Tree_of (f x) d a b t
  one_of_shown f [] i x = elim x [ ]
  one_of_shown f (y ∷ ys) zero (t_left x) = (y, refl, x)
  one_of_shown f (y ∷ ys) (suc i) (t_right x) = one_of_shown f ys i x

  pub when_tree : (w : Bool) {g : Rule} {d a b : ℕ} {t : Shape} → Tree_of (when w g) d a b t
      → (w ≡ true) × Tree_of g d a b t
  when_tree true x = (refl, x)
  when_tree false x = elim x [ ]

  pub after_word : {k : Test} {g : Rule} {d a b : ℕ} {t : Shape} → Tree_of (word k g) d a b t
      → Tree_of g d (suc a) b t
  after_word (t_word k l w x) = x

  pub two_parts : {g h : Rule} {d a c : ℕ} {t u : Shape} → Tree_of (seq g h) d a c (both t u)
      → (b : ℕ) × Tree_of g d a b t × Tree_of h d b c u
  two_parts (t_seq {b = b} x y) = (b, x, y)

  -- a signal, and what stands in its brackets
  pub signal_parts : (f : Format) (direction : Direction) (xs : List Signal) (m : ℕ) {d a b : ℕ}
      {t : Shape} → Tree_of (one_of (signal f direction) xs) d a b (pick m t)
      → (x : Signal) × (slice_get xs m ≡ Some x) × (passes direction x ≡ true)
      × Tree_of (brackets direction f x.kinds) d (suc a) b t
  signal_parts f direction xs m y =
      let q = one_of_shown (signal f direction) xs m y in
      let w = when_tree (passes direction q.0)
      {g = word (named q.0.name.bytes) (brackets direction f q.0.kinds)} q.2 in
      (q.0, q.1, w.0, after_word w.1)

  -- values and what was seen of them may fit
  abbrev GoodKnown : ℕ → ℕ → (Interaction → Expected) → Expected → List Kind → Type 0
  GoodKnown p m event x ks = (values : List Value)
      × (x ≡ event (record { port = p; signal = m; values = values })) × AllZip Fits ks values

  abbrev GoodBrackets : Direction → Format → ℕ → ℕ → Expected → List Kind → Type 0
  GoodBrackets Receives f p m x ks = GoodKnown p m (λ i. Known (Arrives i)) x ks
  GoodBrackets Sends Complete p m x ks = GoodKnown p m (λ i. Known (Leaves i)) x ks
  GoodBrackets Sends Partial p m x ks =
      (seen : List Seen) × IsSeenAs p m seen x × AllZip MayFit ks seen

  good_brackets : (direction : Direction) (f : Format) (p m : ℕ) (x : Expected) (ks : List Kind)
      {d a b : ℕ} {t : Shape} → Tree_of (brackets direction f ks) d a b t
      → ShowsBrackets direction f p m x ks t → GoodBrackets direction f p m x ks
  good_brackets Receives f p m x ks y h =
      (h.values, h.event_is, values_fit text s n ks h.values y h.shown)
  good_brackets Sends Complete p m x ks y h =
      (h.values, h.event_is, values_fit text s n ks h.values y h.shown)
  good_brackets Sends Partial p m x ks y h =
      (h.seen, h.seen_as, seens_fit text s n ks h.seen y h.shown)

  module _ (ports : List Port) (good : GoodPorts ports) where
    -- a head and the subscripts that stand after it, and a signal
    head_parts : (f : Format) (direction : Direction) (m : ℕ) {d a c : ℕ} {t u : Shape}
        → Tree_of (one_of (port f direction) ports) d a c (pick m (both t u))
        → (p : Port) × (slice_get ports m ≡ Some p) × (b : ℕ)
        × Tree_of (subscripts p.index_kinds) d (suc a) b t
        × Tree_of (one_of (signal f direction) p.signals) d (suc b) c u
    head_parts f direction m y =
        let p = one_of_shown (port f direction) ports m y in
        let g = seq (subscripts p.0.index_kinds) (dot_signal f direction p.0.signals) in
        let w = when_tree (is_head p.0 && some_pass direction p.0.signals)
        {g = word (named p.0.name.bytes) g} p.2 in
        let r = two_parts (after_word w.1) in
        (p.0, p.1, r.0, r.1, after_word r.2)

    -- the port is the element with these subscripts, and has the signals of its head
    pub element_signals : (m n : ℕ) (p q : Port) → slice_get ports m ≡ Some p
        → slice_get ports n ≡ Some q → q.name.bytes ≡ p.name.bytes
        → AllZip IsOrdinalOf p.index_kinds q.index → q.signals ≡ p.signals
    element_signals m n p q e h k index =
        let r = good.whole m p q.index e index in
        let same : r.0 ≡ n = good.differ r.0 n r.1 q r.2 h
        (one_place r.1 q (r.3.name_is ∙ sym k) r.3.index_is) in
        let element : r.1 ≡ q = one_there ports same r.2 h in
        ap (λ z. z.signals) (sym element) ∙ r.3.signals_are

    at_port : (f : Format) (direction : Direction) (i m : ℕ) (x : Expected) {d a b : ℕ}
        {t : Shape} → Tree_of (one_of (port f direction) ports) d a b t
        → ShowsAt (λ ks u. ShowsBrackets direction f i m x ks u) ports i m t
        → PassesAt direction ports i m (λ ks. GoodBrackets direction f i m x ks)
    at_port f direction i m x {d} {a} {b} y h =
        let p = head_parts f direction h.first
        (subst (λ t. Tree_of (one_of (port f direction) ports) d a b t) h.shape y) in
        let head : p.0 ≡ h.head = some_same (sym p.1 ∙ h.head_is) in
        let index = index_fits text s n p.0.index_kinds h.port.index p.3
        (subst (λ z. AreBracketed ShowsOrdinal z.index_kinds h.port.index h.index_shape) (sym head)
        h.index_shown) in
        let signals = element_signals h.first i p.0 h.port p.1 h.port_is
        (h.named ∙ ap (λ z. z.name.bytes) (sym head)) index in
        let q = signal_parts f direction p.0.signals m p.4 in
        let chosen : q.0 ≡ h.signal = some_same (sym q.1
        ∙ (ap (λ z. slice_get z.signals m) head ∙ h.signal_is)) in
        record {
          port = h.port;
          signal = q.0;
          port_is = h.port_is;
          signal_is = ap (λ z. slice_get z m) signals ∙ q.1;
          direction_is = q.2;
          fits = good_brackets direction f i m x q.0.kinds q.3
              (subst (λ z. ShowsBrackets direction f i m x z.kinds h.brackets_shape)
              (sym chosen) h.shown);
        }

    -- the same with more that holds of the kinds
    refit : (direction : Direction) (i m : ℕ) (Good Better : List Kind → Type 0)
        (h : PassesAt direction ports i m Good) → Better h.signal.kinds
        → PassesAt direction ports i m Better
    refit direction i m Good Better h b = record {
      port = h.port;
      signal = h.signal;
      port_is = h.port_is;
      signal_is = h.signal_is;
      direction_is = h.direction_is;
      fits = b;
    }

    seen_at : (i m : ℕ) (x : Expected) (Good : List Kind → Type 0) (xs : List Seen)
        (h : PassesAt Sends ports i m Good) → IsSeenAs i m xs x
        → AllZip MayFit h.signal.kinds xs → IsExpectedAt ports x
    seen_at i m _ Good xs h (whole vs g none) fits =
        refit Sends i m Good (λ ks. AllZip Fits ks vs) h
        (whole_fit h.signal.kinds xs vs none g fits)
    seen_at i m _ Good xs h (part g) fits =
        (refit Sends i m Good (λ ks. AllZip MayFit ks xs) h fits, g)

    passing_at : (f : Format) (direction : Direction) (i m : ℕ) (x : Expected)
        → PassesAt direction ports i m (λ ks. GoodBrackets direction f i m x ks)
        → IsExpectedAt ports x
    passing_at f Receives i m x h =
        subst (λ y. IsExpectedAt ports y) (sym h.fits.1)
        (refit Receives i m (λ ks. GoodBrackets Receives f i m x ks)
        (λ ks. AllZip Fits ks h.fits.0) h h.fits.2)
    passing_at Complete Sends i m x h =
        subst (λ y. IsExpectedAt ports y) (sym h.fits.1)
        (refit Sends i m (λ ks. GoodBrackets Sends Complete i m x ks)
        (λ ks. AllZip Fits ks h.fits.0) h h.fits.2)
    passing_at Partial Sends i m x h =
        seen_at i m x (λ ks. GoodBrackets Sends Partial i m x ks) h.fits.0 h h.fits.1
        h.fits.2

    event_at : (f : Format) (x : Expected) {d a b : ℕ} (t : Shape) → Tree_of (event f ports) d a b t
        → ShowsEvent f ports x t → IsExpectedAt ports x
    event_at f x (left (leaf (value v))) (t_left (t_word k l w (t_token _ k' l' w' z))) e =
        subst (λ y. IsExpectedAt ports y) (sym e) (bounded text 0 maxint v _ w' z)
    event_at f x (right (left t)) (t_right (t_left (t_word k l w y))) e =
        passing_at f Receives e.port e.signal x (at_port f Receives e.port e.signal x y e.shown)
    event_at f x (right (right t)) (t_right (t_right (t_word k l w y))) e =
        passing_at f Sends e.port e.signal x (at_port f Sends e.port e.signal x y e.shown)
    event_at f x t y e = absurd e

    pub all_at_ports : (f : Format) (xs : List Expected) {d a b : ℕ} (t : Shape)
        → Tree_of (rule (events_at f ports)) d a b t → ShowsEvents f ports xs t
        → AreAtPorts ports xs
    all_at_ports f [] t x e = λ k d l. absurd (omega (arith, l))
    all_at_ports f (y ∷ ys) (some (both t u)) (t_rule (t_opt_in (t_deeper (t_seq x z)))) e =
        all_cons (IsExpectedAt ports) y ys (event_at f y t x e.0) (all_at_ports f ys u z e.1)
    all_at_ports f (y ∷ ys) t x e = absurd e

  -- there are no more events than levels
  pub few : (f : Format) (ports : List Port) (xs : List Expected) {d a b : ℕ} (t : Shape)
      → Tree_of (rule (events_at f ports)) d a b t → ShowsEvents f ports xs t → length xs ≤ d
  few f ports [] t x e = omega arith
  few f ports (y ∷ ys) (some (both t u)) (t_rule (t_opt_in (t_deeper (t_seq x z)))) e =
      omega (arith, few f ports ys u z e.1)
  few f ports (y ∷ ys) t x e = absurd e

  -- what holds of the events of each format holds of those of a trace
  of_trace : (ports : List Port) (r : Recorded) {d a b : ℕ} (Good : ℕ → Type 0)
      → ((f : Format) (e i j : ℕ) (t : Shape) → Tree_of (rule (events_at f ports)) e i j t
      → ShowsEvents f ports r.events t → Good e)
      → (t : Shape) → Tree_of (trace ports) d a b t → ShowsTrace ports r t → Good d
  of_trace ports r Good good (left (both t u))
      (t_word k l w (t_left (t_word k' l' w' (t_seq x y)))) e = good Complete _ _ _ t x e.0
  of_trace ports r Good good (right (left (both t u)))
      (t_word k l w (t_right (t_left (t_word k' l' w' (t_seq x y))))) e = good Partial _ _ _ t x e.0
  of_trace ports r Good good (right (right (both t u)))
      (t_word k l w (t_right (t_right (t_word k' l' w' (t_seq x y))))) e = good Partial _ _ _ t x e.0
  of_trace ports r Good good t x e = absurd e

  trace_few : (ports : List Port) (r : Recorded) {d a b : ℕ} (t : Shape)
      → Tree_of (trace ports) d a b t → ShowsTrace ports r t → length r.events ≤ d
  trace_few ports r t x e =
      of_trace ports r (λ d. length r.events ≤ d) (λ f c i j u y s. few f ports r.events u y s) t x e

  trace_at_ports : (ports : List Port) (r : Recorded) {d a b : ℕ} (t : Shape) → GoodPorts ports
      → Tree_of (trace ports) d a b t → ShowsTrace ports r t → AreAtPorts ports r.events
  trace_at_ports ports r t good x e =
      of_trace ports r (λ d. AreAtPorts ports r.events)
      (λ f c i j u y s. all_at_ports ports good f r.events u y s) t x e

-- the events of a trace text stand at the ports, and are few
pub text_at_ports : (most : ℕ) (ports : List Port) (text : List ℕ) (tokens : List Token)
    (r : Recorded) → GoodPorts ports → IsTraceOfAtMost most ports text tokens r
    → AreAtPorts ports r.events × (length r.events ≤ most)
text_at_ports most ports text tokens r good h = (
  trace_at_ports text tokens (length tokens) ports r h.0 good h.1 h.2,
  trace_few text tokens (length tokens) ports r h.0 h.1 h.2,
)

-- whatever the ports, a trace text has no more events than levels
pub text_few : (most : ℕ) (ports : List Port) (text : List ℕ) (tokens : List Token)
    (r : Recorded) → IsTraceOfAtMost most ports text tokens r → length r.events ≤ most
text_few most ports text tokens r h = trace_few text tokens (length tokens) ports r h.0 h.1 h.2
