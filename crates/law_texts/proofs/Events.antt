-- Events, as they are written.
use Rattle.std.proofs.Common.{◌≡◌, ℕ, Bool, true, false, ◌&&◌, List, [], ◌∷◌, ◌++◌, length, get_or}
use Rattle.std.proofs.Common.{refl, sym, ap, ap₂, subst, ◌∙◌, arith, append_assoc, bytes_eq, eqb}
use Rattle.std.proofs.Common.{Option, Some, slice_get, ◌≤◌}
use Rattle.std.specs.List.{AllZip}
use Rattle.std.specs.Prelude.{codes}
use Rattle.std.specs.Str.{str_to_ascii_lowercase}
use Rattle.std.proofs.lemmas.Bool.Decides.{nat_tests}
use Rattle.std.proofs.lemmas.Map.Keys.{any_passes_from_place}
use Rattle.est_lexer.specs.declared.kind.TokenKind.TheVariants.{Symbol}
use Rattle.est_lexer.specs.declared.kind.Symbol.TheVariants as symbols
use Rattle.est_lexer.specs.Between.{is_blank, opening}
use Rattle.est_lexer.specs.Spellings.{is_identifier, is_identifier_part, name_kind, word_kind}
use Rattle.est_lexer.specs.Words.{words}
use Rattle.est_lexer.proofs.SymbolBytes.{one_period}
use Rattle.text_reader.specs.Grammar.{word, seq, when, one_of, Tree, both, left, right, pick}
use Rattle.est_syntax.specs.Kinds.{maxint}
use Rattle.est_syntax.specs.declared.kind.Kind.{Kind}
use Rattle.est_syntax.specs.declared.ports.Direction.{Direction}
use Rattle.est_syntax.specs.declared.ports.Direction.TheVariants.{Receives, Sends}
use Rattle.est_syntax.specs.declared.ports.Port.{Port}
use Rattle.est_syntax.specs.declared.ports.Signal.{Signal}
use Rattle.est_values.specs.declared.value.Value.{Value}
use Rattle.est_values.specs.FittingValues.{Fits}
use Rattle.est_seen.specs.declared.seen.Seen.{Seen}
use Rattle.est_seen.specs.SeenValues.{SomeHasAny, MayFit}
use Rattle.est_meaning.specs.declared.event.Interaction.{Interaction}
use Rattle.est_meaning.specs.declared.event.Event.TheVariants.{Arrives, Leaves, Passes}
use Rattle.est_meaning.specs.declared.trace.Expected.{Expected}
use Rattle.est_meaning.specs.declared.trace.Expected.TheVariants.{Known, Partly}
use Rattle.text_reader.specs.Tests.{kind, spelled, named, is_spelled, language}
use Rattle.text_reader.specs.Going.{Shape}
use Rattle.text_values.specs.declared.formats.Format.{Format}
use Rattle.text_values.specs.declared.formats.Format.TheVariants.{Complete, Partial}
use Rattle.text_values.specs.TraceGrammar as grammar
use Rattle.text_values.specs.TraceGrammar.{Rule, production, passes, some_pass, is_head, brackets}
use Rattle.text_values.specs.TraceGrammar.{parameters, seen_parameters, subscripts, dot_signal}
use Rattle.text_values.specs.TraceGrammar.{port, event, a_value, a_seen}
use Rattle.text_values.specs.SeenShapes.{ShowsSeen}
use Rattle.text_values.specs.ValueShapes.{AreBracketed, ShowsOrdinal, ShowsValue}
use Rattle.est_trace.specs.PortNames.{GoodPorts}
use Rattle.est_trace.specs.TraceShapes.{ShowsAt, IsSeenAs, whole, part, ShowsKnown, ShowsPartly}
use Rattle.est_trace.specs.TraceShapes.{ShowsBrackets, ShowsPassing, ShowsEvent}
use Rattle.est_trace.specs.inside.AtPorts.{PassesAt, IsAtPort, IsExpectedAt}
use Rattle.est_trace.proofs.SameTests.{same_head}
use Rattle.text_values.specs.WrittenLists.{bracketed}
use Rattle.text_values.specs.WrittenOrdinals.{ordinal_text}
use Rattle.text_values.specs.WrittenSeen.{seen_text, seen_texts}
use Rattle.text_values.specs.WrittenValues.{value_text, value_texts}
use Rattle.est_trace.specs.WrittenTraces.{ordinal_texts, index_text, Parts, signal_text, signal_at}
use Rattle.est_trace.specs.WrittenTraces.{signals_at, port_at, text_at, interaction_text}
use Rattle.est_trace.specs.WrittenTraces.{happening, expectation, is_known}
use Rattle.law_texts.specs.ReadableKinds.{IsReadable}
use Rattle.law_texts.specs.ReadablePorts.{IsReadablePort, AreReadablePorts}
use Rattle.est_explanation.proofs.Words.{Written}
use Rattle.text_printer.proofs.Standing.{Stands, name_stands, symbol_stands}
use Rattle.law_texts.proofs.Wholes.{Ends, standing_whole}
use Rattle.law_texts.proofs.Writing.{Writes, word_written, both_written, made_written}
use Rattle.law_texts.proofs.Writing.{first_written, second_written, shown_written, picked}
use Rattle.law_texts.proofs.Marks.{marked, mark_meets, left_parenthesis, name_written}
use Rattle.law_texts.proofs.Marks.{right_parenthesis, left_bracket, right_bracket, name_no_star}
use Rattle.law_texts.proofs.Marks.{name_no_period, number_written}
use Rattle.law_texts.proofs.Lists.{bracketed_written}
use Rattle.law_texts.proofs.SeenValues.{seens_written}
use Rattle.law_texts.proofs.Values.{values_written, ordinals_written}
use Rattle.law_texts.proofs.WholeValues.{values_seen, each_may_fit}

-- a list in brackets that may be empty ends what stands before it
bracket_ends : (a : ℕ) (closing : List ℕ) (items : List (List ℕ)) (rest : List ℕ)
    → is_identifier_part a ≡ false → eqb a 42 ≡ false → Ends rest
    → Ends (bracketed (a ∷ []) closing items ++ rest)
bracket_ends a closing [] rest p s h = h
bracket_ends a closing (item ∷ items) rest p s h =
    record { no_part = p; no_star = s }

period_stands : (rest : List ℕ) → (get_or rest 0 0 ≡ 46 → ⊥)
    → Stands (Symbol symbols.Period) (46 ∷ []) rest
unfolding opening
period_stands rest h =
    symbol_stands 46 (Symbol symbols.Period) rest refl refl refl refl
    (one_period (get_or rest 0 0) (get_or rest 1 0) h)

blank_no_part : (b : ℕ) → is_blank b ≡ true → is_identifier_part b ≡ false
blank_no_part b h = grind (arith, nat_tests)

module _ (f : Format) (direction : Direction) (ports : List Port) (number at_signal : ℕ)
    (Shown : List Kind → Shape → Type 0) (parts : Parts) (p : Port) (s : Signal)
    (port_is : slice_get ports number ≡ Some p)
    (signal_is : slice_get p.signals at_signal ≡ Some s) (passed : passes direction s ≡ true)
    (readable : IsReadablePort p)
    (inside : Writes Ends 0 (brackets direction f s.kinds) (λ t. Shown s.kinds t)
    (bracketed (codes "(") (codes ")") (parts s.kinds))) where
  -- which of the signals it is, and what stands in its brackets
  abbrev ShowsSignal : Shape → Type 0
  ShowsSignal t = (u : Shape) × (t ≡ pick at_signal u) × Shown s.kinds u

  one_signal : Writes Ends 0 (grammar.signal f direction s) (λ t. Shown s.kinds t)
      (signal_text parts s)
  one_signal =
      subst (λ b. Writes Ends 0 (when b (word (named s.name.bytes) (brackets direction f s.kinds)))
      (λ t. Shown s.kinds t) (signal_text parts s)) (sym passed)
      (name_written s.name.bytes (readable.signals at_signal s signal_is).name inside
      (λ rest h. (bracket_ends 40 (codes ")") (parts s.kinds) rest refl refl h).no_part))

  signals_written : Writes Ends 0 (one_of (grammar.signal f direction) p.signals) ShowsSignal
      (signal_text parts s)
  signals_written =
      made_written one_signal (λ text ts d a b t i y. (
        pick at_signal t,
        picked text ts (grammar.signal f direction) p.signals at_signal s d a b t signal_is y,
        (t, refl, i),
      ))

  no_period : (rest : List ℕ) → get_or (signal_text parts s ++ rest) 0 0 ≡ 46 → ⊥
  no_period rest =
      let items = bracketed (codes "(") (codes ")") (parts s.kinds) in
      subst (λ r. get_or r 0 0 ≡ 46 → ⊥) (sym (append_assoc s.name.bytes items rest))
      (name_no_period s.name.bytes (items ++ rest)
      (readable.signals at_signal s signal_is).name.identifier)

  dot_written : Writes Ends 0 (dot_signal f direction p.signals) ShowsSignal
      (codes "." ++ signal_text parts s)
  dot_written =
      word_written (kind (Symbol symbols.Period)) (marked symbols.Period 46 []) signals_written
      (mark_meets symbols.Period 46 [] refl)
      (λ rest h. standing_whole (Symbol symbols.Period) (46 ∷ []) []
      (signal_text parts s ++ rest) refl
      (period_stands (signal_text parts s ++ rest) (no_period rest))) (λ rest. refl)

  subscripts_written : Writes Ends 0 (subscripts p.index_kinds)
      (λ t. AreBracketed ShowsOrdinal p.index_kinds p.index t) (index_text p)
  subscripts_written =
      bracketed_written grammar.ordinal ShowsOrdinal ordinal_text symbols.LeftBracket
      symbols.RightBracket 91 93 left_bracket right_bracket p.index_kinds p.index
      (ordinals_written p.index_kinds p.index readable.index_kinds readable.index)

  -- the subscripts of the port, and the signal
  abbrev ShowsParts : Shape → Type 0
  ShowsParts t = (i : Shape) × (v : Shape) × (t ≡ both i (pick at_signal v))
      × AreBracketed ShowsOrdinal p.index_kinds p.index i
      × Shown s.kinds v

  parts_written : Writes Ends 0
      (seq (subscripts p.index_kinds) (dot_signal f direction p.signals)) ShowsParts
      (index_text p ++ (codes "." ++ signal_text parts s))
  parts_written =
      both_written ShowsParts subscripts_written dot_written
      (λ rest h. record { no_part = refl; no_star = refl })
      (λ t u i j. (t, j.0, ap (both t) j.1, i, j.2))

  named_written : Writes Ends 0 (word (named p.name.bytes)
      (seq (subscripts p.index_kinds) (dot_signal f direction p.signals))) ShowsParts
      (p.name.bytes ++ (index_text p ++ (codes "." ++ signal_text parts s)))
  named_written =
      name_written p.name.bytes readable.name parts_written (λ rest h. after rest)
    where
      after : (rest : List ℕ) → is_identifier_part
          (get_or ((index_text p ++ (codes "." ++ signal_text parts s)) ++ rest) 0 0) ≡ false
      after rest =
          let tail = codes "." ++ signal_text parts s in
          subst (λ r. is_identifier_part (get_or r 0 0) ≡ false)
          (sym (append_assoc (index_text p) tail rest))
          (bracket_ends 91 (codes "]") (ordinal_texts p.index_kinds p.index) (tail ++ rest) refl
          refl record { no_part = refl; no_star = refl }).no_part

  text_is : p.name.bytes ++ (index_text p ++ (codes "." ++ signal_text parts s))
      ≡ text_at ports number at_signal parts
  text_is =
      let whole = λ (o : Option Port) (i : Option Signal). port_at o ++ signal_at parts i in
      let front = p.name.bytes ++ index_text p in
      sym (append_assoc p.name.bytes (index_text p) (codes "." ++ signal_text parts s))
      ∙ sym (append_assoc front (codes ".") (signal_text parts s))
      ∙ ap (whole (Some p)) (sym signal_is)
      ∙ ap (λ o. whole o (slice_get (signals_at o) at_signal)) (sym port_is)

  -- what stands for the name of the port
  at_written : GoodPorts ports → Writes Ends 0 (one_of (port f direction) ports)
      (λ t. ShowsAt Shown ports number at_signal t) (text_at ports number at_signal parts)
  at_written good =
      let h = good.headed number p port_is in
      let q = h.1 in
      let same = good.alike h.0 number q p h.2 port_is h.3 in
      let kinds : q.index_kinds ≡ p.index_kinds = same.0 in
      let signals : q.signals ≡ p.signals = same.1 in
      let some : some_pass direction q.signals ≡ true =
      ap (some_pass direction) signals
      ∙ any_passes_from_place (passes direction) p.signals at_signal s signal_is passed in
      let open_is : (is_head q && some_pass direction q.signals) ≡ true =
      ap₂ (λ a b. a && b) (sym (same_head q) ∙ h.4) some in
      let body = λ (name : List ℕ) (ks : List Kind) (ss : List Signal).
      word (named name) (seq (subscripts ks) (dot_signal f direction ss)) in
      let rule_is : port f direction q ≡ body p.name.bytes p.index_kinds p.signals =
      ap (λ b. when b (body q.name.bytes q.index_kinds q.signals)) open_is
      ∙ ap (λ n. body n q.index_kinds q.signals) h.3
      ∙ ap (λ ks. body p.name.bytes ks q.signals) kinds
      ∙ ap (λ ss. body p.name.bytes p.index_kinds ss) signals in
      made_written
      (subst (λ bytes. Writes Ends 0 (body p.name.bytes p.index_kinds p.signals) ShowsParts
      bytes) text_is named_written)
      (λ text ts d a b t i y. (
        pick h.0 t,
        picked text ts (port f direction) ports h.0 q d a b t h.2
            (subst (λ g. Tree (language production text) ts (length ts) g d a b t) (sym rule_is)
            y),
        record {
          first = h.0;
          head = q;
          port = p;
          signal = s;
          index_shape = i.0;
          brackets_shape = i.1;
          shape = ap (pick h.0) i.2;
          head_is = h.2;
          port_is = port_is;
          named = sym h.3;
          index_shown = subst (λ ks. AreBracketed ShowsOrdinal ks p.index i.0) (sym kinds) i.3;
          signal_is = ap (λ ss. slice_get ss at_signal) signals ∙ signal_is;
          shown = i.4;
        },
      ))

-- BRACKETS

-- the kinds of the parameters of a signal of a readable port
signal_kinds : (p : Port) (n : ℕ) (s : Signal) → IsReadablePort p → slice_get p.signals n ≡ Some s
    → (i : ℕ) (k : Kind) → slice_get s.kinds i ≡ Some k → IsReadable k
signal_kinds p n s r e = (r.signals n s e).kinds

module _ (ks : List Kind) (k m : ℕ)
    (readable : (i : ℕ) (j : Kind) → slice_get ks i ≡ Some j → IsReadable j) where
  -- values
  values_inside : (vs : List Value) (event : Interaction → Expected) → AllZip Fits ks vs
      → Writes Ends 0 (parameters ks)
      (λ t. ShowsKnown k m event (event (record { port = k; signal = m; values = vs })) ks t)
      (bracketed (codes "(") (codes ")") (value_texts ks vs))
  values_inside vs event fits =
      let x = event (record { port = k; signal = m; values = vs }) in
      shown_written (λ t. ShowsKnown k m event x ks t)
      (bracketed_written a_value ShowsValue value_text symbols.LeftParenthesis
      symbols.RightParenthesis 40 41 left_parenthesis right_parenthesis ks vs
      (values_written ks vs readable fits))
      (λ t h. record { values = vs; event_is = refl; shown = h })

  -- what was seen of them
  seens_inside : (xs : List Seen) (x : Expected) → IsSeenAs k m xs x → AllZip MayFit ks xs
      → Writes Ends 0 (seen_parameters ks) (λ t. ShowsPartly k m x ks t)
      (bracketed (codes "(") (codes ")") (seen_texts ks xs))
  seens_inside xs x s fits =
      shown_written (λ t. ShowsPartly k m x ks t)
      (bracketed_written a_seen ShowsSeen seen_text symbols.LeftParenthesis
      symbols.RightParenthesis 40 41 left_parenthesis right_parenthesis ks xs
      (seens_written ks xs readable fits))
      (λ t h. record { seen = xs; seen_as = s; shown = h })

  -- values where what was seen may stand
  wholes_inside : (vs : List Value) → AllZip Fits ks vs
      → Writes Ends 0 (seen_parameters ks)
      (λ t. ShowsPartly k m (Known (Leaves (record { port = k; signal = m; values = vs }))) ks t)
      (bracketed (codes "(") (codes ")") (value_texts ks vs))
  wholes_inside vs fits =
      let r = values_seen ks vs fits in
      let x = Known (Leaves (record { port = k; signal = m; values = vs })) in
      subst (λ (ts : List (List ℕ)). Writes Ends 0 (seen_parameters ks)
      (λ t. ShowsPartly k m x ks t) (bracketed (codes "(") (codes ")") ts)) r.texts_are
      (seens_inside r.seen x (whole vs r.match r.whole) (each_may_fit ks r.seen vs fits r.match))

-- EVENTS

-- a word that is no name, and a blank or a line feed
abbrev pub keyword : List ℕ → ℕ → Written
keyword bytes b = record { kind = name_kind bytes; bytes = bytes; gap = b ∷ [] }

-- whether these bytes are the word that is spelled so
abbrev pub is_said : List ℕ → Bool
is_said bytes = is_spelled (name_kind bytes) && bytes_eq bytes (str_to_ascii_lowercase bytes)

pub keyword_written : {After : List ℕ → Type 0} {least : ℕ} {g : Rule} {Is : Shape → Type 0}
    {bytes : List ℕ} (name : List ℕ) (b : ℕ) → is_said name ≡ true → is_identifier name ≡ true
    → is_blank b ≡ true → Writes After least g Is bytes
    → Writes After least (word (spelled name) g) Is (name ++ (b ∷ bytes))
keyword_written {bytes = bytes} name b e i blank x =
    word_written (spelled name) (keyword name b) x (λ text t w. rw (w.kind, w.spelled) e)
    (λ rest h. standing_whole (name_kind name) name (b ∷ []) (b ∷ (bytes ++ rest))
    (rw blank refl) (name_stands name (b ∷ (bytes ++ rest)) i (blank_no_part b blank)))
    (λ rest. name_no_star name rest i)

-- an event may stand in a trace of this format
abbrev pub MayStand : Format → Expected → Type 0
MayStand Complete x = is_known x ≡ true
MayStand Partial x = Unit {0}

module _ (ports : List Port) (good : GoodPorts ports) (readable : AreReadablePorts ports) where
  -- an interaction that passes a port
  passing_written : (f : Format) (direction : Direction) (x : Expected) (i : Interaction)
      (h : IsAtPort direction ports i)
      → Writes Ends 0 (brackets direction f h.signal.kinds)
      (λ t. ShowsBrackets direction f i.port i.signal x h.signal.kinds t)
      (bracketed (codes "(") (codes ")") (value_texts h.signal.kinds i.values))
      → Writes Ends 0 (one_of (port f direction) ports)
      (λ t. ShowsPassing direction f ports x t) (interaction_text ports i)
  passing_written f direction x i h inside =
      shown_written (λ t. ShowsPassing direction f ports x t)
      (at_written f direction ports i.port i.signal
      (λ ks u. ShowsBrackets direction f i.port i.signal x ks u)
      (λ ks. value_texts ks i.values) h.port h.signal h.port_is h.signal_is h.direction_is
      (readable i.port h.port h.port_is) inside good)
      (λ t y. record { port = i.port; signal = i.signal; shown = y })

  arrival_written : (f : Format) (i : Interaction) → IsAtPort Receives ports i
      → Writes Ends 0 (one_of (port f Receives) ports)
      (λ t. ShowsPassing Receives f ports (Known (Arrives i)) t) (interaction_text ports i)
  arrival_written f i h =
      passing_written f Receives (Known (Arrives i)) i h
      (values_inside h.signal.kinds i.port i.signal
      (signal_kinds h.port i.signal h.signal (readable i.port h.port h.port_is) h.signal_is)
      i.values (λ j. Known (Arrives j)) h.fits)

  departure_written : (f : Format) (i : Interaction) → IsAtPort Sends ports i
      → Writes Ends 0 (one_of (port f Sends) ports)
      (λ t. ShowsPassing Sends f ports (Known (Leaves i)) t) (interaction_text ports i)
  departure_written Complete i h =
      passing_written Complete Sends (Known (Leaves i)) i h
      (values_inside h.signal.kinds i.port i.signal
      (signal_kinds h.port i.signal h.signal (readable i.port h.port h.port_is) h.signal_is)
      i.values (λ j. Known (Leaves j)) h.fits)
  departure_written Partial i h =
      passing_written Partial Sends (Known (Leaves i)) i h
      (wholes_inside h.signal.kinds i.port i.signal
      (signal_kinds h.port i.signal h.signal (readable i.port h.port h.port_is) h.signal_is)
      i.values h.fits)

  -- a departure that was seen in part
  partly_written : (k m : ℕ) (xs : List Seen)
      → PassesAt Sends ports k m (λ ks. AllZip MayFit ks xs) → SomeHasAny xs
      → Writes Ends 0 (one_of (port Partial Sends) ports)
      (λ t. ShowsPassing Sends Partial ports (Partly k m xs) t)
      (text_at ports k m (λ ks. seen_texts ks xs))
  partly_written k m xs h some =
      shown_written (λ t. ShowsPassing Sends Partial ports (Partly k m xs) t)
      (at_written Partial Sends ports k m (λ ks u. ShowsPartly k m (Partly k m xs) ks u)
      (λ ks. seen_texts ks xs) h.port h.signal h.port_is h.signal_is h.direction_is
      (readable k h.port h.port_is)
      (seens_inside h.signal.kinds k m
      (signal_kinds h.port m h.signal (readable k h.port h.port_is) h.signal_is) xs
      (Partly k m xs) (part some) h.fits) good)
      (λ t y. record { port = k; signal = m; shown = y })

  -- what stands after "in" and after "out"
  after_in : (f : Format) (x : Expected) {bytes : List ℕ}
      → Writes Ends 0 (one_of (port f Receives) ports)
      (λ t. ShowsPassing Receives f ports x t) bytes
      → Writes Ends 0 (event f ports) (λ t. ShowsEvent f ports x t) (codes "in " ++ bytes)
  unfolding word_kind words
  after_in f x w =
      second_written (λ t. ShowsEvent f ports x t)
      (first_written (λ t. ShowsEvent f ports x (right t))
      (keyword_written (codes "in") 32 refl refl refl w) _ (λ t i. i)) _ (λ t i. i)

  after_out : (f : Format) (x : Expected) {bytes : List ℕ}
      → Writes Ends 0 (one_of (port f Sends) ports) (λ t. ShowsPassing Sends f ports x t) bytes
      → Writes Ends 0 (event f ports) (λ t. ShowsEvent f ports x t) (codes "out " ++ bytes)
  unfolding word_kind words
  after_out f x w =
      second_written (λ t. ShowsEvent f ports x t)
      (second_written (λ t. ShowsEvent f ports x (right t))
      (keyword_written (codes "out") 32 refl refl refl w) _ (λ t i. i)) _ (λ t i. i)

  time_written : (f : Format) (units : ℕ) → units ≤ maxint
      → Writes Ends 0 (event f ports) (λ t. ShowsEvent f ports (Known (Passes units)) t)
      (happening ports (Passes units))
  unfolding word_kind words
  time_written f units h =
      first_written (λ t. ShowsEvent f ports (Known (Passes units)) t)
      (keyword_written (codes "time") 32 refl refl refl
      (number_written units 0 maxint (omega arith) h (omega (arith, h)))) _
      (λ t i. subst (λ u. ShowsEvent f ports (Known (Passes units)) (left u)) (sym i) refl)

  pub event_written : (f : Format) (x : Expected) → IsExpectedAt ports x → MayStand f x
      → Writes Ends 0 (event f ports) (λ t. ShowsEvent f ports x t) (expectation ports x)
  event_written f (Known (Passes units)) h s = time_written f units h
  event_written f (Known (Arrives i)) h s =
      after_in f (Known (Arrives i)) (arrival_written f i h)
  event_written f (Known (Leaves i)) h s =
      after_out f (Known (Leaves i)) (departure_written f i h)
  event_written Complete (Partly k m xs) h s = absurd cc
  event_written Partial (Partly k m xs) h s =
      after_out Partial (Partly k m xs) (partly_written k m xs h.0 h.1)
