-- What is written of a trace is read as what it was written of.
use Rattle.std.proofs.Common.{◌≡◌, ℕ, ◌≤◌, List, [], ◌∷◌, ◌++◌, length, drop, get_or, refl, sym}
use Rattle.std.proofs.Common.{subst, arith, length-append, length-drop}
use Rattle.std.specs.Prelude.{Result, Ok, Err}
use Rattle.std.proofs.lemmas.List.{append-nil, drop_at}
use Rattle.est_lexer.specs.declared.kind.Token.{Token}
use Rattle.est_lexer.specs.Between.{IsBetween, nothing}
use Rattle.est_lexer.specs.TokenList.{IsTokenList}
use Rattle.est_lexer.proofs.Unique.{tokens_unique}
use Rattle.text_reader.specs.Grammar.{Tree}
use Rattle.text_reader.proofs.Trees.{tree_inside}
use Rattle.est_syntax.specs.declared.ports.Port.{Port}
use Rattle.est_syntax.specs.declared.specification.Spec.{Spec}
use Rattle.rule_declares.specs.PortList.{ports_of}
use Rattle.est_trace.proofs.GoodPorts.{good_ports}
use Rattle.est_meaning.specs.declared.event.Event.{Event}
use Rattle.est_meaning.specs.declared.event.Event.TheVariants.{Arrives, Leaves, Passes}
use Rattle.est_meaning.specs.declared.trace.Expected.{Expected}
use Rattle.est_meaning.specs.declared.trace.Expected.TheVariants.{Known, Partly}
use Rattle.est_meaning.specs.RecordedTraces.{Recorded}
use Rattle.est_meaning.specs.AllowedEvents.{IsReceivable, IsSendable, IsAllowed, IsAllowedExpected}
use Rattle.est_meaning.specs.AllowedEvents.{most_events, IsAllowedTrace}
use Rattle.text_values.specs.TraceGrammar.{trace}
use Rattle.est_trace.specs.declared.error.TraceError.{TraceError}
use Rattle.est_trace.specs.declared.error.TraceError.TheVariants.{BadToken, TooMany, Memory}
use Rattle.est_trace.specs.inside.AtPorts.{IsAtPorts, IsExpectedAt, AreAtPorts}
use Rattle.est_trace.specs.TraceShapes.{ShowsTrace}
use Rattle.est_trace.specs.TraceText.{traces, IsTraceText, ReadsTrace}
use Rattle.est_trace.specs.WrittenTraces.{trace_text}
use Rattle.law_texts.specs.ReadablePorts.{AreReadablePorts}
use Rattle.law_texts.specs.ReadBackLaws.{AreReadBack}
use Rattle.est_explanation.proofs.Words.{tokens_at, text_of, are_tokens, are_written, AreWritten}
use Rattle.law_texts.proofs.Wholes.{all_whole}
use Rattle.law_texts.proofs.Writing.{Parsed, Writes}
use Rattle.law_texts.proofs.Marks.{NoStar}
use Rattle.law_texts.proofs.Traces.{trace_written}

-- no token is left where no word is
none_left : (text : List ℕ) (ts : List Token) → AreWritten text ts [] → length ts ≡ 0
none_left text [] h = refl
none_left text (t ∷ ts) h = elim h [ ]

all_read : (ports : List Port) (text : List ℕ) (s : List Token) (recorded : Recorded)
    → Parsed text s (trace ports) most_events (λ t. ShowsTrace ports recorded t) 0 []
    → IsTraceText ports text s recorded
all_read ports text s recorded r =
    let left = none_left text (drop r.last s) r.rest in
    let within = tree_inside (traces text) s (length s) r.tree (omega arith) in
    let end : r.last ≡ length s = omega (arith, length-drop r.last s) in (
      r.shape,
      subst (λ n. Tree (traces text) s (length s) (trace ports) most_events 0 n r.shape) end r.tree,
      r.is,
    )

module _ (ports : List Port) (recorded : Recorded)
    (w : Writes NoStar (length recorded.events) (trace ports)
    (λ t. ShowsTrace ports recorded t) (trace_text ports recorded))
    (few : length recorded.events ≤ most_events) where
  -- the words stand after what is before them
  words_there : (front : List ℕ)
      → drop (length front) (front ++ text_of w.words) ≡ text_of w.words
  words_there front = drop_at front (text_of w.words) (length front) refl

  -- the tokens of the words are a text of the trace
  words_are_text : (front : List ℕ)
      → IsTraceText ports (front ++ text_of w.words) (tokens_at (length front) w.words) recorded
  words_are_text front =
      let text = front ++ text_of w.words in
      let s = tokens_at (length front) w.words in
      let h = are_written text (length front) w.words (words_there front) in
      all_read ports text s recorded (w.read text s most_events 0 [] few
      (subst (λ ws. AreWritten text s ws) (sym (append-nil w.words)) h))

  -- so is what is written, after blanks and comments
  pub written_text : (front : List ℕ) (tokens : List Token)
      → IsBetween (front ++ trace_text ports recorded) 0 (length front)
      → IsTokenList (front ++ trace_text ports recorded) tokens
      → IsTraceText ports (front ++ trace_text ports recorded) tokens recorded
  written_text front tokens between h =
      let text = front ++ text_of w.words in
      let before = subst (λ bytes. IsBetween (front ++ bytes) 0 (length front)) (sym w.spelled)
      between in
      let inside : length front ≤ length text =
      omega (arith, length-append front (text_of w.words)) in
      let list = are_tokens text 0 (length front) w.words before inside (words_there front)
      (all_whole w.words (w.whole [] refl)) in
      let mine = subst (λ bytes. IsTokenList (front ++ bytes) tokens) (sym w.spelled) h in
      subst (λ bytes. IsTraceText ports (front ++ bytes) tokens recorded) w.spelled
      (subst (λ ts. IsTraceText ports text ts recorded)
      (tokens_unique text 0 (tokens_at (length front) w.words) tokens list mine)
      (words_are_text front))

-- an event that may stand in a trace stands at a port
at_ports : (spec : Spec) (e : Event) → IsAllowed spec e → IsAtPorts (ports_of spec) e
unfolding IsReceivable IsSendable
at_ports spec (Arrives i) (port, signal, is, receives) = record {
  port = port;
  signal = signal;
  port_is = is.port_is;
  signal_is = is.signal_is;
  direction_is = receives;
  fits = is.fits;
}
at_ports spec (Leaves i) (port, signal, is, sends) = record {
  port = port;
  signal = signal;
  port_is = is.port_is;
  signal_is = is.signal_is;
  direction_is = sends;
  fits = is.fits;
}
at_ports spec (Passes units) h = h

expected_at : (spec : Spec) (x : Expected) → IsAllowedExpected spec x
    → IsExpectedAt (ports_of spec) x
expected_at spec (Known e) h = at_ports spec e h
expected_at spec (Partly port signal seen) h = (
  record {
    port = h.at;
    signal = h.sent;
    port_is = h.port_is;
    signal_is = h.signal_is;
    direction_is = h.sends;
    fits = h.may_fit;
  },
  h.partly,
)

pub texts_after : (spec : Spec) (recorded : Recorded) (front : List ℕ) (tokens : List Token)
    → AreReadablePorts (ports_of spec) → IsAllowedTrace spec recorded
    → IsBetween (front ++ trace_text (ports_of spec) recorded) 0 (length front)
    → IsTokenList (front ++ trace_text (ports_of spec) recorded) tokens
    → IsTraceText (ports_of spec) (front ++ trace_text (ports_of spec) recorded) tokens recorded
texts_after spec recorded front tokens readable allowed between h =
    let ports = ports_of spec in
    let at : AreAtPorts ports recorded.events = λ i d l.
    expected_at spec (get_or recorded.events i d) (allowed.each i d l) in
    let w = trace_written ports (good_ports spec) readable recorded at in
    written_text ports recorded w allowed.few front tokens between h

pub texts : (spec : Spec) (recorded : Recorded) (tokens : List Token)
    → AreReadablePorts (ports_of spec) → IsAllowedTrace spec recorded
    → IsTokenList (trace_text (ports_of spec) recorded) tokens
    → IsTraceText (ports_of spec) (trace_text (ports_of spec) recorded) tokens recorded
texts spec recorded tokens readable allowed h =
    texts_after spec recorded [] tokens readable allowed (nothing 0) h

-- the answer to a text of the trace
answered : (ports : List Port) (text : List ℕ) (tokens : List Token) (recorded : Recorded)
    (answer : Result Recorded TraceError) → IsTraceText ports text tokens recorded
    → ReadsTrace ports text tokens answer → AreReadBack recorded answer
answered ports text tokens recorded (Ok other) h r = sym (r.1 recorded h)
answered ports text tokens recorded (Err (BadToken place)) h r = r.0.no_tree h.0 h.1
answered ports text tokens recorded (Err (TooMany place)) h r = r.0.no_tree h.0 h.1
answered ports text tokens recorded (Err (Memory error)) h r = tt

pub read_back : (spec : Spec) (recorded : Recorded) (tokens : List Token)
    (answer : Result Recorded TraceError)
    → AreReadablePorts (ports_of spec) → IsAllowedTrace spec recorded
    → IsTokenList (trace_text (ports_of spec) recorded) tokens
    → ReadsTrace (ports_of spec) (trace_text (ports_of spec) recorded) tokens answer
    → AreReadBack recorded answer
read_back spec recorded tokens answer readable allowed h r =
    answered (ports_of spec) (trace_text (ports_of spec) recorded) tokens recorded answer
    (texts spec recorded tokens readable allowed h) r
