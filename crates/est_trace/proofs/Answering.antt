-- From what a reader of a trace does to the answer.
use Rattle.std.proofs.Common.{All, ◌≡◌, ℕ, ◌≤◌, true, List, length, refl, sym, subst, Result}
use Rattle.std.proofs.Common.{Ok, Err}
use Rattle.std.specs.Result.{IsErr, IsErrAnd}
use Rattle.est_lexer.specs.declared.tokens.Tokens.{Tokens}
use Rattle.est_lexer.specs.Offsets.{text_of, tokens_of}
use Rattle.est_syntax.specs.declared.ports.Port.{Port}
use Rattle.est_meaning.specs.RecordedTraces.{Recorded, HasUnseen}
use Rattle.est_meaning.specs.AllowedEvents.{most_events}
use Rattle.text_reader.specs.declared.reader.Reader.{Reader}
use Rattle.text_reader.specs.declared.outcome.Outcome.TheVariants.{Well}
use Rattle.text_reader.specs.declared.refusal.Refusal.{Refusal}
use Rattle.text_reader.specs.declared.refusal.Refusal.TheVariants.{BadToken, TooDeep, Memory}
use Rattle.text_reader.specs.Moving.{Does}
use Rattle.text_reader.specs.Whole.{Starts, Finishes}
use Rattle.text_reader.proofs.Whole.{whole_read, whole_refused, got_deep}
use Rattle.est_trace.specs.declared.error.TraceError.{TraceError}
use Rattle.est_trace.specs.TraceErrors.{of_refusal}
use Rattle.text_values.specs.TraceGrammar.{trace}
use Rattle.text_values.specs.ValueReading.{Reads}
use Rattle.text_values.proofs.Known.{known}
use Rattle.est_trace.specs.PortNames.{GoodPorts}
use Rattle.est_trace.specs.TraceShapes.{ShowsTrace}
use Rattle.est_trace.specs.inside.AtPorts.{AreAtPorts}
use Rattle.est_trace.specs.inside.Counting.{CountsTrace}
use Rattle.est_trace.specs.inside.FoundTraces.{recorded}
use Rattle.est_trace.specs.declared.trace.Found.{Found}
use Rattle.est_trace.specs.TraceText.{IsFull, IsOnlyTraceText, IsTraceRefusal, ReadsTrace}
use Rattle.est_trace.proofs.Readings.{shows_only}
use Rattle.est_trace.proofs.Shown.{one_trace, text_at_ports}
use Rattle.est_trace.proofs.Fullness.{not_full}
use Rattle.est_trace.proofs.Unseen.{trace_unseen}

module _ {tokens : Tokens} {ports : List Port} {A B : Reader} (x : Found)
    (good : GoodPorts ports) (g : Reads (trace ports) (ShowsTrace ports (recorded x)) A B)
    (s : Starts tokens most_events A) where
  -- what was read, as a trace
  read_of : {y : Found} → Finishes B x (Ok y)
      → IsOnlyTraceText ports (text_of tokens) (tokens_of tokens) (recorded y)
  read_of h =
      let r = whole_read known g.goes s h in
      let shown = subst (λ u. ShowsTrace ports (recorded x) u) (sym (shows_only g.shape r.2))
      (g.is h.1) in
      subst (λ f. IsOnlyTraceText ports (text_of tokens) (tokens_of tokens) (recorded f))
      (sym h.0) (
        (r.0, r.1, shown),
        λ z q. one_trace ports good z (recorded x) r.0
            (subst (λ u. ShowsTrace ports z u) (r.3 q.0 q.1) q.2) shown,
      )

  pub read : {y : Found} (r : Recorded) → Finishes B x (Ok y) → r ≡ recorded y
      → ReadsTrace ports (text_of tokens) (tokens_of tokens) (Ok r)
  read r h e = subst (λ t. IsOnlyTraceText ports (text_of tokens) (tokens_of tokens) t) (sym e)
      (read_of h)

  pub read_at_ports : {y : Found} (r : Recorded) → Finishes B x (Ok y) → r ≡ recorded y
      → AreAtPorts ports r.events × (length r.events ≤ most_events)
  read_at_ports r h e =
      text_at_ports most_events ports (text_of tokens) (tokens_of tokens) r good (read r h e).0

  -- they are known, or not all of them was seen
  pub read_unseen : {y : Found} → Finishes B x (Ok y) → All HasUnseen y.events
  read_unseen {y} h = let r = (read_of h).0 in trace_unseen ports (recorded y) r.0 r.2

  -- as many events as a trace may have are complete before one too many
  full_before : CountsTrace ports A B → (place : ℕ) → Finishes B x (Err (TooDeep place))
      → IsFull ports most_events (text_of tokens) (tokens_of tokens) place
  full_before c place h =
      let Q = λ (i : ℕ) (z : _). z ≡ true
      → IsFull ports most_events (text_of tokens) (tokens_of tokens) i in
      let moves : Does (λ b. Unit {0}) Q A.at Well B.at B.outcome =
      subst (λ o. Does (λ b. Unit {0}) Q A.at o B.at B.outcome) s.well
      (subst (λ d. Does (λ b. Unit {0}) (λ i z. z ≡ true
      → IsFull ports d (text_of tokens) (tokens_of tokens) i) A.at A.outcome B.at B.outcome)
      s.levels
      (subst (λ ts. Does (λ b. Unit {0}) (λ i z. z ≡ true
      → IsFull ports A.levels (text_of ts) (tokens_of ts) i) A.at A.outcome B.at B.outcome)
      s.tokens_are (c s.at))) in
      got_deep (λ b. Unit {0}) Q A.at B.at (length (tokens_of B.tokens.now)) place B.outcome moves h
      refl

  refused : CountsTrace ports A B → (error : Refusal) → Finishes B x (Err error)
      → IsTraceRefusal ports (text_of tokens) (tokens_of tokens) (of_refusal error)
  refused c (BadToken place) h =
      let r = whole_refused known g.goes s (BadToken place) h in
      (r.0, not_full tokens ports most_events place r)
  refused c (TooDeep place) h =
      ((whole_refused known g.goes s (TooDeep place) h).0, full_before c place h)
  refused c (Memory error) h = tt

  -- the answer has this error
  pub answered : CountsTrace ports A B → (error : Refusal) (r : Result Recorded TraceError)
      → Finishes B x (Err error) → IsErr r × IsErrAnd r (λ e. e ≡ of_refusal error)
      → ReadsTrace ports (text_of tokens) (tokens_of tokens) r
  answered c error (Ok z) h (never, is) = cc
  answered c error (Err e) h is = subst (IsTraceRefusal ports (text_of tokens) (tokens_of tokens))
      (sym is.1) (refused c error h)
