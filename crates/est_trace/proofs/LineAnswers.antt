-- From what a reader of a line does to the answer.
use Rattle.std.proofs.Common.{All, ◌≡◌, ◌≤◌, ℕ, true, List, length, map, refl, sym, subst}
use Rattle.std.proofs.Common.{Result, Ok, Err}
use Rattle.std.specs.Result.{IsErr, IsErrAnd}
use Rattle.est_lexer.specs.declared.tokens.Tokens.{Tokens}
use Rattle.est_lexer.specs.Offsets.{text_of, tokens_of}
use Rattle.est_syntax.specs.declared.ports.Port.{Port}
use Rattle.est_meaning.specs.declared.event.Event.{Event}
use Rattle.est_meaning.specs.declared.trace.Expected.{Expected}
use Rattle.est_meaning.specs.declared.trace.Expected.TheVariants.{Known}
use Rattle.text_reader.specs.Going.{Shape}
use Rattle.text_reader.specs.Grammar.{both, nothing, t_word, t_seq}
use Rattle.text_reader.specs.Sentences.{HasTree}
use Rattle.text_reader.specs.declared.reader.Reader.{Reader}
use Rattle.text_reader.specs.declared.outcome.Outcome.TheVariants.{Well}
use Rattle.text_reader.specs.declared.refusal.Refusal.{Refusal}
use Rattle.text_reader.specs.declared.refusal.Refusal.TheVariants.{BadToken, TooDeep, Memory}
use Rattle.text_reader.specs.Moving.{Does}
use Rattle.text_reader.specs.Whole.{Starts, Finishes}
use Rattle.text_reader.proofs.Whole.{whole_read, whole_refused, got_deep}
use Rattle.text_values.specs.declared.formats.Format.TheVariants.{Complete}
use Rattle.text_values.specs.ValueReading.{Reads}
use Rattle.text_values.proofs.Known.{known}
use Rattle.est_trace.specs.LineText.{first_version, IsLineRefusal, ReadsLine}
use Rattle.est_trace.specs.PortNames.{GoodPorts}
use Rattle.est_trace.specs.TraceErrors.{of_refusal}
use Rattle.est_trace.specs.TraceShapes.{ShowsEvents}
use Rattle.est_trace.specs.TraceText.{traces, IsFullAfter}
use Rattle.est_trace.specs.declared.error.TraceError.{TraceError}
use Rattle.est_trace.specs.inside.AtPorts.{IsAtPorts, IsExpectedAt}
use Rattle.est_trace.specs.inside.WholeLines.{ShowsLine, CountsLine}
use Rattle.est_trace.proofs.KnownEvents.{IsKnown, events_known, known_same, all_known}
use Rattle.est_trace.proofs.KnownEvents.{length_known}
use Rattle.est_trace.proofs.Readings.{shows_only}
use Rattle.est_trace.proofs.Shown.{same_events, all_at_ports, few}
use Rattle.est_trace.proofs.WholeLines.{line_not_full}

module _ {tokens : Tokens} {ports : List Port} {most : ℕ} {A B : Reader} (x : List Expected)
    (good : GoodPorts ports) (g : Reads (first_version ports) (ShowsLine ports x) A B)
    (s : Starts tokens most A) where
  abbrev IsTree : Shape → Type 0
  IsTree t = HasTree (traces (text_of tokens)) (first_version ports) most (tokens_of tokens) t

  -- the events have the shape of the one tree
  read_of : {y : List Expected} → Finishes B x (Ok y)
      → (t : Shape) × IsTree (both t nothing) × ShowsEvents Complete ports y t
      × ((u : Shape) → IsTree u → u ≡ both t nothing)
  read_of h =
      let r = whole_read known g.goes s h in
      let shown : ShowsLine ports x r.0 =
      subst (λ u. ShowsLine ports x u) (sym (shows_only g.shape r.2)) (g.is h.1) in (
        shown.shape,
        subst (λ u. IsTree u) shown.shape_is r.1,
        subst (λ z. ShowsEvents Complete ports z shown.shape) (sym h.0) shown.shown,
        λ u q. subst (λ v. u ≡ v) shown.shape_is (r.3 u q),
      )

  -- each of the events is known
  pub line_known : {y : List Expected} → Finishes B x (Ok y) → All IsKnown y
  line_known {y} h = let r = read_of h in events_known ports y r.0 r.2

  module _ {y : List Expected} (events : List Event) (h : Finishes B x (Ok y))
      (e : map Known events ≡ y) where
    shown : ShowsEvents Complete ports (map Known events) (read_of h).0
    shown = subst (λ z. ShowsEvents Complete ports z (read_of h).0) (sym e) (read_of h).2

    -- the tokens are a text of these events alone
    pub line_read : ReadsLine most ports (text_of tokens) (tokens_of tokens) (Ok events)
    line_read =
        let r = read_of h in (
          (r.0, r.1, shown),
          λ others q.
              let same : both q.0 nothing ≡ both r.0 nothing = r.3 (both q.0 nothing) q.1 in
              let shapes : q.0 ≡ r.0 = cc in
              known_same others events (same_events ports good Complete (map Known others)
              (map Known events) r.0
              (subst (λ u. ShowsEvents Complete ports (map Known others) u) shapes q.2) shown),
        )

    pub line_at_ports : All (IsAtPorts ports) events
    line_at_ports = by (read_of h).0 (read_of h).1 shown
      where
        by : (t : Shape) → IsTree (both t nothing)
            → ShowsEvents Complete ports (map Known events) t → All (IsAtPorts ports) events
        by t (t_word k l m (t_word k' l' m' (t_seq z w))) q =
            all_known (IsExpectedAt ports) events
            (all_at_ports (text_of tokens) (tokens_of tokens) (length (tokens_of tokens)) ports good
            Complete (map Known events) t z q)

    pub line_few : length events ≤ most
    line_few = by (read_of h).0 (read_of h).1 shown
      where
        by : (t : Shape) → IsTree (both t nothing)
            → ShowsEvents Complete ports (map Known events) t → length events ≤ most
        by t (t_word k l m (t_word k' l' m' (t_seq z w))) q =
            subst (λ n. n ≤ most) (length_known events)
            (few (text_of tokens) (tokens_of tokens) (length (tokens_of tokens)) Complete ports
            (map Known events) t z q)

  -- as many events as a line may have are complete before one too many
  full_before : CountsLine ports A B → (place : ℕ) → Finishes B x (Err (TooDeep place))
      → IsFullAfter Complete ports most (text_of tokens) (tokens_of tokens) 2 place
  full_before c place h =
      let Q = λ (i : ℕ) (z : _). z ≡ true
      → IsFullAfter Complete ports most (text_of tokens) (tokens_of tokens) 2 i in
      let moves : Does (λ b. Unit {0}) Q A.at Well B.at B.outcome =
      subst (λ o. Does (λ b. Unit {0}) Q A.at o B.at B.outcome) s.well
      (subst (λ d. Does (λ b. Unit {0}) (λ i z. z ≡ true
      → IsFullAfter Complete ports d (text_of tokens) (tokens_of tokens) 2 i) A.at A.outcome B.at
      B.outcome) s.levels
      (subst (λ ts. Does (λ b. Unit {0}) (λ i z. z ≡ true
      → IsFullAfter Complete ports A.levels (text_of ts) (tokens_of ts) 2 i) A.at A.outcome B.at
      B.outcome) s.tokens_are (c s.at))) in
      got_deep (λ b. Unit {0}) Q A.at B.at (length (tokens_of B.tokens.now)) place B.outcome moves h
      refl

  refused : CountsLine ports A B → (error : Refusal) → Finishes B x (Err error)
      → IsLineRefusal most ports (text_of tokens) (tokens_of tokens) (of_refusal error)
  refused c (BadToken place) h =
      let r = whole_refused known g.goes s (BadToken place) h in
      (r.0, line_not_full tokens ports most place r)
  refused c (TooDeep place) h =
      ((whole_refused known g.goes s (TooDeep place) h).0, full_before c place h)
  refused c (Memory error) h = tt

  -- the answer has this error
  pub line_refused : CountsLine ports A B → (error : Refusal) (r : Result (List Event) TraceError)
      → Finishes B x (Err error) → IsErr r × IsErrAnd r (λ e. e ≡ of_refusal error)
      → ReadsLine most ports (text_of tokens) (tokens_of tokens) r
  line_refused c error (Ok z) h (never, is) = cc
  line_refused c error (Err e) h is =
      subst (IsLineRefusal most ports (text_of tokens) (tokens_of tokens)) (sym is.1)
      (refused c error h)
