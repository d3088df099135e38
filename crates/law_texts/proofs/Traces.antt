-- Whole traces, as they are written.
use Rattle.std.proofs.Common.{◌≡◌, ℕ, zero, suc, ◌≤◌, Bool, true, false, List, [], ◌∷◌, ◌++◌, length}
use Rattle.std.proofs.Common.{drop, refl, sym, ap, subst, ◌∙◌, arith, append_assoc, flat_map, eqb}
use Rattle.std.proofs.Common.{if◌then◌else◌}
use Rattle.std.specs.List.{list_all}
use Rattle.std.specs.Prelude.{codes}
use Rattle.std.proofs.lemmas.Bool.{and_parts}
use Rattle.std.proofs.lemmas.List.Elements.{All-head, All-tail}
use Rattle.std.proofs.lemmas.List.Folds.{list_all-append}
use Rattle.est_lexer.specs.declared.kind.Token.{Token}
use Rattle.est_lexer.specs.declared.kind.TokenKind.TheVariants.{Number}
use Rattle.est_lexer.specs.Between.{is_blank}
use Rattle.est_lexer.specs.Spellings.{is_number, word_kind}
use Rattle.est_lexer.specs.Words.{words}
use Rattle.text_reader.specs.Grammar.{done, word, deeper, rule, t_done, t_opt_out, t_deeper}
use Rattle.text_reader.specs.Grammar.{t_rule, nothing, right, some}
use Rattle.est_syntax.specs.declared.ports.Port.{Port}
use Rattle.est_meaning.specs.declared.event.Event.{Event}
use Rattle.est_meaning.specs.declared.event.Event.TheVariants.{Arrives, Leaves, Passes}
use Rattle.est_meaning.specs.declared.trace.Expected.{Expected}
use Rattle.est_meaning.specs.declared.trace.Expected.TheVariants.{Known, Partly}
use Rattle.est_meaning.specs.RecordedTraces.{Recorded}
use Rattle.text_reader.specs.Tests.{said}
use Rattle.text_reader.specs.Going.{Shape}
use Rattle.text_values.specs.declared.formats.Format.{Format}
use Rattle.text_values.specs.declared.formats.Format.TheVariants.{Complete, Partial}
use Rattle.text_values.specs.TraceGrammar as grammar
use Rattle.text_values.specs.declared.formats.Version.{Version}
use Rattle.text_values.specs.declared.formats.Version.TheVariants.{First, Second, Third}
use Rattle.text_values.specs.TraceGrammar.{Rule, events_at, version, ending, versioned, format_of}
use Rattle.est_trace.specs.PortNames.{GoodPorts}
use Rattle.est_trace.specs.TraceShapes.{ShowsEvents, ShowsQuiet, ShowsRest, ShowsTrace}
use Rattle.est_trace.specs.inside.AtPorts.{IsExpectedAt, AreAtPorts}
use Rattle.est_trace.specs.WrittenTraces.{happening, expectation, event_line, is_known}
use Rattle.est_trace.specs.WrittenTraces.{trace_text}
use Rattle.law_texts.specs.ReadablePorts.{AreReadablePorts}
use Rattle.est_explanation.proofs.Words.{Written, IsWhole, text_of, AreWritten}
use Rattle.text_printer.proofs.Standing.{number_stands}
use Rattle.law_texts.proofs.Wholes as wholes
use Rattle.law_texts.proofs.Wholes.{AreWholeBefore, standing_whole}
use Rattle.law_texts.proofs.Writing.{Meets, Parsed, Writes, nothing_written, word_written}
use Rattle.law_texts.proofs.Writing.{both_written, first_written, second_written, some_written}
use Rattle.law_texts.proofs.Writing.{rule_written}
use Rattle.law_texts.proofs.Marks.{NoStar}
use Rattle.law_texts.proofs.Events.{keyword_written, MayStand, event_written}

-- LINES

-- words, and a line feed after the last one
abbrev pub with_feed : List Written → List Written
with_feed [] = []
with_feed (w ∷ []) = record { kind = w.kind; bytes = w.bytes; gap = w.gap ++ 10 ∷ [] } ∷ []
with_feed (w ∷ v ∷ ws) = w ∷ with_feed (v ∷ ws)

feed_text : (w : Written) (ws : List Written)
    → text_of (with_feed (w ∷ ws)) ≡ text_of (w ∷ ws) ++ 10 ∷ []
feed_text w [] = simp append_assoc refl
feed_text w (v ∷ ws) = ap (λ r. w.bytes ++ (w.gap ++ r)) (feed_text v ws) ∙ simp append_assoc refl

feed_whole : (ws : List Written) (rest : List ℕ) → AreWholeBefore ws (10 ∷ rest)
    → AreWholeBefore (with_feed ws) rest
feed_whole [] rest h = tt
feed_whole (w ∷ []) rest h =
    let e : w.gap ++ 10 ∷ rest ≡ (w.gap ++ 10 ∷ []) ++ rest =
    sym (append_assoc w.gap (10 ∷ []) rest) in
    let more : IsWhole w ((w.gap ++ 10 ∷ []) ++ rest) = subst (IsWhole w) e h.0 in (
      record {
        longest = more.longest;
        may_begin = more.may_begin;
        blanks = fed w.gap h.0.blanks;
      },
      tt,
    )
  where
    fed : (gap : List ℕ) → list_all is_blank gap ≡ true → list_all is_blank (gap ++ 10 ∷ []) ≡ true
    fed gap e = rw (list_all-append is_blank gap (10 ∷ []), e) refl
feed_whole (w ∷ v ∷ ws) rest h =
    let e : text_of (v ∷ ws) ++ 10 ∷ rest ≡ text_of (with_feed (v ∷ ws)) ++ rest =
    sym (append_assoc (text_of (v ∷ ws)) (10 ∷ []) rest)
    ∙ ap (λ r. r ++ rest) (sym (feed_text v ws)) in
    (subst (λ r. IsWhole w (w.gap ++ r)) e h.0, feed_whole (v ∷ ws) rest h.1)

unfed : (text : List ℕ) (ts : List Token) (ws vs : List Written)
    → AreWritten text ts (with_feed ws ++ vs) → AreWritten text ts (ws ++ vs)
unfed text ts [] vs h = h
unfed text [] (w ∷ []) vs h = elim h [ ]
unfed text (t ∷ ts) (w ∷ []) vs h =
    (record { kind = h.0.kind; spelled = h.0.spelled }, h.1)
unfed text [] (w ∷ v ∷ ws) vs h = elim h [ ]
unfed text (t ∷ ts) (w ∷ v ∷ ws) vs h = (h.0, unfed text ts (v ∷ ws) vs h.1)

feed_ends : (rest : List ℕ) → wholes.Ends (10 ∷ rest)
feed_ends rest = record { no_part = refl; no_star = refl }

-- a text and a line feed, where the text is not empty
line_written : {g : Rule} {Is : Shape → Type 0} {bytes : List ℕ} (least : ℕ) → (bytes ≡ [] → ⊥)
    → Writes wholes.Ends 0 g Is bytes → Writes NoStar least g Is (bytes ++ codes "\n")
line_written {g} {Is} {bytes} least filled x = record {
  words = with_feed x.words;
  spelled = spelled x.words x.spelled;
  whole = λ rest h. feed_whole x.words rest (x.whole (10 ∷ rest) (feed_ends rest));
  no_star = λ rest h. subst (λ r. NoStar r) (sym (append_assoc bytes (10 ∷ []) rest))
      (x.no_star (10 ∷ rest) (feed_ends rest));
  read = λ text s d a ws l h. x.read text s d a ws (omega arith)
      (unfed text (drop a s) x.words ws h);
}
  where
    spelled : (ws : List Written) → text_of ws ≡ bytes
        → text_of (with_feed ws) ≡ bytes ++ codes "\n"
    spelled [] e = absurd (filled (sym e))
    spelled (w ∷ ws) e = feed_text w ws ∙ ap (λ r. r ++ 10 ∷ []) e

-- EVENTS

-- what opens a level
deeper_written : {A : List ℕ → Type 0} {least : ℕ} {g : Rule} {Is : Shape → Type 0}
    {bytes : List ℕ} → Writes A least g Is bytes → Writes A (suc least) (deeper g) Is bytes
deeper_written {least = least} {g} {Is} x = record {
  words = x.words;
  spelled = x.spelled;
  whole = x.whole;
  no_star = x.no_star;
  read = λ text s d a ws l h. by text s d a ws l h;
}
  where
    by : (text : List ℕ) (s : List Token) (d a : ℕ) (ws : List Written) → suc least ≤ d
        → AreWritten text (drop a s) (x.words ++ ws) → Parsed text s (deeper g) d Is a ws
    by text s zero a ws l h = absurd (omega (arith, l))
    by text s (suc d) a ws l h =
        let r = x.read text s d a ws (omega (arith, l)) h in
        record {
          last = r.last;
          shape = r.shape;
          tree = t_deeper r.tree;
          is = r.is;
          rest = r.rest;
        }

happening_some : (ports : List Port) (e : Event) → happening ports e ≡ [] → ⊥
happening_some ports (Passes units) h = absurd cc
happening_some ports (Arrives x) h = absurd cc
happening_some ports (Leaves x) h = absurd cc

event_some : (ports : List Port) (x : Expected) → expectation ports x ≡ [] → ⊥
event_some ports (Known e) h = happening_some ports e h
event_some ports (Partly port signal seen) h = absurd cc

-- each of the events may stand in a trace of this format
abbrev EachMayStand : Format → List Expected → Type 0
EachMayStand Complete xs = list_all is_known xs ≡ true
EachMayStand Partial xs = Unit {0}

may_stand : (f : Format) (x : Expected) (xs : List Expected) → EachMayStand f (x ∷ xs)
    → MayStand f x × EachMayStand f xs
may_stand Complete x xs h = and_parts (is_known x) (list_all is_known xs) h
may_stand Partial x xs h = (tt, tt)

-- the digit of a version
record IsDigit (v : Version) (digit : ℕ) : Type 0 where
  meets : Meets (record { kind = Number; bytes = digit ∷ []; gap = 10 ∷ [] }) (version v)
  is : is_number (digit ∷ []) ≡ true
  no_star : eqb digit 42 ≡ false

one : IsDigit First 49
one = record { meets = λ text t w. rw (w.kind, w.spelled) refl; is = refl; no_star = refl }

two : IsDigit Second 50
two = record { meets = λ text t w. rw (w.kind, w.spelled) refl; is = refl; no_star = refl }

three : IsDigit Third 51
three = record { meets = λ text t w. rw (w.kind, w.spelled) refl; is = refl; no_star = refl }

module _ (ports : List Port) (good : GoodPorts ports) (readable : AreReadablePorts ports) where
  events_written : (f : Format) (xs : List Expected) → AreAtPorts ports xs → EachMayStand f xs
      → Writes NoStar (length xs) (rule (events_at f ports)) (λ t. ShowsEvents f ports xs t)
      (flat_map (event_line ports) xs)
  events_written f [] h s =
      nothing_written (rule (events_at f ports)) (λ t. ShowsEvents f ports [] t) (λ rest e. e) tt
      (λ text s d a. t_rule t_opt_out)
  events_written f (x ∷ xs) h s =
      let stand = may_stand f x xs s in
      let more = events_written f xs (All-tail (IsExpectedAt ports) x xs h) stand.1 in
      rule_written (events_at f ports)
      (some_written (λ t. ShowsEvents f ports (x ∷ xs) t)
      (deeper_written
      (both_written (λ t. ShowsEvents f ports (x ∷ xs) (some t))
      (line_written (length xs) (event_some ports x)
      (event_written ports good readable f x (All-head (IsExpectedAt ports) x xs h) stand.0))
      more (λ rest n. more.no_star rest n) (λ t u i j. (i, j)))) (λ t i. i))

  -- the last line
  end_written : (least : ℕ) (quiet : Bool) → quiet ≡ false
      → Writes NoStar least (word (said "end") done) (λ t. ShowsQuiet quiet t) (codes "end\n")
  unfolding word_kind words
  end_written least quiet e =
      keyword_written (codes "end") 10 refl refl refl
      (nothing_written done (λ t. ShowsQuiet quiet t) (λ rest n. n)
      (subst (λ q. ShowsQuiet q nothing) (sym e) tt) (λ text s d a. t_done))

  quiet_written : (least : ℕ) (quiet : Bool) → quiet ≡ true
      → Writes NoStar least (word (said "end") (ending Third)) (λ t. ShowsQuiet quiet t)
      (codes "end quiet\n")
  unfolding word_kind words
  quiet_written least quiet e =
      keyword_written (codes "end") 32 refl refl refl
      (some_written (λ t. ShowsQuiet quiet t)
      (keyword_written (codes "quiet") 10 refl refl refl
      (nothing_written done (λ t. ShowsQuiet quiet (some t)) (λ rest n. n)
      (subst (λ q. ShowsQuiet q (some nothing)) (sym e) tt) (λ text s d a. t_done)))
      (λ t i. i))

  -- a version, the lines of the events and the last line
  versioned_written : (v : Version) (digit : ℕ) (r : Recorded) (last : List ℕ) → IsDigit v digit
      → AreAtPorts ports r.events → EachMayStand (format_of v) r.events
      → Writes NoStar (length r.events) (word (said "end") (ending v))
      (λ t. ShowsQuiet r.quiet t) last
      → Writes NoStar (length r.events) (versioned v ports)
      (λ t. ShowsRest (format_of v) ports r t)
      (digit ∷ 10 ∷ (flat_map (event_line ports) r.events ++ last))
  versioned_written v digit r last n h s x =
      word_written (version v) (record { kind = Number; bytes = digit ∷ []; gap = 10 ∷ [] })
      (both_written (λ t. ShowsRest (format_of v) ports r t)
      (events_written (format_of v) r.events h s) x (λ rest e. x.no_star rest e)
      (λ t u i j. (i, j))) n.meets
      (λ rest e. let more = 10 ∷ ((flat_map (event_line ports) r.events ++ last) ++ rest) in
      standing_whole Number (digit ∷ []) (10 ∷ []) more refl
      (number_stands (digit ∷ []) more n.is refl))
      (λ rest. n.no_star)

  by_version : (r : Recorded) → AreAtPorts ports r.events → (quiet all : Bool) → r.quiet ≡ quiet
      → list_all is_known r.events ≡ all
      → Writes NoStar (length r.events) (grammar.trace ports) (λ t. ShowsTrace ports r t)
      ((if quiet then codes "trace 3\n"
      else (if all then codes "trace 1\n" else codes "trace 2\n"))
      ++ flat_map (event_line ports) r.events
      ++ (if quiet then codes "end quiet\n" else codes "end\n"))
  unfolding word_kind words
  by_version r h true all q e =
      keyword_written (codes "trace") 32 refl refl refl
      (second_written (λ t. ShowsTrace ports r t)
      (second_written (λ t. ShowsTrace ports r (right t))
      (versioned_written Third 51 r (codes "end quiet\n") three h tt
      (quiet_written (length r.events) r.quiet q)) _ (λ t i. i)) _ (λ t i. i))
  by_version r h false true q e =
      keyword_written (codes "trace") 32 refl refl refl
      (first_written (λ t. ShowsTrace ports r t)
      (versioned_written First 49 r (codes "end\n") one h e
      (end_written (length r.events) r.quiet q)) _ (λ t i. i))
  by_version r h false false q e =
      keyword_written (codes "trace") 32 refl refl refl
      (second_written (λ t. ShowsTrace ports r t)
      (first_written (λ t. ShowsTrace ports r (right t))
      (versioned_written Second 50 r (codes "end\n") two h tt
      (end_written (length r.events) r.quiet q)) _ (λ t i. i)) _ (λ t i. i))

  pub trace_written : (r : Recorded) → AreAtPorts ports r.events
      → Writes NoStar (length r.events) (grammar.trace ports) (λ t. ShowsTrace ports r t)
      (trace_text ports r)
  trace_written r h = by_version r h r.quiet (list_all is_known r.events) refl refl
