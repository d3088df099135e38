-- What is answered to the lines of a good trace.
use Rattle.std.proofs.Common.{◌≡◌, ◌≢◌, ◌∙◌, ℕ, ◌+◌, Bool, true, false, List, [], ◌∷◌, ◌++◌}
use Rattle.std.proofs.Common.{length, Some}
use Rattle.std.proofs.Common.{sym, subst, ap, refl, append_assoc, arith}
use Rattle.std.proofs.lemmas.List.{append-nil}
use Rattle.std.proofs.lemmas.List.Elements.{All-nil, All-head, All-tail}
use Rattle.est_lexer.specs.declared.kind.Token.{Token}
use Rattle.est_lexer.proofs.Unique.{tokens_unique}
use Rattle.est_syntax.specs.declared.ports.Port.{Port}
use Rattle.est_meaning.specs.declared.event.Event.{Event}
use Rattle.est_trace.specs.LineText.{IsLineText, IsOnlyLineText, IsLineRefusal}
use Rattle.est_trace.specs.declared.error.TraceError.{TraceError}
use Rattle.est_trace.specs.declared.error.TraceError.TheVariants as trace
use Rattle.mean_watch.specs.declared.watched.Watched.{Watched}
use Rattle.mean_watch.specs.declared.watched.Watched.TheVariants.{Possible}
use Rattle.mean_watch.specs.Watching.{IsWatched, IsFinished}
use Rattle.call_files.specs.FileTexts.{SaysOfTrace}
use Rattle.call_files.specs.declared.status.Status.{Status}
use Rattle.call_files.specs.declared.status.Status.TheVariants.{BadTrace}
use Rattle.call_watch.specs.Lines.{Line, line, AreLines, no_lines, last_line, fed_line, HasNoFeed}
use Rattle.call_watch.specs.Lines.{IsSkipped, IsEndLine, HasEvents, IsRefusedLine, judged}
use Rattle.call_watch.specs.Lines.{room_after}
use Rattle.call_watch.specs.Answers.{Watch, Standing, Next, goes_on, ended, watched_status}
use Rattle.call_watch.specs.Answers.{AreAnswered, all_given, one_given, one_ends, IsLineAnswered}
use Rattle.call_watch.specs.Answers.{skipped, refused, ends, answered, AreLinesAnswered}
use Rattle.call_watch.specs.Answers.{line_on, line_ends}
use Rattle.law_calls.specs.WatchCalls.{IsLast, Brings, AreGoodLines, line_skipped, line_brings}
use Rattle.law_calls.specs.WatchCalls.{line_last}
use Rattle.law_calls.proofs.EndLines.{end_has_none}

-- A TEXT HAS ONE LIST OF LINES

-- the first line feed parts a text in one way
first_feed : (a b r q : List ℕ) → HasNoFeed a → HasNoFeed b → a ++ 10 ∷ r ≡ b ++ 10 ∷ q
    → (a ≡ b) × (r ≡ q)
first_feed [] [] r q x y e = (refl, cc)
first_feed [] (c ∷ b) r q x y e =
    let same : c ≡ 10 = cc in absurd (All-head (λ (d : ℕ). d ≡ 10 → ⊥) c b y same)
first_feed (c ∷ a) [] r q x y e =
    let same : c ≡ 10 = cc in absurd (All-head (λ (d : ℕ). d ≡ 10 → ⊥) c a x same)
first_feed (c ∷ a) (d ∷ b) r q x y e =
    let head : c ≡ d = cc in
    let tail : a ++ 10 ∷ r ≡ b ++ 10 ∷ q = cc in
    let t = first_feed a b r q (All-tail (λ (d : ℕ). d ≡ 10 → ⊥) c a x)
    (All-tail (λ (d : ℕ). d ≡ 10 → ⊥) d b y) tail in
    (ap (λ z. z ∷ a) head ∙ ap (λ z. d ∷ z) t.0, t.1)

-- what has no line feed is none
no_feed : (a b q : List ℕ) → HasNoFeed a → a ≡ b ++ 10 ∷ q → ⊥
no_feed [] [] q x e = cc
no_feed [] (d ∷ b) q x e = cc
no_feed (c ∷ a) [] q x e =
    let same : c ≡ 10 = cc in All-head (λ (d : ℕ). d ≡ 10 → ⊥) c a x same
no_feed (c ∷ a) (d ∷ b) q x e =
    let tail : a ≡ b ++ 10 ∷ q = cc in
    no_feed a b q (All-tail (λ (d : ℕ). d ≡ 10 → ⊥) c a x) tail

pub lines_unique : (text text' : List ℕ) (ls ms : List Line) → text ≡ text' → AreLines text ls
    → AreLines text' ms → ls ≡ ms
lines_unique _ _ _ _ e no_lines no_lines = refl
lines_unique _ _ _ _ e no_lines (last_line b some x) = absurd (some (sym e))
lines_unique _ _ _ _ e no_lines (fed_line b r ms x y) =
    absurd (no_feed [] b r (All-nil (λ (d : ℕ). d ≡ 10 → ⊥)) e)
lines_unique _ _ _ _ e (last_line b some x) no_lines = absurd (some e)
lines_unique _ _ _ _ e (last_line b some x) (last_line d more y) =
    ap (λ (z : List ℕ). line z false ∷ []) e
lines_unique _ _ _ _ e (last_line b some x) (fed_line d r ms y z) = absurd (no_feed b d r x e)
lines_unique _ _ _ _ e (fed_line b r ls x y) no_lines =
    absurd (no_feed [] b r (All-nil (λ (d : ℕ). d ≡ 10 → ⊥)) (sym e))
lines_unique _ _ _ _ e (fed_line b r ls x y) (last_line d more z) =
    absurd (no_feed d b r z (sym e))
lines_unique _ _ _ _ e (fed_line b r ls x y) (fed_line d q ms z v) =
    let s = first_feed b d r q x z e in
    ap (λ (w : List ℕ). line w true ∷ ls) s.0
    ∙ ap (λ (w : List Line). line d true ∷ w) (lines_unique r q ls ms s.1 y v)

-- ANSWERS

-- an answer to some event ended it: to the last of the first ones
pub record EndsAtEvent (w : Watch) (events : List Event) (with : Status) : Type 0 where
  pub first : List Event
  pub rest : List Event
  pub events_are : events ≡ first ++ rest
  pub answer : Watched
  pub impossible : answer ≢ Possible
  pub is : IsWatched w.setup w.budget first answer
  pub status_is : with ≡ watched_status answer

-- or that at the end of all of them
pub record EndsAtEnd (w : Watch) (events : List Event) (with : Status) : Type 0 where
  pub answer : Watched
  pub is : IsFinished w.setup w.budget events answer
  pub status_is : with ≡ watched_status answer

pub data EndsWith (w : Watch) (events : List Event) (with : Status) : Type 0 where
  at_event : EndsAtEvent w events with → EndsWith w events with
  at_end : EndsAtEnd w events with → EndsWith w events with

more_events : (w : Watch) (events more : List Event) (with : Status) → EndsAtEvent w events with
    → EndsAtEvent w (events ++ more) with
more_events w events more with x = record {
  first = x.first;
  rest = x.rest ++ more;
  events_are = ap (λ z. z ++ more) x.events_are ∙ append_assoc x.first x.rest more;
  answer = x.answer;
  impossible = x.impossible;
  is = x.is;
  status_is = x.status_is;
}

-- where it stands after some line with events
abbrev pub after : List Event → Standing
after events = record { first = false; given = events }

-- after events it goes on with all of them, or one of them ended it
abbrev pub AfterEvents : Watch → List Event → Next → Type 0
AfterEvents w events (goes_on t) = t ≡ after events
AfterEvents w events (ended with) = EndsAtEvent w events with

after_events : (w : Watch) (given events : List Event) (next : Next) (out : List ℕ)
    → AreAnswered w given events next out → AfterEvents w (given ++ events) next
after_events w _ _ _ _ (all_given given) =
    ap (λ (es : List Event). after es) (sym (append-nil given))
after_events w _ _ _ _ (one_given given events e next out is a) =
    subst (λ (es : List Event). AfterEvents w es next) (append_assoc given (e ∷ []) events)
    (after_events w (given ++ e ∷ []) events next out a)
after_events w _ _ _ _ (one_ends given events e answer impossible is) = record {
  first = given ++ e ∷ [];
  rest = events;
  events_are = sym (append_assoc given (e ∷ []) events);
  answer = answer;
  impossible = impossible;
  is = is;
  status_is = refl;
}

-- ONE LINE

end_unskipped : (bytes : List ℕ) → IsEndLine bytes → IsSkipped bytes → ⊥
end_unskipped bytes is skip =
    let same : is.0 ≡ [] = tokens_unique bytes 0 is.0 [] is.1 skip in
    let one : length is.0 ≡ 1 = is.2.0 in
    let none : length is.0 ≡ 0 = ap (λ (ts : List Token). length ts) same in
    omega (arith, one, none)

no_refusal : (most : ℕ) (ports : List Port) (text : List ℕ) (tokens : List Token)
    (error : TraceError) (place : ℕ) (why : List ℕ) (events : List Event)
    → IsLineText most ports text tokens events → IsLineRefusal most ports text tokens error
    → SaysOfTrace error BadTrace (Some place) why → ⊥
no_refusal most ports text tokens (trace.BadToken at) place why events is x says =
    x.0.no_tree _ is.1
no_refusal most ports text tokens (trace.TooMany at) place why events is x says =
    x.0.no_tree _ is.1
no_refusal most ports text tokens (trace.Memory error) place why events is x says = says

-- a line that has events is not refused
not_refused : (ports : List Port) (room : ℕ) (first : Bool) (bytes : List ℕ) (events : List Event)
    (column : ℕ) (why : List ℕ) → HasEvents ports room first bytes events
    → IsRefusedLine ports room first bytes column why → ⊥
not_refused ports room first bytes events column why has x =
    let same : has.0 ≡ x.tokens =
    tokens_unique (judged first bytes) 0 has.0 x.tokens has.1 x.list in
    let only : IsOnlyLineText room ports (judged first bytes) has.0 events = has.2 in
    no_refusal room ports (judged first bytes) x.tokens x.error x.place why events
    (subst (λ (ts : List Token). IsLineText room ports (judged first bytes) ts events) same only.0)
    x.refused x.says

-- and has no others
same_events : (ports : List Port) (room : ℕ) (first : Bool) (bytes : List ℕ)
    (events others : List Event) → HasEvents ports room first bytes events
    → HasEvents ports room first bytes others → others ≡ events
same_events ports room first bytes events others has x =
    let same : x.0 ≡ has.0 = tokens_unique (judged first bytes) 0 x.0 has.0 x.1 has.1 in
    let only : IsOnlyLineText room ports (judged first bytes) has.0 events = has.2 in
    let other : IsOnlyLineText room ports (judged first bytes) x.0 others = x.2 in
    only.1 others
    (subst (λ (ts : List Token). IsLineText room ports (judged first bytes) ts others) same other.0)

module _ (w : Watch) (row : ℕ) (s : Standing) (bytes : List ℕ) where
  after_skipped : (next : Next) (out : List ℕ) → IsSkipped bytes
      → IsLineAnswered w row s bytes next out → next ≡ goes_on s
  after_skipped _ _ skip (skipped x) = refl
  after_skipped _ _ skip (refused column why x y z) = absurd (x skip)
  after_skipped _ _ skip (ends answer later is x) = absurd (end_unskipped bytes is skip)
  after_skipped _ _ skip (answered events next out x has y) = absurd (x skip)

  after_brings : (events : List Event) (next : Next) (out : List ℕ)
      → Brings w.ports s bytes events → IsLineAnswered w row s bytes next out
      → AfterEvents w (s.given ++ events) next
  after_brings events _ _ b (skipped x) = absurd (b.unskipped x)
  after_brings events _ _ b (refused column why x y z) =
      absurd (not_refused w.ports (room_after (length s.given)) s.first bytes events column why
      b.has z)
  after_brings events _ _ b (ends answer later is x) =
      absurd (end_has_none w.ports (room_after (length s.given)) bytes events is
      (subst (λ (first : Bool). HasEvents w.ports (room_after (length s.given)) first bytes events)
      later b.has))
  after_brings events _ _ b (answered others next out x has y) =
      let same = same_events w.ports (room_after (length s.given)) s.first bytes events others b.has
      has in
      subst (λ (es : List Event). AfterEvents w (s.given ++ es) next) same
      (after_events w s.given others next out y)

  -- at the last line it ends
  abbrev pub AfterLast : Next → Type 0
  AfterLast (goes_on t) = ⊥
  AfterLast (ended with) = EndsAtEnd w s.given with

  after_last : (next : Next) (out : List ℕ) → IsLast s bytes
      → IsLineAnswered w row s bytes next out → AfterLast next
  after_last _ _ l (skipped x) = absurd (end_unskipped bytes l.is_end x)
  after_last _ _ l (refused column why x y z) = absurd (y l.later l.is_end)
  after_last _ _ l (ends answer later is x) =
      record { answer = answer; is = x; status_is = refl }
  after_last _ _ l (answered events next out x has y) =
      let same = l.later in
      absurd (end_has_none w.ports (room_after (length s.given)) bytes events l.is_end
      (subst (λ (first : Bool). HasEvents w.ports (room_after (length s.given)) first bytes events)
      same has))

-- ALL LINES

-- events only come to the end
record GoesOnFrom (given events : List Event) : Type 0 where
  rest : List Event
  events_are : events ≡ given ++ rest

goes_on_from : (ports : List Port) (s : Standing) (ls : List Line) (events : List Event)
    → AreGoodLines ports s ls events → GoesOnFrom s.given events
goes_on_from ports _ _ _ (line_skipped s l ls events skip g) = goes_on_from ports s ls events g
goes_on_from ports _ _ _ (line_brings s l ls here events b g) =
    let r = goes_on_from ports (after (s.given ++ here)) ls events g in
    record {
      rest = here ++ r.rest;
      events_are = r.events_are ∙ append_assoc s.given here r.rest;
    }
goes_on_from ports _ _ _ (line_last s l ls x) =
    record { rest = []; events_are = sym (append-nil s.given) }

-- so it does not go on
abbrev pub AfterAll : Watch → List Event → Next → Type 0
AfterAll w events (goes_on t) = ⊥
AfterAll w events (ended with) = EndsWith w events with

pub after_all : (w : Watch) (row : ℕ) (s : Standing) (ls : List Line) (events : List Event)
    (next : Next) (taken : ℕ) (out : List ℕ) → AreGoodLines w.ports s ls events
    → AreLinesAnswered w row s ls next taken out → AfterAll w events next
after_all w _ _ _ _ _ _ _ (line_skipped s l ls events skip g)
    (line_on row _ t _ _ next taken here out a rest) =
    let e : goes_on t ≡ goes_on s = after_skipped w row s l.bytes (goes_on t) here skip a in
    let same : t ≡ s = cc in
    after_all w (row + 1) s ls events next taken out g
    (subst (λ (z : Standing). AreLinesAnswered w (row + 1) z ls next taken out) same rest)
after_all w _ _ _ _ _ _ _ (line_skipped s l ls events skip g) (line_ends row _ _ _ with here a) =
    let e : ended with ≡ goes_on s = after_skipped w row s l.bytes (ended with) here skip a in
    absurd cc
after_all w _ _ _ _ _ _ _ (line_brings s l ls new events b g)
    (line_on row _ t _ _ next taken here out a rest) =
    let then : Standing = after (s.given ++ new) in
    let same : t ≡ then = after_brings w row s l.bytes new (goes_on t) here b a in
    after_all w (row + 1) then ls events next taken out g
    (subst (λ (z : Standing). AreLinesAnswered w (row + 1) z ls next taken out) same rest)
after_all w _ _ _ _ _ _ _ (line_brings s l ls new events b g)
    (line_ends row _ _ _ with here a) =
    let then : Standing = after (s.given ++ new) in
    let r = goes_on_from w.ports then ls events g in
    at_event (subst (λ (es : List Event). EndsAtEvent w es with) (sym r.events_are)
    (more_events w (s.given ++ new) r.rest with
    (after_brings w row s l.bytes new (ended with) here b a)))
after_all w _ _ _ _ _ _ _ (line_last s l ls x)
    (line_on row _ t _ _ next taken here out a rest) =
    absurd (after_last w row s l.bytes (goes_on t) here x a)
after_all w _ _ _ _ _ _ _ (line_last s l ls x) (line_ends row _ _ _ with here a) =
    at_end (after_last w row s l.bytes (ended with) here x a)
