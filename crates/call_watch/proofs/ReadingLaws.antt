-- How far a text was read, one step after the other.
use Rattle.std.proofs.Common.{◌≡◌, ◌∙◌, ℕ, ◌+◌, ◌≤◌, ◌<◌, true, false, List, [], ◌∷◌, ◌++◌, All}
use Rattle.std.proofs.Common.{Option, Some, None, length, take, ap, sym, subst, refl, append_assoc}
use Rattle.std.proofs.Common.{append-nil, arith, length-append, ◌⊎◌, inl, inr, codes, IfSome}
use Rattle.std.proofs.Common.{IfNone}
use Rattle.std.proofs.lemmas.List.Elements.{All-nil}
use Rattle.std.proofs.Math.Seq.{take-append_seam}
use Rattle.call_files.specs.Files.{limit_of}
use Rattle.call_files.specs.FaultCounts.{Rose}
use Rattle.call_files.specs.Pieces.{appended, IsPrefix, TakesOff}
use Rattle.call_files.specs.Seen.{Seen}
use Rattle.call_files.specs.RefusalLines.{refusal_line, too_long_line}
use Rattle.call_files.specs.declared.file.File.TheVariants as file
use Rattle.call_files.specs.declared.status.Status.{Status}
use Rattle.call_files.specs.declared.status.Status.TheVariants as status
use Rattle.call_files.proofs.PieceLaws.{appended-twice, TakesOff-next}
use Rattle.est_meaning.specs.declared.event.Event.{Event}
use Rattle.mean_watch.specs.declared.watched.Watched.{Watched}
use Rattle.mean_watch.specs.declared.watched.Watched.TheVariants as watched
use Rattle.call_watch.specs.Lines.{Line, line, AreLines, no_lines, HasNoFeed, AreWholeLines}
use Rattle.call_watch.specs.Lines.{taken_by}
use Rattle.call_watch.specs.Answers.{Watch, Standing, Next, goes_on, ended, at_first}
use Rattle.call_watch.specs.Answers.{AreAnswered, all_given, one_given, one_ends, watched_status}
use Rattle.call_watch.specs.Answers.{IsLineAnswered, skipped, refused, ends, answered, IsLineBegun}
use Rattle.call_watch.specs.Answers.{AreLinesAnswered, no_more}
use Rattle.call_watch.specs.Endings.{IsWatchEnd, at_line, without_end, too_long}
use Rattle.call_watch.specs.Endings.{standard_input, IsTold, Watches, answers, cannot_read}
use Rattle.call_watch.specs.Endings.{cannot_write, spent}
use Rattle.call_watch.specs.Endings.{IsUnreadEnd, IsCutAtLine, IsCutAtEnd, AreClosed}
use Rattle.call_watch.specs.Endings.{cut_without_end, cut_too_long}
use Rattle.call_watch.specs.Endings.{IsSpentEnd, between_lines, within_line}
use Rattle.call_watch.specs.inside.Reading.{IsSoFar, IsAllAnswered, IsClosed, StopsWith, IsCounted}
use Rattle.call_watch.specs.inside.Reading.{IsLastWritten, written, cut, unmade}
use Rattle.call_watch.specs.inside.Reading.{IsAfterByte}
use Rattle.call_watch.specs.inside.Work.{next_of}
use Rattle.call_watch.specs.declared.answering.Went.{Went}
use Rattle.call_watch.specs.declared.answering.Went.TheVariants.{On, Ended}
use Rattle.call_watch.proofs.LineLaws.{lines_of, lines-fed, lines-last, fed-more, is_feed}
use Rattle.call_watch.proofs.LineLaws.{no_feed-more}
use Rattle.call_watch.proofs.AnswerLaws.{answered-more, answered-ends}

-- STEPS

-- nothing more is written
appended-nothing : (before : Option (List ℕ)) → before ≡ appended before []
appended-nothing None = refl
appended-nothing (Some bytes) = ap (λ (bs : List ℕ). Some bs) (sym (append-nil bytes))

-- what is written for one more
appended-then : {middle after : Option (List ℕ)} (before : Option (List ℕ)) (out here : List ℕ)
    → middle ≡ appended before out → after ≡ appended middle here
    → after ≡ appended before (out ++ here)
appended-then before out here first then =
    then ∙ ap (λ (o : Option (List ℕ)). appended o here) first ∙ appended-twice before out here

-- nothing was taken
pub so_far-first : (w : Watch) (before : Option (List ℕ)) → IsSoFar w [] [] 1 at_first before before
so_far-first w before = record {
  front = [];
  taken_is = refl;
  lines = [];
  front_is = no_lines;
  fed = All-nil (λ (l : Line). l.fed ≡ true);
  out = [];
  answered = no_more 1 at_first;
  after_is = appended-nothing before;
  row_is = refl;
}

-- a byte more of the line
pub so_far-byte : {w : Watch} {taken bytes : List ℕ} {row : ℕ} {s : Standing}
    {before after : Option (List ℕ)} (b : ℕ) → IsSoFar w taken bytes row s before after
    → IsSoFar w (taken ++ b ∷ []) (bytes ++ b ∷ []) row s before after
so_far-byte {bytes = bytes} b f = record {
  front = f.front;
  taken_is = ap (λ (t : List ℕ). t ++ b ∷ []) f.taken_is ∙ append_assoc f.front bytes (b ∷ []);
  lines = f.lines;
  front_is = f.front_is;
  fed = f.fed;
  out = f.out;
  answered = f.answered;
  after_is = f.after_is;
  row_is = f.row_is;
}

-- the line feed, and it goes on
pub so_far-fed : {w : Watch} {taken bytes : List ℕ} {row : ℕ} {s t : Standing}
    {before middle after : Option (List ℕ)} {here : List ℕ}
    → IsSoFar w taken bytes row s before middle → HasNoFeed bytes
    → IsLineAnswered w row s bytes (goes_on t) here → after ≡ appended middle here
    → IsSoFar w (taken ++ 10 ∷ []) [] (row + 1) t before after
so_far-fed {w} {taken} {bytes} {row} {s} {t} {before} {middle} {after} {here} f none one then =
    let l : Line = line bytes true in
    let size : length f.front + taken_by l ≡ length (taken ++ 10 ∷ []) = omega (
      arith,
      length-append taken (10 ∷ []),
      ap length f.taken_is,
      length-append f.front bytes,
    ) in
    let place : row + 1 ≡ length (f.lines ++ l ∷ []) + 1 = omega (
      arith,
      f.row_is,
      length-append f.lines (l ∷ []),
    ) in
    record {
      front = taken ++ 10 ∷ [];
      taken_is = sym (append-nil (taken ++ 10 ∷ []));
      lines = f.lines ++ l ∷ [];
      front_is = subst (λ (u : List ℕ). AreLines (u ++ 10 ∷ []) (f.lines ++ l ∷ []))
          (sym f.taken_is) (lines-fed bytes f.front_is f.fed none no_lines);
      fed = fed-more bytes f.lines f.fed;
      out = f.out ++ here;
      answered = subst (λ (n : ℕ). AreLinesAnswered w 1 at_first (f.lines ++ l ∷ []) (goes_on t) n
          (f.out ++ here)) size (answered-more row l f.answered f.row_is one);
      after_is = appended-then before f.out here f.after_is then;
      row_is = place;
    }

-- all lines have their line feed
pub all_answered-fed : {w : Watch} {taken : List ℕ} {row : ℕ} {s : Standing}
    {before after : Option (List ℕ)} → IsSoFar w taken [] row s before after
    → IsAllAnswered w taken row before after
all_answered-fed {w} {taken} {s = s} f =
    let same : taken ≡ f.front = f.taken_is ∙ append-nil f.front in
    record {
      lines = f.lines;
      taken_are = subst (λ (u : List ℕ). AreLines u f.lines)
          (sym same) f.front_is;
      standing = s;
      out = f.out;
      answered = subst (λ (u : List ℕ). AreLinesAnswered w 1 at_first f.lines (goes_on s)
          (length u) f.out) (sym same) f.answered;
      after_is = f.after_is;
      row_is = f.row_is;
    }

-- the last line has none
pub all_answered-last : {w : Watch} {taken bytes : List ℕ} {row : ℕ} {s t : Standing}
    {before middle after : Option (List ℕ)} {here : List ℕ}
    → IsSoFar w taken bytes row s before middle → (bytes ≡ [] → ⊥) → HasNoFeed bytes
    → IsLineAnswered w row s bytes (goes_on t) here → after ≡ appended middle here
    → IsAllAnswered w taken (row + 1) before after
all_answered-last {w} {taken} {bytes} {row} {t = t} {before = before} {here = here} f some none one
    then =
    let l : Line = line bytes false in
    let place : row + 1 ≡ length (f.lines ++ l ∷ []) + 1 = omega (
      arith,
      f.row_is,
      length-append f.lines (l ∷ []),
    ) in
    let size : length f.front + taken_by l ≡ length taken = omega (
      arith,
      ap length f.taken_is,
      length-append f.front bytes,
    ) in
    record {
      lines = f.lines ++ l ∷ [];
      taken_are = subst (λ (u : List ℕ). AreLines u (f.lines ++ l ∷ [])) (sym f.taken_is)
          (lines-last bytes f.front_is f.fed some none);
      standing = t;
      out = f.out ++ here;
      answered = subst (λ (n : ℕ). AreLinesAnswered w 1 at_first (f.lines ++ l ∷ []) (goes_on t) n
          (f.out ++ here)) size (answered-more row l f.answered f.row_is one);
      after_is = appended-then before f.out here f.after_is then;
      row_is = place;
    }

-- WHERE A LINE ENDS IT

-- the statuses that an answer has
abbrev pub Ends : Next → Type 0
Ends (goes_on s) = Unit {0}
Ends (ended status.ReadFault) = ⊥
Ends (ended status.Usage) = ⊥
Ends (ended status.WriteFault) = ⊥
Ends (ended status.OutOfMemory) = ⊥
Ends (ended _) = Unit {0}

status_ends : (answer : Watched) → Ends (ended (watched_status answer))
status_ends watched.Possible = tt
status_ends watched.Impossible = tt
status_ends watched.OverFirings = tt
status_ends watched.OverAction = tt

answers_end : {w : Watch} {given events : List Event} {next : Next} {out : List ℕ}
    → AreAnswered w given events next out → Ends next
answers_end (all_given given) = tt
answers_end (one_given given events e next out is then) = answers_end then
answers_end (one_ends given events e answer other is) = status_ends answer

pub line_ends : {w : Watch} {row : ℕ} {s : Standing} {bytes : List ℕ} {next : Next} {out : List ℕ}
    → IsLineAnswered w row s bytes next out → Ends next
line_ends (skipped is) = tt
line_ends (refused column why some other is) = tt
line_ends (ends answer later is finished) = status_ends answer
line_ends (answered events next out some has are) = answers_end are

-- a line that is closed: by its line feed, or by the end of the text
pub record IsClosing (w : Watch) (text : List ℕ) (taken : ℕ) (bytes : List ℕ) (row : ℕ) (s
    : Standing)
    (before after : Option (List ℕ)) : Type 0 where
  pub lines : List Line
  pub l : Line
  pub l_is : l.bytes ≡ bytes
  pub more : List Line
  pub text_is : AreLines text (lines ++ l ∷ more)
  pub closed : AreClosed text taken (lines ++ l ∷ [])
  pub size : ℕ
  pub out : List ℕ
  pub answered : AreLinesAnswered w 1 at_first lines (goes_on s) size out
  pub taken_is : taken ≡ size + taken_by l
  pub short : taken ≤ limit_of file.Trace
  pub after_is : after ≡ appended before out
  pub row_is : row ≡ length lines + 1

-- what was taken stands in front
take-front : (front rest : List ℕ) (n : ℕ) → n ≡ length front → take n (front ++ rest) ≡ front
take-front front rest n e = ap (λ (k : ℕ). take k (front ++ rest)) e ∙ take-append_seam front rest

-- all that was taken, and one byte more
take-byte : (front rest : List ℕ) (b : ℕ) → take (length front + 1) (front ++ b ∷ rest)
    ≡ front ++ b ∷ []
take-byte front rest b =
    let size : length front + 1 ≡ length (front ++ b ∷ []) = omega (
      arith,
      length-append front (b ∷ []),
    ) in
    ap (λ (t : List ℕ). take (length front + 1) t) (sym (append_assoc front (b ∷ []) rest))
    ∙ take-front (front ++ b ∷ []) rest (length front + 1) size

-- lines that all have their line feed, and something that has none
whole_lines : {front : List ℕ} {lines : List Line} (bytes : List ℕ) → AreLines front lines
    → All (λ (l : Line). l.fed ≡ true) lines → HasNoFeed bytes → AreWholeLines (front ++ bytes)
    lines
whole_lines {front} bytes are fed none = record {
  front = front;
  rest = bytes;
  text_is = refl;
  front_is = are;
  fed = fed;
  rest_has_none = none;
}

-- the line feed as well: then all that was taken are whole lines
closed_lines : {w : Watch} {taken bytes : List ℕ} {row : ℕ} {s : Standing}
    {before after : Option (List ℕ)} (f : IsSoFar w taken bytes row s before after)
    → HasNoFeed bytes → AreWholeLines (taken ++ 10 ∷ []) (f.lines ++ line bytes true ∷ [])
closed_lines {taken = taken} {bytes} f none = record {
  front = taken ++ 10 ∷ [];
  rest = [];
  text_is = sym (append-nil (taken ++ 10 ∷ []));
  front_is = subst (λ (u : List ℕ). AreLines (u ++ 10 ∷ []) (f.lines ++ line bytes true ∷ []))
      (sym f.taken_is) (lines-fed bytes f.front_is f.fed none no_lines);
  fed = fed-more bytes f.lines f.fed;
  rest_has_none = All-nil (λ (b : ℕ). b ≡ 10 → ⊥);
}

-- and a byte that is no line feed
open_lines : {w : Watch} {taken bytes : List ℕ} {row : ℕ} {s : Standing}
    {before after : Option (List ℕ)} (b : ℕ) → (b ≡ 10 → ⊥)
    → (f : IsSoFar w taken bytes row s before after) → HasNoFeed bytes
    → AreWholeLines (taken ++ b ∷ []) (f.lines ++ [])
open_lines {bytes = bytes} b other f none =
    subst (λ (u : List ℕ). AreWholeLines u (f.lines ++ []))
    (sym (ap (λ (t : List ℕ). t ++ b ∷ []) f.taken_is ∙ append_assoc f.front bytes (b ∷ [])))
    (subst (λ (ls : List Line). AreWholeLines (f.front ++ (bytes ++ b ∷ [])) ls)
    (sym (append-nil f.lines))
    (whole_lines (bytes ++ b ∷ []) f.front_is f.fed (no_feed-more bytes b other none)))

-- the line feed closes it
pub closing-fed : {w : Watch} {taken bytes : List ℕ} {row : ℕ} {s : Standing}
    {before after : Option (List ℕ)} (rest : List ℕ) → IsSoFar w taken bytes row s before after
    → HasNoFeed bytes → length taken + 1 ≤ limit_of file.Trace
    → IsClosing w (taken ++ 10 ∷ rest) (length taken + 1) bytes row s before after
closing-fed {w} {taken} {bytes} {row} {s} rest f none short =
    let l : Line = line bytes true in
    let r = lines_of rest in
    let size : length taken + 1 ≡ length f.front + taken_by l = omega (
      arith,
      ap length f.taken_is,
      length-append f.front bytes,
    ) in
    record {
      lines = f.lines;
      l = l;
      l_is = refl;
      more = r.0;
      text_is = subst (λ (u : List ℕ). AreLines (u ++ 10 ∷ rest) (f.lines ++ l ∷ r.0))
          (sym f.taken_is) (lines-fed bytes f.front_is f.fed none r.1);
      closed = inl (subst (λ (u : List ℕ). AreWholeLines u (f.lines ++ l ∷ []))
          (sym (take-byte taken rest 10)) (closed_lines f none));
      size = length f.front;
      out = f.out;
      answered = f.answered;
      taken_is = size;
      short = short;
      after_is = f.after_is;
      row_is = f.row_is;
    }

-- the end of the text closes it
pub closing-last : {w : Watch} {taken bytes : List ℕ} {row : ℕ} {s : Standing}
    {before after : Option (List ℕ)} → IsSoFar w taken bytes row s before after
    → (bytes ≡ [] → ⊥) → HasNoFeed bytes → length taken ≤ limit_of file.Trace
    → IsClosing w taken (length taken) bytes row s before after
closing-last {w} {taken} {bytes} {row} {s} f some none short =
    let l : Line = line bytes false in
    let are : AreLines taken (f.lines ++ l ∷ []) = subst
    (λ (u : List ℕ). AreLines u (f.lines ++ l ∷ [])) (sym f.taken_is)
    (lines-last bytes f.front_is f.fed some none) in
    let size : length taken ≡ length f.front + taken_by l = omega (
      arith,
      ap length f.taken_is,
      length-append f.front bytes,
    ) in
    record {
      lines = f.lines;
      l = l;
      l_is = refl;
      more = [];
      text_is = are;
      closed = inr (are, refl);
      size = length f.front;
      out = f.out;
      answered = f.answered;
      taken_is = size;
      short = short;
      after_is = f.after_is;
      row_is = f.row_is;
    }

module _ {w : Watch} {text : List ℕ} {taken : ℕ} {bytes : List ℕ} {row : ℕ} {s : Standing}
    {before middle : Option (List ℕ)} (c : IsClosing w text taken bytes row s before middle) where
  -- an answer ends it
  ends_there : {after : Option (List ℕ)} (with : Status) (here : List ℕ) → IsLineAnswered w row s
      bytes (ended with) here
      → after ≡ appended middle here
      → (out : List ℕ) × IsWatchEnd w text with out taken × (after ≡ appended before out)
  ends_there with here one then = (
    c.out ++ here,
    at_line (c.lines ++ c.l ∷ c.more) with (c.out ++ here) taken c.text_is
        (subst (λ (n : ℕ). AreLinesAnswered w 1 at_first (c.lines ++ c.l ∷ c.more) (ended with) n
        (c.out ++ here)) (sym c.taken_is)
        (answered-ends row c.l c.more c.answered c.row_is
        (subst (λ (b : List ℕ). IsLineAnswered w row s b (ended with) here) (sym c.l_is) one)))
        c.short,
    appended-then before c.out here c.after_is then,
  )

  begun_there : (part : List ℕ) → IsLineBegun w row s bytes part
      → IsLineBegun w (length c.lines + 1) s c.l.bytes part
  begun_there part begun = subst (λ (r : ℕ). IsLineBegun w r s c.l.bytes part) c.row_is
      (subst (λ (b : List ℕ). IsLineBegun w row s b part) (sym c.l_is) begun)

  -- the answers to it are broken off there
  cut_there : {after : Option (List ℕ)} (part : List ℕ) → IsLineBegun w row s bytes part
      → after ≡ appended middle part
      → (out : List ℕ) × IsCutAtLine w text out taken × (after ≡ appended before out)
  cut_there part begun then = (
    c.out ++ part,
    record {
      lines = c.lines;
      last = c.l;
      rest = c.more;
      text_is = c.text_is;
      standing = s;
      before = c.out;
      bytes = c.size;
      answered = c.answered;
      taken_is = c.taken_is;
      within = c.short;
      part = part;
      begun = begun_there part begun;
      out_is = refl;
    },
    appended-then before c.out part c.after_is then,
  )

  -- memory ran out there
  spent_there : {after : Option (List ℕ)} (part : List ℕ)
      → (part ≡ []) ⊎ IsLineBegun w row s bytes part → after ≡ appended middle part
      → (out : List ℕ) × IsSpentEnd w text taken out × (after ≡ appended before out)
  spent_there part (inl nothing) then = (
    c.out,
    between_lines c.lines (c.l ∷ []) s c.size c.out c.closed (omega arith) c.answered
        (omega (arith, c.short, c.taken_is)) (omega (arith, c.short)),
    appended-then before c.out part c.after_is then ∙ ap (λ (o : List ℕ). appended before o)
        (ap (λ (o : List ℕ). c.out ++ o) nothing ∙ append-nil c.out),
  )
  spent_there part (inr begun) then =
      let cut = cut_there part begun then in
      (cut.0, within_line cut.0 cut.1, cut.2)

  -- whatever it ends with
  pub stops_there : (t : Standing) (after : Option (List ℕ)) (with : Status) → IsClosed w row s
      bytes t (Ended with) middle after
      → StopsWith w text taken before after with
  stops_there t after status.Fine (here, one, then) = ends_there status.Fine here one then
  stops_there t after status.Refused (here, one, then) = ends_there status.Refused here one then
  stops_there t after status.BadSpec (here, one, then) = ends_there status.BadSpec here one then
  stops_there t after status.BadTrace (here, one, then) = ends_there status.BadTrace here one then
  stops_there t after status.BadExplanation (here, one, then) =
      ends_there status.BadExplanation here one then
  stops_there t after status.OverBudget (here, one, then) = ends_there status.OverBudget here one
      then
  stops_there t after status.TooLong (here, one, then) = ends_there status.TooLong here one then
  stops_there t after status.Usage (here, one, then) = absurd (line_ends one)
  stops_there t after status.ReadFault (here, one, then) = absurd (line_ends one)
  stops_there t after status.WriteFault (part, begun, then) =
      let cut = cut_there part begun then in
      (cut.0, inl cut.1, cut.2)
  stops_there t after status.OutOfMemory (part, begun, then) = spent_there part begun then
  stops_there t after status.NoStart (here, one, then) = ends_there status.NoStart here one then

-- WHERE NO LINE ENDS IT

-- the refusal at the end of the text
abbrev pub end_line : ℕ → List ℕ
end_line row = refusal_line file.Trace row 1 (codes "bad token")

-- whatever came of writing it
pub stops_at_end : {w : Watch} {taken : List ℕ} {row : ℕ} {before middle after : Option (List ℕ)}
    (with : Status) → IsAllAnswered w taken row before middle → length taken ≤ limit_of file.Trace
    → IsLastWritten (end_line row) status.BadTrace middle after with
    → StopsWith w taken (length taken) before after with
stops_at_end {w} {taken} {row} {before} {middle} with a short (written then) = (
  a.out ++ end_line (length a.lines + 1),
  without_end a.lines a.standing a.out a.taken_are (length taken, a.answered) short,
  appended-then before a.out (end_line (length a.lines + 1)) a.after_is
      (then ∙ ap (λ (r : ℕ). appended middle (end_line r)) a.row_is),
)
stops_at_end {w} {taken} {row} {before} {middle} with a short (cut part is then) = (
  a.out ++ part,
  inr (cut_without_end a.lines a.standing a.out part a.taken_are (length taken, a.answered) short
      (subst (λ (r : ℕ). IsPrefix part (end_line r)) a.row_is is)),
  appended-then before a.out part a.after_is then,
)
stops_at_end {w} {taken} with a short (unmade then) = (
  a.out,
  between_lines a.lines [] a.standing (length taken) a.out
      (inr (
        subst (λ (ls : List Line). AreLines taken ls) (sym (append-nil a.lines)) a.taken_are,
        refl,
      ))
      (omega arith) a.answered short (omega (arith, short)),
  then ∙ a.after_is,
)

-- the text is too long, and the line of the byte that is too much is not looked at
module _ {w : Watch} {taken bytes : List ℕ} {row : ℕ} {s : Standing}
    {before middle : Option (List ℕ)} (f : IsSoFar w taken bytes row s before middle)
    (none : HasNoFeed bytes) (full : length taken ≡ limit_of file.Trace) (b : ℕ)
    (rest : List ℕ) where
  is_long : limit_of file.Trace < length (taken ++ b ∷ rest)
  is_long = omega (arith, full, length-append taken (b ∷ rest))

  lines_long : AreWholeLines (take (limit_of file.Trace) (taken ++ b ∷ rest)) f.lines
  lines_long = subst (λ (u : List ℕ). AreWholeLines u f.lines)
      (sym (take-front taken (b ∷ rest) (limit_of file.Trace) (sym full)))
      (subst (λ (u : List ℕ). AreWholeLines u f.lines) (sym f.taken_is)
      (whole_lines bytes f.front_is f.fed none))

  size_long : limit_of file.Trace + 1 ≡ length taken + 1
  size_long = ap (λ (n : ℕ). n + 1) (sym full)

  front_short : length f.front ≤ limit_of file.Trace
  front_short = omega (arith, full, ap length f.taken_is, length-append f.front bytes)

  -- memory ran out for the report
  spent_long : IsSpentEnd w (taken ++ b ∷ rest) (length taken + 1) f.out
  spent_long = elim (is_feed b) [
    | inl same ↦ between_lines f.lines (line bytes true ∷ []) s (length f.front) f.out
        (inl (subst (λ (u : List ℕ). AreWholeLines u (f.lines ++ line bytes true ∷ []))
        (sym (take-byte taken rest b))
        (subst (λ (d : ℕ). AreWholeLines (taken ++ d ∷ []) (f.lines ++ line bytes true ∷ []))
        (sym same) (closed_lines f none))))
        (omega arith) f.answered front_short (omega (arith, full))
    | inr other ↦ between_lines f.lines [] s (length f.front) f.out
        (inl (subst (λ (u : List ℕ). AreWholeLines u (f.lines ++ []))
        (sym (take-byte taken rest b)) (open_lines b other f none)))
        (omega arith) f.answered front_short (omega (arith, full))
  ]

  -- whatever came of writing the report
  pub stops_long : {after : Option (List ℕ)} (with : Status)
      → IsLastWritten (too_long_line file.Trace) status.TooLong middle after with
      → StopsWith w (taken ++ b ∷ rest) (length taken + 1) before after with
  stops_long with (written then) = (
    f.out ++ too_long_line file.Trace,
    subst (λ (n : ℕ). IsWatchEnd w (taken ++ b ∷ rest) status.TooLong
        (f.out ++ too_long_line file.Trace) n) size_long
        (too_long f.lines s f.out is_long lines_long (length f.front, f.answered)),
    appended-then before f.out (too_long_line file.Trace) f.after_is then,
  )
  stops_long with (cut part is then) = (
    f.out ++ part,
    inr (subst (λ (n : ℕ). IsCutAtEnd w (taken ++ b ∷ rest) (f.out ++ part) n) size_long
        (cut_too_long f.lines s f.out part is_long lines_long (length f.front, f.answered) is)),
    appended-then before f.out part f.after_is then,
  )
  stops_long with (unmade then) = (f.out, spent_long, then ∙ f.after_is)

-- a byte could not be got into the line
pub spent_byte : {w : Watch} {taken bytes : List ℕ} {row : ℕ} {s : Standing}
    {before middle after : Option (List ℕ)} (b : ℕ) (rest : List ℕ) → (b ≡ 10 → ⊥)
    → IsSoFar w taken bytes row s before middle → HasNoFeed bytes
    → length taken + 1 ≤ limit_of file.Trace → after ≡ middle
    → StopsWith w (taken ++ b ∷ rest) (length taken + 1) before after status.OutOfMemory
spent_byte {w} {taken} {bytes} {s = s} b rest other f none short then =
    let front_short : length f.front ≤ limit_of file.Trace = omega (
      arith,
      short,
      ap length f.taken_is,
      length-append f.front bytes,
    ) in (
      f.out,
      between_lines f.lines [] s (length f.front) f.out
          (inl (subst (λ (u : List ℕ). AreWholeLines u (f.lines ++ []))
          (sym (take-byte taken rest b)) (open_lines b other f none)))
          (omega arith) f.answered front_short (omega (arith, short)),
      then ∙ f.after_is,
    )

-- THE WHOLE CALL

-- what may stand behind the bytes that were taken
pub text_behind : (told left : Option (List ℕ)) (taken : List ℕ) → TakesOff told taken left
    → (rest : List ℕ) × IsTold told (taken ++ rest)
text_behind None left taken h = ([], tt)
text_behind (Some text) None taken h = absurd h
text_behind (Some text) (Some rest) taken h = (rest, h)

-- and behind one byte more
pub text_byte : (told old left : Option (List ℕ)) (taken : List ℕ) (b : ℕ) → TakesOff told taken old
    → TakesOff old (b ∷ []) left → (rest : List ℕ) × IsTold told (taken ++ b ∷ rest)
text_byte told old left taken b h k =
    let r = text_behind told left (taken ++ b ∷ [])
    (TakesOff-next told old left taken (b ∷ []) h k) in
    (r.0, subst (λ (t : List ℕ). IsTold told t) (append_assoc taken (b ∷ []) r.0) r.1)

-- at the end nothing stands behind them
pub text_whole : (told left : Option (List ℕ)) (taken : List ℕ) → TakesOff told taken left
    → IfSome left (λ rest. rest ≡ []) → IsTold told taken
text_whole None left taken h end = tt
text_whole (Some text) None taken h end = absurd h
text_whole (Some text) (Some rest) taken h end =
    h ∙ ap (λ (r : List ℕ). taken ++ r) end ∙ append-nil taken

-- the call stops, and no read has failed
pub watches_stop : {w : Watch} {shelf : Seen} {n : ℕ} {before after : Option (List ℕ)}
    (text : List ℕ) (with : Status)
    → IsTold (shelf.before.told standard_input) text → shelf.after.taken ≡ n
    → StopsWith w text n before after with → Watches w shelf before after with
watches_stop {w} {shelf} {n} {before} {after} text with told size stops =
    by_status with (subst (λ (m : ℕ). StopsWith w text m before after with) (sym size) stops)
  where
    by_status : (with : Status) → StopsWith w text shelf.after.taken before after with
        → Watches w shelf before after with
    by_status status.Fine (out, is, then) = answers text out status.Fine told is then
    by_status status.Refused (out, is, then) = answers text out status.Refused told is then
    by_status status.BadSpec (out, is, then) = answers text out status.BadSpec told is then
    by_status status.BadTrace (out, is, then) = answers text out status.BadTrace told is then
    by_status status.BadExplanation (out, is, then) =
        answers text out status.BadExplanation told is then
    by_status status.OverBudget (out, is, then) = answers text out status.OverBudget told is then
    by_status status.TooLong (out, is, then) = answers text out status.TooLong told is then
    by_status status.Usage stops = absurd stops
    by_status status.ReadFault stops = absurd stops
    by_status status.WriteFault (out, is, then) = cannot_write text out told is then
    by_status status.OutOfMemory (out, is, then) = spent text out told is then
    by_status status.NoStart (out, is, then) = answers text out status.NoStart told is then

-- a read failed
pub watches_unread : {w : Watch} {shelf : Seen} {taken bytes : List ℕ} {row : ℕ} {s : Standing}
    {before after : Option (List ℕ)} (left : Option (List ℕ))
    → TakesOff (shelf.before.told standard_input) taken left
    → Rose (shelf.before.faults standard_input) (shelf.after.faults standard_input)
    → shelf.after.taken ≡ length taken → length taken ≤ limit_of file.Trace
    → IsSoFar w taken bytes row s before after → HasNoFeed bytes → Watches w shelf before after
    status.ReadFault
watches_unread {w} {shelf} {taken} {bytes} {s = s} left front rose size short f none =
    let r = text_behind (shelf.before.told standard_input) left taken front in
    let e : take shelf.after.taken (taken ++ r.0) ≡ taken =
    take-front taken r.0 shelf.after.taken size in
    let whole : AreWholeLines taken f.lines = subst (λ (u : List ℕ). AreWholeLines u f.lines)
    (sym f.taken_is) (whole_lines bytes f.front_is f.fed none) in
    let unread : IsUnreadEnd w taken f.out = record {
      lines = f.lines;
      whole = whole;
      standing = s;
      answered = (length f.front, f.answered);
    } in
    cannot_read (taken ++ r.0) f.out r.1 rose (omega (arith, size, short))
    (subst (λ (u : List ℕ). IsUnreadEnd w u f.out) (sym e) unread) f.after_is

-- COUNTS

-- the counts of an output whose last line was written
pub last_counted : {last : List ℕ} {with result : Status} {before after : Option (List ℕ)}
    {old new : ℕ} → IsLastWritten last with before after result
    → (new ≡ old → IsCounted (Ended with) old new) → (with ≡ status.WriteFault → ⊥)
    → (result ≡ status.WriteFault → (with ≡ status.WriteFault → ⊥) → Rose old new)
    → ((result ≡ status.WriteFault → ⊥) → new ≡ old) → IsCounted (Ended result) old new
last_counted (written then) plain other rose same = plain (same other)
last_counted (cut part is then) plain other rose same = rose refl other
last_counted (unmade then) plain other rose same = same (λ e. cc)

-- that a status is one of an answer holds in one way
pub ends_prop : (with : Status) (a b : Ends (ended with)) → a ≡ b
ends_prop status.Fine a b = refl
ends_prop status.Refused a b = refl
ends_prop status.BadSpec a b = refl
ends_prop status.BadTrace a b = refl
ends_prop status.BadExplanation a b = refl
ends_prop status.OverBudget a b = refl
ends_prop status.TooLong a b = refl
ends_prop status.Usage a b = absurd a
ends_prop status.ReadFault a b = absurd a
ends_prop status.WriteFault a b = absurd a
ends_prop status.OutOfMemory a b = absurd a
ends_prop status.NoStart a b = refl

-- then the counts are as they were
pub counted_ended : {old new : ℕ} (with : Status) → Ends (ended with) → new ≡ old
    → IsCounted (Ended with) old new
counted_ended status.Fine one same = same
counted_ended status.Refused one same = same
counted_ended status.BadSpec one same = same
counted_ended status.BadTrace one same = same
counted_ended status.BadExplanation one same = same
counted_ended status.OverBudget one same = same
counted_ended status.TooLong one same = same
counted_ended status.Usage one same = absurd one
counted_ended status.ReadFault one same = absurd one
counted_ended status.WriteFault one same = absurd one
counted_ended status.OutOfMemory one same = absurd one
counted_ended status.NoStart one same = same

-- what came of a line is this end
pub ended_line : {w : Watch} {row : ℕ} {s : Standing} {bytes own : List ℕ} {here : List ℕ}
    {went : Went} {with : Status} (new : Standing) → own ≡ bytes → went ≡ Ended with
    → IsLineAnswered w row s own (next_of went new) here
    → IsLineAnswered w row s bytes (ended with) here
ended_line {w} {row} {s} {bytes} {own} {here} {went} {with} new same is one =
    subst (λ (b : List ℕ). IsLineAnswered w row s b (ended with) here) same
    (subst (λ (v : Went). IsLineAnswered w row s own (next_of v new) here) is one)

-- and so it was closed
pub closed_ended : {w : Watch} {row : ℕ} {s : Standing} {bytes here : List ℕ}
    {after : Option (List ℕ)} (new : Standing) (before : Option (List ℕ)) (with : Status)
    → IsLineAnswered w row s bytes (ended with) here → after ≡ appended before here
    → IsClosed w row s bytes new (Ended with) before after
closed_ended {here = here} new before status.Fine one then = (here, one, then)
closed_ended {here = here} new before status.Refused one then = (here, one, then)
closed_ended {here = here} new before status.BadSpec one then = (here, one, then)
closed_ended {here = here} new before status.BadTrace one then = (here, one, then)
closed_ended {here = here} new before status.BadExplanation one then = (here, one, then)
closed_ended {here = here} new before status.OverBudget one then = (here, one, then)
closed_ended {here = here} new before status.TooLong one then = (here, one, then)
closed_ended {here = here} new before status.Usage one then = (here, one, then)
closed_ended {here = here} new before status.ReadFault one then = (here, one, then)
closed_ended {here = here} new before status.WriteFault one then = absurd (line_ends one)
closed_ended {here = here} new before status.OutOfMemory one then = absurd (line_ends one)
closed_ended {here = here} new before status.NoStart one then = (here, one, then)

-- A LINE FEED

-- what comes of it
pub after_feed : {w : Watch} {taken bytes line : List ℕ} {row next : ℕ} {s : Standing}
    {before middle : Option (List ℕ)} (new : Standing) (after : Option (List ℕ)) (byte : ℕ)
    (went : Went) → byte ≡ 10
    → IsSoFar w taken bytes row s before middle → HasNoFeed bytes
    → IsClosed w row s bytes new went middle after
    → (went ≡ On → (line ≡ []) × (next ≡ row + 1))
    → IsAfterByte w taken byte line next new before after went
after_feed {w} {taken} {bytes} {line} {row} {next} {s} {before} {middle} new after byte went feed f
    none is then =
    subst (λ (b : ℕ). IsAfterByte w taken b line next new before after went) (sym feed)
    (by_went went is then)
  where
    by_went : (went : Went) → IsClosed w row s bytes new went middle after
        → (went ≡ On → (line ≡ []) × (next ≡ row + 1))
        → IsAfterByte w taken 10 line next new before after went
    by_went On is then =
        let n = then refl in
        subst (λ (l : List ℕ). IsSoFar w (taken ++ 10 ∷ []) l next new before after) (sym n.0)
        (subst (λ (r : ℕ). IsSoFar w (taken ++ 10 ∷ []) [] r new before after) (sym n.1)
        (so_far-fed f none is.1 is.2))
    by_went (Ended with) is then = λ short rest.
        stops_there (closing-fed rest f none short) new after with is

-- THE END OF THE TEXT

-- it closed the last line, which ended the call
pub ends_after : {w : Watch} {taken bytes : List ℕ} {row : ℕ} {s : Standing}
    {before middle : Option (List ℕ)} (new : Standing) (after : Option (List ℕ)) (went : Went)
    (with : Status) → went ≡ Ended with → IsSoFar w taken bytes row s before middle
    → (bytes ≡ [] → ⊥) → HasNoFeed bytes → length taken ≤ limit_of file.Trace
    → IsClosed w row s bytes new went middle after → StopsWith w taken (length taken) before after
    with
ends_after {w} {taken} {bytes} {row} {s} {before} {middle} new after went with is f some none short
    closed =
    stops_there (closing-last f some none short) new after with
    (subst (λ (v : Went). IsClosed w row s bytes new v middle after) is closed)

-- or after which it goes on
pub goes_after : {w : Watch} {taken bytes : List ℕ} {row next : ℕ} {s : Standing}
    {before middle : Option (List ℕ)} (new : Standing) (after : Option (List ℕ)) (went : Went)
    → went ≡ On → IsSoFar w taken bytes row s before middle
    → (bytes ≡ [] → ⊥) → HasNoFeed bytes
    → IsClosed w row s bytes new went middle after → next ≡ row + 1
    → IsAllAnswered w taken next before after
goes_after {w} {taken} {bytes} {row} {next} {s} {before} {middle} new after went is f some none
    closed then =
    let c = subst (λ (v : Went). IsClosed w row s bytes new v middle after) is closed in
    subst (λ (r : ℕ). IsAllAnswered w taken r before after) (sym then)
    (all_answered-last f some none c.1 c.2)

-- or there is none to close
pub all_answered-none : {w : Watch} {taken bytes : List ℕ} {row : ℕ} {s : Standing}
    {before after : Option (List ℕ)} → bytes ≡ [] → IsSoFar w taken bytes row s before after
    → IsAllAnswered w taken row before after
all_answered-none {w} {taken} {bytes} {row} {s} {before} {after} none f =
    all_answered-fed (subst (λ (b : List ℕ). IsSoFar w taken b row s before after) none f)

-- counts that were as they were at first
pub counted_then : {old middle : ℕ} (new : ℕ) (went : Went) → middle ≡ old → IsCounted went middle
    new
    → IsCounted went old new
counted_then new went same is = subst (λ (n : ℕ). IsCounted went n new) same is

-- AT FIRST

-- nothing was taken of what is told
pub takes_nothing : (told left : Option (List ℕ)) → IfSome told (λ bytes. left ≡ Some bytes)
    → TakesOff told [] left
takes_nothing None left h = tt
takes_nothing (Some text) left h = subst (λ (l : Option (List ℕ)). TakesOff (Some text) [] l)
    (sym h) refl

-- a list of no length
pub nothing_in : (xs : List ℕ) → length xs ≡ 0 → xs ≡ []
nothing_in [] e = refl
nothing_in (x ∷ xs) e = absurd (omega arith)

-- WHAT COUNTS SAY

pub counted_rose : {old new : ℕ} (with : Status) → IsCounted (Ended with) old new
    → with ≡ status.WriteFault → Rose old new
counted_rose {old} {new} with is e = subst (λ (w : Status). IsCounted (Ended w) old new) e is

pub counted_usage : (old new : ℕ) (with : Status) → IsCounted (Ended with) old new
    → with ≡ status.Usage → ⊥
counted_usage old new with is e = subst (λ (w : Status). IsCounted (Ended w) old new) e is

pub counted_read : (old new : ℕ) (with : Status) → IsCounted (Ended with) old new
    → with ≡ status.ReadFault → ⊥
counted_read old new with is e = subst (λ (w : Status). IsCounted (Ended w) old new) e is

pub counted_same : {old new : ℕ} (with : Status) → IsCounted (Ended with) old new
    → (with ≡ status.WriteFault → ⊥) → new ≡ old
counted_same status.Fine is other = is
counted_same status.Refused is other = is
counted_same status.BadSpec is other = is
counted_same status.BadTrace is other = is
counted_same status.BadExplanation is other = is
counted_same status.OverBudget is other = is
counted_same status.TooLong is other = is
counted_same status.Usage is other = absurd is
counted_same status.ReadFault is other = absurd is
counted_same status.WriteFault is other = absurd (other refl)
counted_same status.OutOfMemory is other = is
counted_same status.NoStart is other = is

-- WHAT A BYTE SAYS

pub some_then : (P : ℕ → Type 0) (o : Option ℕ) (b : ℕ) → o ≡ Some b → IfSome o P → P b
some_then P o b e h = subst (λ (o : Option ℕ). IfSome o P) e h

pub none_then : (P : Type 0) (o : Option ℕ) → o ≡ None → IfNone o P → P
none_then P o e h = subst (λ (o : Option ℕ). IfNone o P) e h

pub counted_on : (old new : ℕ) (went : Went) → went ≡ On → IsCounted went old new → new ≡ old
counted_on old new went is counted = subst (λ (v : Went). IsCounted v old new) is counted

pub counted_as : (old new : ℕ) (went : Went) (with : Status) → went ≡ Ended with
    → IsCounted went old new → IsCounted (Ended with) old new
counted_as old new went with is counted = subst (λ (v : Went). IsCounted v old new) is counted
