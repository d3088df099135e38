-- What comes of a line.
use Rattle.std.specs.Prelude.{◌≡◌, ℕ, ◌≤◌, ◌⊎◌, All, Bool, false, List, [], ◌++◌, Option, Result, Ok, Err}
use Rattle.std.specs.Prelude.{length}
use Rattle.est_meaning.specs.declared.event.Event.{Event}
use Rattle.est_meaning.specs.AllowedEvents.{IsAllowed}
use Rattle.est_syntax.specs.declared.specification.Spec.{Spec}
use Rattle.est_syntax.specs.declared.ports.Port.{Port}
use Rattle.call_files.specs.FaultCounts.{Rose}
use Rattle.call_files.specs.Pieces.{appended, IsPrefix}
use Rattle.mean_watch.specs.declared.watched.Watched.{Watched}
use Rattle.mean_watch.specs.declared.watched.Watched.TheVariants.{Possible}
use Rattle.mean_watch.specs.Watching.{IsFinished}
use Rattle.call_watch.specs.Lines.{HasEvents, IsRefusedLine}
use Rattle.call_watch.specs.Answers.{Watch, Standing, Next, goes_on, ended, watched_status}
use Rattle.call_watch.specs.Answers.{AreAnswered, IsLineAnswered, IsLineBegun, finish_line}
use Rattle.call_watch.specs.declared.answering.Went.{Went}
use Rattle.call_watch.specs.declared.answering.Went.TheVariants.{On, Ended}
use Rattle.call_watch.specs.declared.answering.Cut.{Cut}
use Rattle.call_watch.specs.declared.answering.Cut.TheVariants.{Unwritten, OutOfMemory}
use Rattle.call_watch.specs.declared.line.Found.{Found}
use Rattle.call_watch.specs.declared.line.Found.TheVariants.{Events, Refused}

-- what comes next, where it goes on from this standing if it does
abbrev pub next_of : Went → Standing → Next
next_of On s = goes_on s
next_of (Ended with) s = ended with

-- how far it has come once these events are given
abbrev pub after_events : List Event → Standing
after_events given = record { first = false; given = given }

-- what a line says that has tokens and is not `end`: its events, or where it is refused and why
abbrev pub IsFound : List Port → ℕ → Bool → List ℕ → Found → Type 0
IsFound ports room first bytes (Events events) = HasEvents ports room first bytes events
IsFound ports room first bytes (Refused column why) =
    IsRefusedLine ports room first bytes column why.now

-- it is refused at this column, and this is why
abbrev pub IsRefusedAt : ℕ → List ℕ → Found → Type 0
IsRefusedAt column why (Events events) = ⊥
IsRefusedAt column why (Refused at said) = (at ≡ column) × (said.now ≡ why)

-- events that a line says are allowed, and are so many at most
abbrev pub AreFewAllowed : Spec → ℕ → Found → Type 0
AreFewAllowed spec most (Events events) = All (IsAllowed spec) events × (length events ≤ most)
AreFewAllowed spec most (Refused column why) = Unit {0}

-- what comes of the answer to an event
abbrev pub went_by : Watched → Went
went_by Possible = On
went_by answer = Ended (watched_status answer)

-- this was to be written: it is, or a front part of it, which is none where memory ran out
abbrev pub IsPut : {A : Type 0} → List ℕ → Result A Cut → Option (List ℕ) → Option (List ℕ)
    → Type 0
IsPut text (Ok a) before after = after ≡ appended before text
IsPut text (Err Unwritten) before after = (part : List ℕ)
    × IsPrefix part text × (after ≡ appended before part)
IsPut text (Err OutOfMemory) before after = after ≡ before

-- a part of the answers to events: to the first ones, of which the last may be written in part
pub record AreBegun (w : Watch) (given events : List Event) (part : List ℕ) : Type 0 where
  pub first : List Event
  pub rest : List Event
  pub events_are : events ≡ first ++ rest
  pub next : Next
  pub left : List ℕ
  pub answered : AreAnswered w given first next (part ++ left)

-- events were given: the answers are written, or a part of them
abbrev pub AreGiven : Watch → List Event → List Event → Standing → Result Went Cut
    → Option (List ℕ) → Option (List ℕ) → Type 0
AreGiven w given events new (Ok went) before after = (out : List ℕ)
    × AreAnswered w given events (next_of went new) out × (after ≡ appended before out)
AreGiven w given events new (Err cut) before after = (part : List ℕ)
    × AreBegun w given events part × (after ≡ appended before part)

-- the end was told: the answer is written, or a front part of it, which is none where memory ran out
abbrev pub IsEnded : Watch → List Event → Result Went Cut
    → Option (List ℕ) → Option (List ℕ) → Type 0
IsEnded w given (Ok went) before after = (answer : Watched)
    × IsFinished w.setup w.budget given answer × (went ≡ Ended (watched_status answer))
    × (after ≡ appended before (finish_line w (length given) answer))
IsEnded w given (Err Unwritten) before after = (answer : Watched)
    × IsFinished w.setup w.budget given answer × (part : List ℕ)
    × IsPrefix part (finish_line w (length given) answer) × (after ≡ appended before part)
IsEnded w given (Err OutOfMemory) before after = after ≡ before

-- a line was answered, or a part of the answers to it is written, which is none where memory ran out
-- before the line was read
abbrev pub IsTaken : Watch → ℕ → Standing → List ℕ → Standing → Result Went Cut
    → Option (List ℕ) → Option (List ℕ) → Type 0
IsTaken w row old bytes new (Ok went) before after = (out : List ℕ)
    × IsLineAnswered w row old bytes (next_of went new) out × (after ≡ appended before out)
IsTaken w row old bytes new (Err Unwritten) before after = (part : List ℕ)
    × IsLineBegun w row old bytes part × (after ≡ appended before part)
IsTaken w row old bytes new (Err OutOfMemory) before after = (part : List ℕ)
    × ((part ≡ []) ⊎ IsLineBegun w row old bytes part) × (after ≡ appended before part)

-- the count of the output rose where an answer could not be written, and is as it was else
abbrev pub AnswersSink : {A : Type 0} → Result A Cut → ℕ → ℕ → Type 0
AnswersSink (Err Unwritten) old new = Rose old new
AnswersSink _ old new = new ≡ old
