-- What a function answers that reads a file.
use Rattle.std.specs.Prelude.{◌≡◌, ℕ, ◌≤◌, List, [], ◌∷◌, ◌++◌, length, IfSome}
use Rattle.std.specs.Prelude.{IfOk, IfErr, Result, Ok, Err}
use Rattle.std.specs.Global.{Vec}
use Rattle.est_lexer.specs.declared.kind.Token.{Token}
use Rattle.call_files.specs.FaultCounts.{Rose, AllStay}
use Rattle.call_files.specs.Pieces.{SameTold}
use Rattle.call_files.specs.declared.stop.Stop.{Stop}
use Rattle.call_files.specs.declared.stop.Stop.TheVariants.{Refused, ReadFault, OutOfMemory}
use Rattle.call_files.specs.declared.status.Status.{Status}
use Rattle.call_files.specs.declared.file.File.{File}
use Rattle.call_files.specs.Files.{limit_of}
use Rattle.call_files.specs.FileTexts.{IsText, Holds, Refusals, IsReported}
use Rattle.call_files.specs.Seen.{Seen}
use Rattle.call_files.specs.FileEnds.{End, reported, unread, IsTooLong, EndsAt, EndsAtText}

-- a function stops before its work is done; memory may run out at any time
abbrev pub IsStop : (End → Type 0) → Stop → Type 0
IsStop P (Refused report) = P (reported report.status report.text.items)
IsStop P ReadFault = P unread
IsStop P OutOfMemory = Unit {0}

-- a function stops with this report, or because memory ran out
abbrev pub StopsWith : Status → List ℕ → Stop → Type 0
StopsWith status text (Refused report) =
    (report.status ≡ status) × (report.text.items ≡ text)
StopsWith status text ReadFault = ⊥
StopsWith status text OutOfMemory = Unit {0}

-- each count of faults is as it was, unless a function stops for a file that could not be read
abbrev pub IsQuiet : {A : Type 0} → Seen → Result A Stop → Type 0
IsQuiet shelf (Ok x) = AllStay shelf.before.faults shelf.after.faults
IsQuiet shelf (Err (Refused report)) = AllStay shelf.before.faults shelf.after.faults
IsQuiet shelf (Err ReadFault) = Unit {0}
IsQuiet shelf (Err OutOfMemory) = AllStay shelf.before.faults shelf.after.faults

-- a file could not be read whole: it is too long, or its count of faults rose
abbrev pub IsUnread : Seen → File → List ℕ → End → Type 0
IsUnread shelf file name (reported status report) = IsTooLong shelf file name status report
IsUnread shelf file name unread = Rose (shelf.before.faults name) (shelf.after.faults name)

-- a text is refused, with this status and this report
abbrev pub IsRefusedText : File → Refusals → List ℕ → End → Type 0
IsRefusedText file Refuses text (reported status report) =
    IsText file text (IsReported file Refuses status report)
IsRefusedText file Refuses text unread = ⊥

-- the bytes of a file were read whole: they are within its limit, and those that are told
pub record IsRead (shelf : Seen) (file : File) (name text : List ℕ) : Type 0 where
  pub short : length text ≤ limit_of file
  pub same : IfSome (shelf.before.told name) (λ bytes. text ≡ bytes)

-- the file of this name alone was started, and once; what is told stays, and so do the counts
pub record Touches {A : Type 0} (name : List ℕ) (shelf : Seen) (result : Result A Stop)
    : Type 0 where
  pub told : SameTold shelf.before.told shelf.after.told
  pub started : shelf.after.started ≡ shelf.before.started ++ name ∷ []
  pub quiet : IsQuiet shelf result

-- what a reader of the bytes of a file answers
pub record ReadsBytes (file : File) (name : List ℕ) (shelf : Seen) (result : Result (Vec ℕ) Stop)
    : Type 0 where
  pub touches : Touches name shelf result
  pub read : IfOk result (λ text. IsRead shelf file name text.items)
  pub ended : IfErr result (IsStop (IsUnread shelf file name))

-- what a reader of a text answers: the value that it is of, or that it is refused
pub record ReadsText {A : Type 0}
    (file : File) (Is : A → List ℕ → List Token → Type 0) (Refuses : Refusals) (text : List ℕ)
    (result : Result A Stop)
    : Type 0 where
  pub good : IfOk result (λ x. IsText file text (Is x))
  pub refused : IfErr result (IsStop (IsRefusedText file Refuses text))

-- what a reader answers that takes a text as a file's: the value that it is of, or that the call
-- ends there
pub record TakesText {A : Type 0}
    (file : File) (Is : A → List ℕ → List Token → Type 0) (Refuses : Refusals) (text : List ℕ)
    (result : Result A Stop)
    : Type 0 where
  pub good : IfOk result (λ x. IsText file text (Is x))
  pub ended : IfErr result (IsStop (EndsAtText file text Refuses))

-- what a reader of a file answers: the value of its text, or that the call ends there
pub record ReadsFile {A : Type 0}
    (file : File) (name : List ℕ) (Is : A → List ℕ → List Token → Type 0) (Refuses : Refusals)
    (shelf : Seen) (result : Result A Stop)
    : Type 0 where
  pub touches : Touches name shelf result
  pub good : IfOk result (λ x. Holds file (shelf.before.told name) (Is x))
  pub ended : IfErr result (IsStop (EndsAt shelf file name Refuses))
