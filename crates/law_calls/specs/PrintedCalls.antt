-- What calls of `print` write.
use Rattle.std.specs.Prelude.{◌≡◌, ℕ, ◌≤◌, List, [], length, Some, String}
use Rattle.std.specs.Global.{Global}
use Rattle.est_lexer.specs.declared.kind.Token.{Token}
use Rattle.est_lexer.specs.TokenList.{IsTokenList}
use Rattle.est_syntax.specs.declared.specification.Spec.{Spec}
use Rattle.est_grammar.specs.Answer.{HasOneTree}
use Rattle.est_print.specs.PrintedText.{IsPrintedText, SameButPlaces}
use Rattle.call_files.specs.declared.file.File.TheVariants as file
use Rattle.call_files.specs.declared.status.Status.{Status}
use Rattle.call_files.specs.declared.status.Status.TheVariants.{Fine}
use Rattle.call_files.specs.Files.{limit_of}
use Rattle.call_files.specs.FileEnds.{reported, HoldsSpecification}
use Rattle.call_files.specs.Requests.{Asks, check, print, bytes_of}
use Rattle.call_files.specs.Seen.{Seen, Sent}
use Rattle.est_tool.specs.Ends.{Ends}
use Rattle.est_tool.specs.Result.{IsResult}

-- A call prints a file: the bytes of the file are told, and are the source of the specification; so
-- often bytes were asked for. The call ends well, and its output, which was empty, has this text.
pub record Prints (spec : Spec) (source text : List ℕ) : Type 0 where
  pub words : List (String Global)
  pub shelf : Seen
  pub calls : ℕ
  pub output : Sent
  pub name : List ℕ
  pub asked : Asks (bytes_of words) (print name)
  pub told : shelf.before.told name ≡ Some source
  pub good : HoldsSpecification shelf name spec
  pub empty : output.before.written ≡ Some []
  pub fine : IsResult words shelf calls output Fine
  pub wrote : output.after.written ≡ Some text

-- What is written is the printed text of the specification.
abbrev pub PrintedTextsAreWritten : Type 0
PrintedTextsAreWritten = (spec : Spec) (source text : List ℕ) → Prints spec source text
    → IsPrintedText spec text

-- Of sources whose specifications are the same but for their places one text is written.
abbrev pub OneTextIsWritten : Type 0
OneTextIsWritten = (a b : Spec) (source other text again : List ℕ) → SameButPlaces a b
    → Prints a source text → Prints b other again → text ≡ again

-- What is written is written once more, byte for byte, where it is printed itself.
abbrev pub PrintingIsStable : Type 0
PrintingIsStable = (spec back : Spec) (source text again : List ℕ)
    → Prints spec source text → Prints back text again → again ≡ text

-- the text has one tree, which is the specification but for places
pub record IsReadBack (spec : Spec) (text : List ℕ) : Type 0 where
  pub tokens : List Token
  pub back : Spec
  pub list : IsTokenList text tokens
  pub tree : HasOneTree text tokens back
  pub same : SameButPlaces spec back

-- So has what is written, where it is within the length of a specification, and a check of it ends
-- with a report.
abbrev pub WrittenTextsAreRead : Type 0
WrittenTextsAreRead = (spec : Spec) (source text : List ℕ) (shelf : Seen) (name : List ℕ)
    (status : Status) (report : List ℕ)
    → Prints spec source text → length text ≤ limit_of file.Specification
    → shelf.before.told name ≡ Some text → Ends shelf (check name) (reported status report)
    → IsReadBack spec text
