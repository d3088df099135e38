-- The lines of a trace that is read as it comes, and what a line is.
use Rattle.std.specs.Prelude.{◌≡◌, ◌≢◌, ℕ, ◌+◌, ◌-◌, Bool, true, false, if◌then◌else◌}
use Rattle.std.specs.Prelude.{List, [], ◌∷◌, ◌++◌, All, Some, codes, length}
use Rattle.est_lexer.specs.declared.kind.Token.{Token}
use Rattle.est_lexer.specs.Lines.{column_at}
use Rattle.est_lexer.specs.Offsets.{offset_at}
use Rattle.est_lexer.specs.TokenList.{IsTokenList}
use Rattle.est_syntax.specs.declared.ports.Port.{Port}
use Rattle.est_meaning.specs.declared.event.Event.{Event}
use Rattle.est_meaning.specs.AllowedEvents.{most_events}
use Rattle.est_trace.specs.LineText.{IsOnlyLineText, IsLineRefusal, IsEndAlone}
use Rattle.est_trace.specs.declared.error.TraceError.{TraceError}
use Rattle.call_files.specs.FileTexts.{SaysOfTrace}
use Rattle.call_files.specs.declared.status.Status.TheVariants.{BadTrace}

-- LINES

-- the bytes of a line without its line feed, and whether it has one: the last line of a text may not
pub record Line : Type 0 where
  pub bytes : List ℕ
  pub fed : Bool

abbrev pub line : List ℕ → Bool → Line
line bytes fed = record { bytes = bytes; fed = fed }

-- none of the bytes is a line feed
abbrev pub HasNoFeed : List ℕ → Type 0
HasNoFeed bytes = All (λ b. b ≢ 10) bytes

-- A text is these lines, in order. What stands after the last line feed is a line, where something
-- does.
pub data AreLines : List ℕ → List Line → Type 0 where
  no_lines : AreLines [] []
  last_line : (bytes : List ℕ) → bytes ≢ [] → HasNoFeed bytes
      → AreLines bytes (line bytes false ∷ [])
  fed_line : (bytes rest : List ℕ) (lines : List Line) → HasNoFeed bytes → AreLines rest lines
      → AreLines (bytes ++ 10 ∷ rest) (line bytes true ∷ lines)

-- how many bytes a line takes, with its line feed
abbrev pub taken_by : Line → ℕ
taken_by l = length l.bytes + (if l.fed then 1 else 0)

-- these are the whole lines of a text, and then something that has no line feed
pub record AreWholeLines (text : List ℕ) (lines : List Line) : Type 0 where
  pub front : List ℕ
  pub rest : List ℕ
  pub text_is : text ≡ front ++ rest
  pub front_is : AreLines front lines
  pub fed : All (λ (l : Line). l.fed ≡ true) lines
  pub rest_has_none : HasNoFeed rest

-- WHAT A LINE IS

-- the first line with tokens is judged with `end` after it, and a later one with `trace 1` before it
-- as well
abbrev pub judged : Bool → List ℕ → List ℕ
judged first bytes = (if first then [] else codes "trace 1\n") ++ bytes ++ codes "\nend"

-- how many tokens stand before those of the line
abbrev pub tokens_before : Bool → ℕ
tokens_before first = if first then 0 else 2

-- a line without tokens is skipped
abbrev pub IsSkipped : List ℕ → Type 0
IsSkipped bytes = IsTokenList bytes []

-- the line is `end` alone
abbrev pub IsEndLine : List ℕ → Type 0
IsEndLine bytes = (tokens : List Token) × IsTokenList bytes tokens × IsEndAlone bytes tokens

-- the line has these whole events; so many more may come
abbrev pub HasEvents : List Port → ℕ → Bool → List ℕ → List Event → Type 0
HasEvents ports room first bytes events = (tokens : List Token)
    × IsTokenList (judged first bytes) tokens
    × IsOnlyLineText room ports (judged first bytes) tokens events

-- The line is refused at a column, and why: at its first bad token, or, where the added `end` is the
-- bad one, just behind its last token.
pub record IsRefusedLine (ports : List Port) (room : ℕ) (first : Bool) (bytes : List ℕ)
    (column : ℕ) (why : List ℕ) : Type 0 where
  pub tokens : List Token
  pub list : IsTokenList (judged first bytes) tokens
  pub error : TraceError
  pub refused : IsLineRefusal room ports (judged first bytes) tokens error
  pub place : ℕ
  pub says : SaysOfTrace error BadTrace (Some place) why
  pub own : List Token
  pub own_list : IsTokenList bytes own
  pub column_is : column ≡ column_at bytes (offset_at own (place - tokens_before first))

-- how many more events may come after so many
abbrev pub room_after : ℕ → ℕ
room_after given = most_events - given
