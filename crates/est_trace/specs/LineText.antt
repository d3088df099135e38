-- Which tokens are a line of a trace that is still being recorded, and what its reader answers. A
-- line is judged as a text of its own, of version 1: with `end` after it, and where it is not the
-- first one with `trace 1` before it.
use Rattle.std.specs.Prelude.{◌≡◌, ℕ, List, Result, Ok, Err, length, map}
use Rattle.est_lexer.specs.declared.kind.Token.{Token}
use Rattle.text_reader.specs.Grammar.{At, both, nothing, word}
use Rattle.text_reader.specs.Going.{Shape}
use Rattle.text_reader.specs.Sentences.{HasTree, IsFirstBadPlace}
use Rattle.text_reader.specs.Tests.{said}
use Rattle.est_syntax.specs.declared.ports.Port.{Port}
use Rattle.est_meaning.specs.declared.event.Event.{Event}
use Rattle.est_meaning.specs.declared.trace.Expected.TheVariants.{Known}
use Rattle.text_values.specs.declared.formats.Format.TheVariants.{Complete}
use Rattle.text_values.specs.declared.formats.Version.TheVariants.{First}
use Rattle.text_values.specs.TraceGrammar.{Rule, versioned}
use Rattle.est_trace.specs.TraceShapes.{ShowsEvents}
use Rattle.est_trace.specs.TraceText.{traces, IsFullAfter}
use Rattle.est_trace.specs.declared.error.TraceError.{TraceError}
use Rattle.est_trace.specs.declared.error.TraceError.TheVariants.{BadToken, TooMany, Memory}

-- first_version = "trace" "1" { event } "end" .
abbrev pub first_version : List Port → Rule
first_version ports = word (said "trace") (versioned First ports)

-- the tokens of the text are a text of version 1 of these events, which are so many at most
abbrev pub IsLineText : ℕ → List Port → List ℕ → List Token → List Event → Type 0
IsLineText most ports text tokens events =
    (t : Shape) × HasTree (traces text) (first_version ports) most tokens (both t nothing)
    × ShowsEvents Complete ports (map Known events) t

-- the tokens of the text are a text of these events, and of no others
abbrev pub IsOnlyLineText : ℕ → List Port → List ℕ → List Token → List Event → Type 0
IsOnlyLineText most ports text tokens events = IsLineText most ports text tokens events
    × ((others : List Event) → IsLineText most ports text tokens others → others ≡ events)

-- what an error says of the tokens: their first bad place, and whether it is an event too many; out
-- of memory says nothing
abbrev pub IsLineRefusal : ℕ → List Port → List ℕ → List Token → TraceError → Type 0
IsLineRefusal most ports text tokens (BadToken place) =
    IsFirstBadPlace (traces text) (first_version ports) most tokens place
    × (IsFullAfter Complete ports most text tokens 2 place → ⊥)
IsLineRefusal most ports text tokens (TooMany place) =
    IsFirstBadPlace (traces text) (first_version ports) most tokens place
    × IsFullAfter Complete ports most text tokens 2 place
IsLineRefusal most ports text tokens (Memory error) = Unit {0}

-- what a reader of lines answers: the events whose text the tokens are, or why they are none
abbrev pub ReadsLine : ℕ → List Port → List ℕ → List Token → Result (List Event) TraceError → Type 0
ReadsLine most ports text tokens (Ok events) = IsOnlyLineText most ports text tokens events
ReadsLine most ports text tokens (Err error) = IsLineRefusal most ports text tokens error

-- the tokens of the text are `end` alone
abbrev pub IsEndAlone : List ℕ → List Token → Type 0
IsEndAlone text tokens = (length tokens ≡ 1) × At (traces text) tokens 0 (said "end")
