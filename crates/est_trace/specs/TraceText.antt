-- Which tokens are the text of a trace, and what its readers answer.
use Rattle.std.specs.Prelude.{◌≡◌, ℕ, List, [], ◌∷◌, Result, Ok, Err, length, slice_get}
use Rattle.est_lexer.specs.declared.kind.Token.{Token}
use Rattle.text_reader.specs.Grammar.{Language, Tree, At, rule, nothing, some, both}
use Rattle.text_reader.specs.Marks.{MeetsOne}
use Rattle.text_reader.specs.Sentences.{HasTree, IsFirstBadPlace}
use Rattle.est_syntax.specs.declared.ports.Port.{Port}
use Rattle.est_meaning.specs.RecordedTraces.{Recorded}
use Rattle.est_meaning.specs.AllowedEvents.{most_events}
use Rattle.text_reader.specs.Tests.{Test, Kept, said, holds, language}
use Rattle.text_reader.specs.Going.{Shape}
use Rattle.text_values.specs.declared.formats.Format.{Format}
use Rattle.text_values.specs.declared.formats.Version.{Version}
use Rattle.text_values.specs.TraceGrammar.{Production, events_at, production, trace, version}
use Rattle.text_values.specs.TraceGrammar.{format_of, event_starts}
use Rattle.est_trace.specs.declared.error.TraceError.{TraceError}
use Rattle.est_trace.specs.declared.error.TraceError.TheVariants.{BadToken, TooMany, Memory}
use Rattle.est_trace.specs.TraceShapes.{ShowsTrace}

-- traces over the tokens of a text
abbrev pub traces : List ℕ → Language Token Kept Test Production
traces text = language production text

-- the tokens of the text are a text of the trace, which has at most so many events: they have a
-- tree of a shape that it shows
abbrev pub IsTraceOfAtMost : ℕ → List Port → List ℕ → List Token → Recorded → Type 0
IsTraceOfAtMost most ports text tokens recorded =
    (t : Shape) × HasTree (traces text) (trace ports) most tokens t
    × ShowsTrace ports recorded t

-- the tokens of the text are a text of the trace
abbrev pub IsTraceText : List Port → List ℕ → List Token → Recorded → Type 0
IsTraceText ports text tokens recorded = IsTraceOfAtMost most_events ports text tokens recorded

-- the tokens of the text are a text of the trace, and of no other
abbrev pub IsOnlyTraceText : List Port → List ℕ → List Token → Recorded → Type 0
IsOnlyTraceText ports text tokens recorded = IsTraceText ports text tokens recorded
    × ((other : Recorded) → IsTraceText ports text tokens other → other ≡ recorded)

-- the shape of events of these shapes, each within the one before, and then the rest
abbrev pub nested : List Shape → Shape → Shape
nested [] u = u
nested (t ∷ ts) u = some (both t (nested ts u))

-- from place a on so many events are complete before a place, and the token there would begin
-- another one
abbrev pub IsFullAfter : Format → List Port → ℕ → List ℕ → List Token → ℕ → ℕ → Type 0
IsFullAfter format ports most text tokens a place = (ts : List Shape) × (length ts ≡ most)
    × Tree (traces text) tokens (length tokens) (rule (events_at format ports)) most a place
    (nested ts nothing)
    × MeetsOne (holds text) (slice_get tokens place) (event_starts ports)

-- the trace begins with its version, so many events are complete before a place, and the token
-- there would begin another one
abbrev pub IsFull : List Port → ℕ → List ℕ → List Token → ℕ → Type 0
IsFull ports most text tokens place =
    At (traces text) tokens 0 (said "trace")
    × ((v : Version) × At (traces text) tokens 1 (version v)
    × IsFullAfter (format_of v) ports most text tokens 2 place)

-- the first bad place of the tokens as a trace
abbrev pub IsBadPlace : List Port → List ℕ → List Token → ℕ → Type 0
IsBadPlace ports text tokens place =
    IsFirstBadPlace (traces text) (trace ports) most_events tokens place

-- what an error says of the tokens: their first bad place, and whether it is an event too many; out
-- of memory says nothing
abbrev pub IsTraceRefusal : List Port → List ℕ → List Token → TraceError → Type 0
IsTraceRefusal ports text tokens (BadToken place) =
    IsBadPlace ports text tokens place × (IsFull ports most_events text tokens place → ⊥)
IsTraceRefusal ports text tokens (TooMany place) =
    IsBadPlace ports text tokens place × IsFull ports most_events text tokens place
IsTraceRefusal ports text tokens (Memory error) = Unit {0}

-- what a reader of traces answers: the one trace whose text the tokens are, or why they are none
abbrev pub ReadsTrace : List Port → List ℕ → List Token → Result Recorded TraceError → Type 0
ReadsTrace ports text tokens (Ok recorded) = IsOnlyTraceText ports text tokens recorded
ReadsTrace ports text tokens (Err error) = IsTraceRefusal ports text tokens error
