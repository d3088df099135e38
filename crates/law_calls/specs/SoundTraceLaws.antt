-- Made traces of sentences are allowed, and read back.
use Rattle.std.specs.Prelude.{ℕ, ◌≤◌, List, Result, length}
use Rattle.std.specs.List.{AllByRecursion}
use Rattle.est_lexer.specs.declared.kind.Token.{Token}
use Rattle.est_lexer.specs.TokenList.{IsTokenList}
use Rattle.rule_declares.specs.PortList.{ports_of}
use Rattle.est_check.specs.LeastFault.{IsGood}
use Rattle.est_meaning.specs.declared.event.Event.{Event}
use Rattle.est_meaning.specs.AllowedEvents.{IsAllowed, IsAllowedTrace, most_events}
use Rattle.est_meaning.specs.RecordedTraces.{Recorded, known_trace}
use Rattle.est_meaning.specs.declared.run.Move.{Move}
use Rattle.est_check.specs.SentenceOf.{IsSentence}
use Rattle.est_trace.specs.declared.error.TraceError.{TraceError}
use Rattle.est_trace.specs.TraceText.{IsTraceText, ReadsTrace}
use Rattle.est_trace.specs.WrittenTraces.{trace_text}
use Rattle.law_texts.specs.ReadBackLaws.{AreReadBack}
use Rattle.run_make.specs.Recipe.{Task, IsMadeTrace}
use Rattle.law_values.specs.SoundnessLaws.{IsTyped}

-- each event of a made trace of a typed specification may stand in a trace
abbrev pub MadeTracesFit : Type 0
MadeTracesFit = (t : Task) (seed count : ℕ) (trace : List Event) (run : List Move)
    → IsTyped t.spec → IsMadeTrace t seed count (known_trace trace) run
    → AllByRecursion (IsAllowed t.spec) trace

-- so it is allowed, where it is not too long
abbrev pub MadeTracesAreAllowed : Type 0
MadeTracesAreAllowed = (t : Task) (seed count : ℕ) (trace : List Event) (run : List Move)
    → IsTyped t.spec → IsMadeTrace t seed count (known_trace trace) run
    → length trace ≤ most_events → IsAllowedTrace t.spec (known_trace trace)

-- so is that of a sentence that breaks no rule
abbrev pub MadeTracesOfSentencesAreAllowed : Type 0
MadeTracesOfSentencesAreAllowed = (t : Task) (seed count : ℕ) (trace : List Event)
    (run : List Move) → IsSentence t.spec → IsGood t.spec
    → IsMadeTrace t seed count (known_trace trace) run → length trace ≤ most_events
    → IsAllowedTrace t.spec (known_trace trace)

-- the text that is written of it is a text of it
abbrev pub MadeTracesAreTexts : Type 0
MadeTracesAreTexts = (t : Task) (seed count : ℕ) (trace : List Event) (run : List Move)
    (written : List Token) → IsSentence t.spec → IsGood t.spec
    → IsMadeTrace t seed count (known_trace trace) run → length trace ≤ most_events
    → IsTokenList (trace_text (ports_of t.spec) (known_trace trace)) written
    → IsTraceText (ports_of t.spec) (trace_text (ports_of t.spec) (known_trace trace)) written
    (known_trace trace)

-- what is read of this text are its events, or memory runs out
abbrev pub MadeTracesAreRead : Type 0
MadeTracesAreRead = (t : Task) (seed count : ℕ) (trace : List Event) (run : List Move)
    (written : List Token) (answer : Result Recorded TraceError)
    → IsSentence t.spec → IsGood t.spec → IsMadeTrace t seed count (known_trace trace) run
    → length trace ≤ most_events
    → IsTokenList (trace_text (ports_of t.spec) (known_trace trace)) written
    → ReadsTrace (ports_of t.spec) (trace_text (ports_of t.spec) (known_trace trace)) written
    answer
    → AreReadBack (known_trace trace) answer
