-- A written trace is read as what it was written of.
use Rattle.std.specs.Prelude.{◌≡◌, List, Result, Ok, Err}
use Rattle.est_lexer.specs.declared.kind.Token.{Token}
use Rattle.est_lexer.specs.TokenList.{IsTokenList}
use Rattle.est_syntax.specs.declared.specification.Spec.{Spec}
use Rattle.rule_declares.specs.PortList.{ports_of}
use Rattle.est_meaning.specs.RecordedTraces.{Recorded}
use Rattle.est_meaning.specs.AllowedEvents.{IsAllowedTrace}
use Rattle.est_trace.specs.declared.error.TraceError.{TraceError}
use Rattle.est_trace.specs.declared.error.TraceError.TheVariants.{BadToken, TooMany, Memory}
use Rattle.est_trace.specs.TraceText.{IsTraceText, ReadsTrace}
use Rattle.est_trace.specs.WrittenTraces.{trace_text}
use Rattle.law_texts.specs.ReadablePorts.{AreReadablePorts}

-- the text that is written of an allowed trace is a text of it
abbrev pub WrittenTracesAreTexts : Type 0
WrittenTracesAreTexts = (spec : Spec) (recorded : Recorded) (tokens : List Token)
    → AreReadablePorts (ports_of spec) → IsAllowedTrace spec recorded
    → IsTokenList (trace_text (ports_of spec) recorded) tokens
    → IsTraceText (ports_of spec) (trace_text (ports_of spec) recorded) tokens recorded

-- the answer is this trace, or out of memory
abbrev pub AreReadBack : Recorded → Result Recorded TraceError → Type 0
AreReadBack recorded (Ok answer) = answer ≡ recorded
AreReadBack recorded (Err (BadToken place)) = ⊥
AreReadBack recorded (Err (TooMany place)) = ⊥
AreReadBack recorded (Err (Memory error)) = Unit {0}

-- what is read of the text that is written of an allowed trace is this trace
abbrev pub WrittenTracesAreRead : Type 0
WrittenTracesAreRead = (spec : Spec) (recorded : Recorded) (tokens : List Token)
    (answer : Result Recorded TraceError)
    → AreReadablePorts (ports_of spec) → IsAllowedTrace spec recorded
    → IsTokenList (trace_text (ports_of spec) recorded) tokens
    → ReadsTrace (ports_of spec) (trace_text (ports_of spec) recorded) tokens answer
    → AreReadBack recorded answer
