-- The ports of sentences are readable, so what is written of a trace at them is read as this trace.
use Rattle.std.specs.Prelude.{List, Result}
use Rattle.est_lexer.specs.declared.kind.Token.{Token}
use Rattle.est_lexer.specs.TokenList.{IsTokenList}
use Rattle.est_syntax.specs.declared.specification.Spec.{Spec}
use Rattle.est_check.specs.SentenceOf.{IsSentence}
use Rattle.rule_declares.specs.PortList.{ports_of}
use Rattle.est_meaning.specs.RecordedTraces.{Recorded}
use Rattle.est_meaning.specs.AllowedEvents.{IsAllowedTrace}
use Rattle.est_trace.specs.declared.error.TraceError.{TraceError}
use Rattle.est_trace.specs.TraceText.{IsTraceText, ReadsTrace}
use Rattle.est_trace.specs.WrittenTraces.{trace_text}
use Rattle.law_texts.specs.ReadablePorts.{AreReadablePorts}
use Rattle.law_texts.specs.ReadBackLaws.{AreReadBack}

-- the ports of a sentence are readable
abbrev pub PortsOfSentencesAreReadable : Type 0
PortsOfSentencesAreReadable = (spec : Spec) → IsSentence spec → AreReadablePorts (ports_of spec)

-- the text that is written of an allowed trace of a sentence is a text of this trace
abbrev pub TracesOfSentencesAreTexts : Type 0
TracesOfSentencesAreTexts = (spec : Spec) (recorded : Recorded) (written : List Token)
    → IsSentence spec → IsAllowedTrace spec recorded
    → IsTokenList (trace_text (ports_of spec) recorded) written
    → IsTraceText (ports_of spec) (trace_text (ports_of spec) recorded) written recorded

-- what is read of it is this trace, or memory runs out
abbrev pub TracesOfSentencesAreRead : Type 0
TracesOfSentencesAreRead = (spec : Spec) (recorded : Recorded) (written : List Token)
    (answer : Result Recorded TraceError)
    → IsSentence spec → IsAllowedTrace spec recorded
    → IsTokenList (trace_text (ports_of spec) recorded) written
    → ReadsTrace (ports_of spec) (trace_text (ports_of spec) recorded) written answer
    → AreReadBack recorded answer
