-- What the texts of the files are, and how they are refused.
use Rattle.std.specs.Prelude.{◌≡◌, ℕ, List, length, codes, ◌≤◌, Option, Some, None}
use Rattle.est_lexer.specs.declared.kind.Token.{Token}
use Rattle.est_lexer.specs.Lines.{line_at, column_at}
use Rattle.est_lexer.specs.Offsets.{offset_at}
use Rattle.est_lexer.specs.TokenList.{IsTokenList}
use Rattle.est_syntax.specs.declared.specification.Spec.{Spec}
use Rattle.est_meaning.specs.rule_declares.PortList.{ports_of}
use Rattle.est_meaning.specs.RecordedTraces.{Recorded}
use Rattle.est_explanation.specs.declared.explanation.Explanation.{Explanation}
use Rattle.est_trace.specs.est_check.SpecificationText.{IsSpecification, IsNoSpecification}
use Rattle.est_trace.specs.est_check.declared.specification_error.SpecificationError.{SpecificationError}
use Rattle.est_trace.specs.est_check.declared.specification_error.SpecificationError.TheVariants as specification
use Rattle.est_trace.specs.TraceText.{IsOnlyTraceText, IsTraceRefusal}
use Rattle.est_trace.specs.ListText.{IsOnlyListsText, IsListsRefusal}
use Rattle.est_trace.specs.declared.error.TraceError.{TraceError}
use Rattle.est_trace.specs.declared.error.TraceError.TheVariants as trace
use Rattle.est_explanation.specs.ExplanationText.{IsOnlyExplanationText, IsExplanationRefusal}
use Rattle.est_explanation.specs.declared.error.ExplanationError.{ExplanationError}
use Rattle.est_explanation.specs.declared.error.ExplanationError.TheVariants as explanation
use Rattle.mean_ports.specs.declared.lists.PortLists.{PortLists}
use Rattle.call_files.specs.declared.file.File.{File}
use Rattle.call_files.specs.declared.status.Status.{Status}
use Rattle.call_files.specs.declared.status.Status.TheVariants.{BadSpec, BadTrace, BadExplanation}
use Rattle.call_files.specs.Files.{limit_of}
use Rattle.call_files.specs.ReportLines.{line_of}
use Rattle.call_files.specs.RefusalLines.{refusal_line, rule_text}

-- TEXTS

-- the text is within the limit of its file, and this holds of it and its tokens
pub record IsText (file : File) (text : List ℕ) (Is : List ℕ → List Token → Type 0) : Type 0 where
  pub tokens : List Token
  pub short : length text ≤ limit_of file
  pub list : IsTokenList text tokens
  pub is : Is text tokens

-- this holds of the bytes that are told; where none are told, it holds of some bytes
abbrev pub SomeText : Option (List ℕ) → (List ℕ → Type 0) → Type 0
SomeText (Some text) P = P text
SomeText None P = (text : List ℕ) × P text

-- the file that tells these bytes holds such a text
abbrev pub Holds : File → Option (List ℕ) → (List ℕ → List Token → Type 0) → Type 0
Holds file told Is = SomeText told (λ text. IsText file text Is)

-- the tokens of the text are this specification, which breaks no rule
abbrev pub OfSpecification : Spec → List ℕ → List Token → Type 0
OfSpecification spec text tokens = IsSpecification text tokens spec

-- the tokens are a text of this trace of the specification, and of no other
abbrev pub OfTrace : Spec → Recorded → List ℕ → List Token → Type 0
OfTrace spec trace text tokens = IsOnlyTraceText (ports_of spec) text tokens trace

-- the tokens are a text of these lists of the specification, and of no others
abbrev pub OfLists : Spec → PortLists → List ℕ → List Token → Type 0
OfLists spec lists text tokens = IsOnlyListsText (ports_of spec) text tokens lists

-- the tokens are a text of this explanation, and of no other
abbrev pub OfExplanation : Explanation → List ℕ → List Token → Type 0
OfExplanation explanation text tokens = IsOnlyExplanationText text tokens explanation

-- REFUSALS

-- what is said of an error: the status, the place, where there is one, and why
abbrev pub SaysOfSpecification : SpecificationError → Status → Option ℕ → List ℕ → Type 0
SaysOfSpecification (specification.BadToken at) status place why =
    (status ≡ BadSpec) × (place ≡ Some at) × (why ≡ codes "bad token")
SaysOfSpecification (specification.LeftOut at) status place why =
    (status ≡ BadSpec) × (place ≡ Some at) × (why ≡ codes "left out")
SaysOfSpecification (specification.TooDeep at) status place why =
    (status ≡ BadSpec) × (place ≡ Some at) × (why ≡ codes "nested too deep")
SaysOfSpecification (specification.BrokenRule at rule) status place why =
    (status ≡ BadSpec) × (place ≡ Some at) × (why ≡ rule_text rule)
SaysOfSpecification (specification.Memory error) status place why = ⊥

-- the same of a trace
abbrev pub SaysOfTrace : TraceError → Status → Option ℕ → List ℕ → Type 0
SaysOfTrace (trace.BadToken at) status place why =
    (status ≡ BadTrace) × (place ≡ Some at) × (why ≡ codes "bad token")
SaysOfTrace (trace.TooMany at) status place why =
    (status ≡ BadTrace) × (place ≡ Some at) × (why ≡ codes "too many events")
SaysOfTrace (trace.Memory error) status place why = ⊥

-- the same of an explanation
abbrev pub SaysOfExplanation : ExplanationError → Status → Option ℕ → List ℕ → Type 0
SaysOfExplanation (explanation.BadToken at) status place why =
    (status ≡ BadExplanation) × (place ≡ Some at) × (why ≡ codes "bad token")
SaysOfExplanation (explanation.Memory error) status place why = ⊥

-- how a kind of text is refused: of which tokens, with which status, at which place, where it is
-- refused at one, and why
abbrev pub Refusals : Type 1
Refusals = List ℕ → List Token → Status → Option ℕ → List ℕ → Type 0

-- a specification: at its first bad place, or at its least broken rule
abbrev pub RefusesSpecification : Refusals
RefusesSpecification text tokens status place why =
    (error : SpecificationError) × IsNoSpecification text tokens error
    × SaysOfSpecification error status place why

-- a trace of a specification: at its first bad place
abbrev pub RefusesTrace : Spec → Refusals
RefusesTrace spec text tokens status place why =
    (error : TraceError) × IsTraceRefusal (ports_of spec) text tokens error
    × SaysOfTrace error status place why

-- one trace for each port: at its first bad place
abbrev pub RefusesLists : Spec → Refusals
RefusesLists spec text tokens status place why =
    (error : TraceError) × IsListsRefusal (ports_of spec) text tokens error
    × SaysOfTrace error status place why

-- an explanation: at its first bad place
abbrev pub RefusesExplanation : Refusals
RefusesExplanation text tokens status place why =
    (error : ExplanationError) × IsExplanationRefusal text tokens error
    × SaysOfExplanation error status place why

-- the line of a refusal at the token with this number, and of one that is at no token
abbrev pub refusal_at : File → List ℕ → List Token → Option ℕ → List ℕ → List ℕ
refusal_at file text tokens (Some place) why =
    refusal_line file (line_at text (offset_at tokens place))
    (column_at text (offset_at tokens place)) why
refusal_at file text tokens None why = line_of why

-- the tokens of a text are refused, with this status and this report
pub record IsReported (file : File) (Refuses : Refusals) (status : Status) (report text : List ℕ)
    (tokens : List Token)
    : Type 0 where
  pub place : Option ℕ
  pub why : List ℕ
  pub refused : Refuses text tokens status place why
  pub report_is : report ≡ refusal_at file text tokens place why
