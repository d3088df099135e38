-- The outlines of sentences, and the values of their runs.
use Rattle.std.specs.Prelude.{List}
use Rattle.std.specs.List.{AllByRecursion}
use Rattle.est_syntax.specs.declared.specification.Spec.{Spec}
use Rattle.rule_declares.specs.Bodies.{outline_of}
use Rattle.est_check.specs.LeastFault.{IsGood}
use Rattle.est_meaning.specs.AllowedEvents.{IsAllowed}
use Rattle.est_meaning.specs.declared.run.Move.{Move}
use Rattle.est_meaning.specs.Run.{Setup, Place, IsBegun, IsRun, Explains}
use Rattle.est_check.specs.SentenceOf.{IsSentence}
use Rattle.law_values.specs.SteadyOutlines.{IsSteady}
use Rattle.law_values.specs.SoundnessLaws.{IsTyped, FitsSoFar, MayComeAsExpected}

-- of the outline of a sentence parameters are variables, and enumerations are known by their places
abbrev pub SentencesAreSteady : Type 0
SentencesAreSteady = (spec : Spec) → IsSentence spec → IsSteady (outline_of spec)

-- a sentence that breaks no rule is typed
abbrev pub SentencesAreTyped : Type 0
SentencesAreTyped = (spec : Spec) → IsSentence spec → IsGood spec → IsTyped spec

-- so in each situation of its runs values fit, and each event may stand in a trace, where what the
-- outside does along them may
abbrev pub RunsOfSentencesFit : Type 0
RunsOfSentencesFit = (c : Setup) (run : List Move) (p : Place) → IsSentence c.spec → IsGood c.spec
    → IsBegun c → AllByRecursion (MayComeAsExpected c.spec) c.trace.events → IsRun c run p
    → FitsSoFar c.spec p.situation p.events

-- and so the events of a run are allowed that explains a trace
abbrev pub TracesOfSentencesAreAllowed : Type 0
TracesOfSentencesAreAllowed = (c : Setup) (run : List Move) → IsSentence c.spec → IsGood c.spec
    → IsBegun c → AllByRecursion (MayComeAsExpected c.spec) c.trace.events
    → (e : Explains c run) → AllByRecursion (IsAllowed c.spec) e.place.events
