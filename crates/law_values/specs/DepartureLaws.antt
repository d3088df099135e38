-- What leaves a system in its start and in each step is what its ports send (ISO 9074, 5:
-- next-situation relation; 7: channel-definition, output-statement and attach-statement).
use Rattle.std.specs.Prelude.{◌≡◌, ℕ, ℤ, IsTrue, List}
use Rattle.std.specs.List.{AllByRecursion, AllZip}
use Rattle.est_syntax.specs.declared.kind.Kind.{Kind}
use Rattle.est_syntax.specs.declared.specification.Spec.{Spec}
use Rattle.est_values.specs.declared.value.Value.{Value}
use Rattle.est_values.specs.declared.value.Value.TheVariants.{Undefined, Ordinal, Set}
use Rattle.est_values.specs.FittingValues.{is_scalar, AscendFrom, Fits}
use Rattle.rule_declares.specs.Bodies.{outline_of}
use Rattle.est_check.specs.LeastFault.{IsGood}
use Rattle.mean_blocks.specs.Outcome.{Done}
use Rattle.mean_blocks.specs.TextByPlace.{text_of}
use Rattle.mean_blocks.specs.GlobalSituation.{Situation}
use Rattle.est_meaning.specs.declared.event.Event.{Event}
use Rattle.est_meaning.specs.declared.event.Event.TheVariants as event
use Rattle.est_meaning.specs.declared.event.Interaction.{Interaction}
use Rattle.est_meaning.specs.declared.firing.Firing.{Firing}
use Rattle.est_meaning.specs.AllowedEvents.{IsAllowed}
use Rattle.est_meaning.specs.FiringSteps.{outcome, start_of}
use Rattle.est_meaning.specs.declared.run.Move.{Move}
use Rattle.est_meaning.specs.Run.{Setup, Place, IsBegun, IsRun, Explains}
use Rattle.law_sentences.specs.Full.{AreFull}
use Rattle.est_check.specs.SentenceOf.{IsSentence}
use Rattle.law_values.specs.SentInteractions.{Takes, IsSentAt, LeavesAsSent}
use Rattle.law_values.specs.SentInteractions.{JoinOneSide}

-- a specification breaks no rule, and nothing is missing of what it declares
pub record IsSound (spec : Spec) : Type 0 where
  pub good : IsGood spec
  pub full : AreFull (outline_of spec)

-- that of a sentence is sound, where it breaks no rule
abbrev pub SentencesAreSound : Type 0
SentencesAreSound = (spec : Spec) → IsSentence spec → IsGood spec → IsSound spec

-- STEPS

-- attachments join interaction points of one side, and each of these events leaves as it was sent
pub record HasSent (spec : Spec) (s : Situation) (events : List Event) : Type 0 where
  pub attachments : JoinOneSide (outline_of spec) s
  pub departures : AllByRecursion (LeavesAsSent spec) events

-- so it is after the start
abbrev pub StartsSend : Type 0
StartsSend = (limit : ℕ) (spec : Spec) (s : Situation) (outs : List Event) → IsSound spec
    → start_of limit (text_of spec) ≡ Done outs s → HasSent spec s outs

-- and after each firing in a situation in which attachments join such points
abbrev pub FiringsSend : Type 0
FiringsSend = (limit : ℕ) (spec : Spec) (s next : Situation) (f : Firing) (outs : List Event)
    → IsSound spec → outcome limit (text_of spec) s f ≡ Done outs next
    → JoinOneSide (outline_of spec) s → HasSent spec next outs

-- RUNS

-- so it is in each situation of a run, for all of its events
abbrev pub RunsSend : Type 0
RunsSend = (c : Setup) (run : List Move) (p : Place) → IsSound c.spec → IsBegun c → IsRun c run p
    → HasSent c.spec p.situation p.events

-- and so of a sentence that breaks no rule
abbrev pub SentencesSend : Type 0
SentencesSend = (c : Setup) (run : List Move) (p : Place) → IsSentence c.spec → IsGood c.spec
    → IsBegun c → IsRun c run p → HasSent c.spec p.situation p.events

-- so it is with the events of a run of a sound specification that explains a trace
abbrev pub ExplainedTracesSend : Type 0
ExplainedTracesSend = (c : Setup) (run : List Move) → IsSound c.spec → IsBegun c
    → (e : Explains c run) → AllByRecursion (LeavesAsSent c.spec) e.place.events

-- ALLOWED EVENTS

-- A value may be given to a variable of a kind, or is refused for its range alone: it is undefined
-- where the kind is one of scalars, or an ordinal, or a set with ascending members, or it fits.
pub data MayBeGiven : Kind → Value → Type 0 where
  undefined : {k : Kind} {v : Value} → v ≡ Undefined → IsTrue (is_scalar k) → MayBeGiven k v
  ordinal : {k : Kind} {v : Value} (z : ℤ) → v ≡ Ordinal z → MayBeGiven k v
  set : {k : Kind} {v : Value} (low high : ℤ) (zs : List ℤ) → v ≡ Set zs → AscendFrom low high zs
      → MayBeGiven k v
  fitting : {k : Kind} {v : Value} → Fits k v → MayBeGiven k v

-- what a kind takes of these fits
abbrev pub WhatIsTakenFits : Type 0
WhatIsTakenFits = (k : Kind) (v : Value) → MayBeGiven k v → Takes k v → Fits k v

-- what leaves as it was sent may stand in a trace, where its values fit
abbrev pub FittingDeparturesAreAllowed : Type 0
FittingDeparturesAreAllowed = (spec : Spec) (i : Interaction) (sent : IsSentAt spec i)
    → AllZip Fits sent.signal.kinds i.values → IsAllowed spec (event.Leaves i)

-- and so where they may be given to its parameters
abbrev pub GivenDeparturesAreAllowed : Type 0
GivenDeparturesAreAllowed = (spec : Spec) (i : Interaction) (sent : IsSentAt spec i)
    → AllZip MayBeGiven sent.signal.kinds i.values → IsAllowed spec (event.Leaves i)
