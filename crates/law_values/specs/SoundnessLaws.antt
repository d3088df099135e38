-- In each run of a specification values fit the kinds of what holds them.
use Rattle.std.specs.Prelude.{◌≡◌, ℕ, ◌≤◌, Bool, true, List, Some}
use Rattle.std.specs.List.{AllByRecursion}
use Rattle.est_syntax.specs.Kinds.{maxint}
use Rattle.est_syntax.specs.declared.expression.Expr.{Expr}
use Rattle.est_syntax.specs.declared.kind.Kind.{Kind}
use Rattle.est_syntax.specs.declared.specification.Spec.{Spec}
use Rattle.est_values.specs.declared.value.Value.{Value}
use Rattle.est_values.specs.FittingValues.{Fits}
use Rattle.rule_declares.specs.Bodies.{outline_of}
use Rattle.est_values.specs.Alike.{is_alike}
use Rattle.est_values.specs.Types.{Yielded}
use Rattle.rule_expressions.specs.Expressions.{expr_type}
use Rattle.est_check.specs.LeastFault.{IsGood}
use Rattle.mean_blocks.specs.Outcome.{Done}
use Rattle.mean_blocks.specs.TextByPlace.{text_of}
use Rattle.mean_blocks.specs.GlobalSituation.{Frame, Situation}
use Rattle.mean_blocks.specs.SightLaws.{sight}
use Rattle.mean_blocks.specs.ExpressionValues.{value_of}
use Rattle.est_meaning.specs.declared.event.Event.{Event}
use Rattle.est_meaning.specs.declared.firing.Firing.{Firing}
use Rattle.est_meaning.specs.AllowedEvents.{IsReceivable, IsAllowed}
use Rattle.est_meaning.specs.FiringSteps.{outcome, start_of}
use Rattle.est_meaning.specs.OutsideEvents.{after_event}
use Rattle.est_meaning.specs.declared.event.Event.TheVariants as event
use Rattle.est_meaning.specs.declared.trace.Expected.{Expected}
use Rattle.est_meaning.specs.declared.trace.Expected.TheVariants.{Known, Partly}
use Rattle.est_meaning.specs.declared.run.Move.{Move}
use Rattle.est_meaning.specs.Run.{Setup, Place, IsBegun, IsRun, Explains}
use Rattle.law_sentences.specs.FullExpressions.{IsWhole}
use Rattle.law_values.specs.SentInteractions.{JoinOneSide}
use Rattle.law_values.specs.SameKinds.{HasSizes}
use Rattle.law_values.specs.SteadyOutlines.{IsSteady}
use Rattle.law_values.specs.FittingStates.{FramesFit, SituationFits}
use Rattle.law_values.specs.ValuesOfTypes.{IsYielded}

-- a value that fits a kind fits each one that is alike to it, where each enumeration within both
-- has as many constants as is said of its place
abbrev pub AlikeKindsHaveOneValue : Type 0
AlikeKindsHaveOneValue = (sizes : ℕ → ℕ) (j k : Kind) (v : Value) → HasSizes sizes j
    → HasSizes sizes k → is_alike j k ≡ true → Fits k v → Fits j v

-- A specification breaks no rule, what it declares is whole, and its parameters and enumerations
-- are known alike at each place.
pub record IsTyped (spec : Spec) : Type 0 where
  pub good : IsGood spec
  pub whole : IsWhole (outline_of spec)
  pub steady : IsSteady (outline_of spec)

-- EXPRESSIONS

-- what an expression yields in a situation that fits is of its type
abbrev pub ExpressionsFit : Type 0
ExpressionsFit = (spec : Spec) (typed : IsTyped spec) (n : ℕ) (function : Bool) (levels : ℕ)
    (s : Situation) (fs : List Frame) (e : Expr) (t : Yielded) (before left : ℕ) (v : Value)
    → SituationFits (outline_of spec) s → FramesFit (outline_of spec) fs
    → expr_type (outline_of spec) e ≡ Some t
    → value_of e (sight (text_of spec) n function levels s fs) before ≡ Done v left
    → IsYielded typed.steady.sizes t v

-- STEPS

-- in a situation values fit, and attachments join interaction points of one side; these events may
-- stand in a trace
pub record FitsSoFar (spec : Spec) (s : Situation) (events : List Event) : Type 0 where
  pub attachments : JoinOneSide (outline_of spec) s
  pub situation : SituationFits (outline_of spec) s
  pub allowed : AllByRecursion (IsAllowed spec) events

-- so it is after the start
abbrev pub StartsFit : Type 0
StartsFit = (limit : ℕ) (spec : Spec) (s : Situation) (outs : List Event) → IsTyped spec
    → start_of limit (text_of spec) ≡ Done outs s → FitsSoFar spec s outs

-- and after each firing in such a situation
abbrev pub FiringsFit : Type 0
FiringsFit = (limit : ℕ) (spec : Spec) (s next : Situation) (f : Firing) (before outs : List Event)
    → IsTyped spec → outcome limit (text_of spec) s f ≡ Done outs next → FitsSoFar spec s before
    → FitsSoFar spec next outs

-- what the outside does may stand in a trace
abbrev pub MayCome : Spec → Event → Type 0
MayCome spec (event.Arrives i) = IsReceivable spec i
MayCome spec (event.Leaves i) = Unit {0}
MayCome spec (event.Passes units) = units ≤ maxint

-- what the outside does, where it is expected, may stand in a trace
abbrev pub MayComeAsExpected : Spec → Expected → Type 0
MayComeAsExpected spec (Known e) = MayCome spec e
MayComeAsExpected spec (Partly port signal seen) = Unit {0}

-- what comes leaves values that fit
abbrev pub EventsFit : Type 0
EventsFit = (spec : Spec) (s : Situation) (e : Event) → MayCome spec e
    → SituationFits (outline_of spec) s
    → SituationFits (outline_of spec) (after_event (text_of spec) s e)

-- RUNS

-- so it is in each situation of a run, and each of its events may stand in a trace, where what the
-- outside does along it may
abbrev pub RunsFit : Type 0
RunsFit = (c : Setup) (run : List Move) (p : Place) → IsTyped c.spec → IsBegun c
    → AllByRecursion (MayComeAsExpected c.spec) c.trace.events → IsRun c run p
    → FitsSoFar c.spec p.situation p.events

-- and so the events of a run are allowed that explains a trace
abbrev pub ExplainedTracesAreAllowed : Type 0
ExplainedTracesAreAllowed = (c : Setup) (run : List Move) → IsTyped c.spec → IsBegun c
    → AllByRecursion (MayComeAsExpected c.spec) c.trace.events → (e : Explains c run)
    → AllByRecursion (IsAllowed c.spec) e.place.events
