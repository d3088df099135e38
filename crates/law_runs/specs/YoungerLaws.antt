-- Attachments lead to younger instances, so none leads back to where it began.
use Rattle.std.specs.Prelude.{◌≡◌, ℕ, ◌<◌, false, List, None}
use Rattle.est_syntax.specs.declared.statement.Statement.{Statement}
use Rattle.mean_blocks.specs.declared.situation.InteractionPoint.{InteractionPoint}
use Rattle.mean_blocks.specs.Outcome.{Done}
use Rattle.mean_blocks.specs.Attachments.{bottom}
use Rattle.mean_blocks.specs.TextByPlace.{Text, text_of}
use Rattle.mean_blocks.specs.GlobalSituation.{Situation}
use Rattle.mean_blocks.specs.WorkingState.{State}
use Rattle.mean_blocks.specs.StatementEffects.{statements_in}
use Rattle.mean_blocks.specs.BlockLevels.{site}
use Rattle.est_meaning.specs.declared.event.Event.{Event}
use Rattle.est_meaning.specs.declared.firing.Firing.{Firing}
use Rattle.est_meaning.specs.FiringSteps.{outcome}
use Rattle.est_meaning.specs.declared.run.Move.{Move}
use Rattle.est_meaning.specs.Run.{Setup, Place, IsBegun, IsRun}
use Rattle.law_runs.specs.AncestorLaws.{AreInAge}
use Rattle.law_runs.specs.AttachTargets.{BlockTargets}
use Rattle.law_runs.specs.ClimbLaws.{LeadToYounger}
use Rattle.law_runs.specs.OrderLaws.{IsOrderly, NameNone}
use Rattle.law_runs.specs.RunOrder.{BeginsWithInit}
use Rattle.law_runs.specs.UpkeepLaws.{OnDone}
use Rattle.law_runs.specs.InsideTargets.{IsInside, TargetsStandInside}
use Rattle.law_runs.specs.NamesOfAlls.{IsOfAll}

-- A block of an instance that was begun keeps it that attachments lead to younger instances, where
-- instances are in their age and no frame names one: each `attach` leads to a child of the instance
-- that executes it, also within the initialize parts that a block begins, which see its frames.
abbrev pub BlocksLeadToYounger : Type 0
BlocksLeadToYounger = (t : Text) (n levels : ℕ) (xs : List Statement) (s : State)
    → TargetsStandInside t → BlockTargets t.outline (IsOfAll t.spec) (IsInside t.spec) xs
    → n < s.situation.next → AreInAge s.situation.rows → NameNone s.frames
    → LeadToYounger s.situation
    → OnDone (λ u. LeadToYounger u.situation) (statements_in xs (site t n false levels) s)

-- so does a firing
abbrev pub FiringsLeadToYounger : Type 0
FiringsLeadToYounger = (limit : ℕ) (t : Text) (s next : Situation) (f : Firing) (outs : List Event)
    → TargetsStandInside t → outcome limit t s f ≡ Done outs next → IsOrderly s → LeadToYounger s
    → LeadToYounger next

-- in each situation of a run attachments lead to younger instances
abbrev pub RunsLeadToYounger : Type 0
RunsLeadToYounger = (c : Setup) (run : List Move) (p : Place) → BeginsWithInit c.spec
    → TargetsStandInside (text_of c.spec) → IsBegun c → IsRun c run p
    → LeadToYounger p.situation

-- so each descent ends at an interaction point to which none of a child is attached
abbrev pub RunsDescend : Type 0
RunsDescend = (c : Setup) (run : List Move) (p : Place) → BeginsWithInit c.spec
    → TargetsStandInside (text_of c.spec) → IsBegun c → IsRun c run p
    → (q : InteractionPoint) → p.situation.down (bottom p.situation q) ≡ None
