-- What holds of the specification of each sentence, and so of its runs.
use Rattle.std.specs.Prelude.{◌≡◌, List, None}
use Rattle.est_syntax.specs.declared.specification.Spec.{Spec}
use Rattle.est_check.specs.SentenceOf.{IsSentence}
use Rattle.mean_blocks.specs.declared.situation.InteractionPoint.{InteractionPoint}
use Rattle.mean_blocks.specs.Attachments.{bottom}
use Rattle.mean_blocks.specs.TextByPlace.{text_of}
use Rattle.est_meaning.specs.declared.run.Move.{Move}
use Rattle.est_meaning.specs.Run.{Setup, Place, IsBegun, IsRun}
use Rattle.law_runs.specs.ClimbLaws.{LeadToYounger}
use Rattle.law_runs.specs.RunOrder.{BeginsWithInit, StandsInOrder}
use Rattle.law_runs.specs.InsideTargets.{TargetsStandInside}

-- SENTENCES

-- the initialize part of a sentence is one `init`
abbrev pub SentencesBeginWithInit : Type 0
SentencesBeginWithInit = (s : Spec) → IsSentence s → BeginsWithInit s

-- Each `attach` of a sentence names a child by the name of an `all` around it, or by none of an
-- `all`. An `all` is one region, in which its name alone is declared: so a name that is declared
-- by an `all` is seen within that `all` alone.
abbrev pub SentencesStandInside : Type 0
SentencesStandInside = (s : Spec) → IsSentence s → TargetsStandInside (text_of s)

-- RUNS

-- In each situation of a run of a sentence the instances are one orderly tree, connections lead
-- both ways, and climbs along attachments end.
abbrev pub SentencesStayOrderly : Type 0
SentencesStayOrderly = (c : Setup) (run : List Move) (p : Place) → IsSentence c.spec → IsBegun c
    → IsRun c run p → StandsInOrder (text_of c.spec) p.situation

-- attachments lead to younger instances in it
abbrev pub SentencesLeadToYounger : Type 0
SentencesLeadToYounger = (c : Setup) (run : List Move) (p : Place) → IsSentence c.spec
    → IsBegun c → IsRun c run p → LeadToYounger p.situation

-- so each descent ends at an interaction point to which none of a child is attached
abbrev pub SentencesDescend : Type 0
SentencesDescend = (c : Setup) (run : List Move) (p : Place) → IsSentence c.spec → IsBegun c
    → IsRun c run p → (q : InteractionPoint) → p.situation.down (bottom p.situation q) ≡ None
