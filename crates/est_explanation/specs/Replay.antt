-- What a replay answers of an explanation.
--
-- Moves stand in the order in which they are made. Runs are read from their last move back, so that
-- `reverse moves` is the run of these moves.
use Rattle.std.specs.Prelude.{◌≡◌, ℕ, ◌+◌, ◌-◌, ◌^◌, ◌<◌, ◌⊎◌, List, []}
use Rattle.std.specs.Prelude.{◌∷◌, ◌++◌, length, take, reverse}
use Rattle.est_syntax.specs.declared.specification.Spec.{Spec}
use Rattle.est_meaning.specs.mean_blocks.GlobalSituation.{Situation}
use Rattle.est_meaning.specs.mean_blocks.Outcome.{Outcome, Done, Fault, Limit}
use Rattle.est_meaning.specs.mean_blocks.TextByPlace.{text_of}
use Rattle.est_meaning.specs.declared.event.Event.{Event}
use Rattle.est_meaning.specs.declared.firing.Firing.{Firing}
use Rattle.est_meaning.specs.Agreement.{AgreeFirst}
use Rattle.est_meaning.specs.RecordedTraces.{Recorded}
use Rattle.est_meaning.specs.TransitionSelection.{IsSettled, IsPossible}
use Rattle.est_meaning.specs.FiringSteps.{outcome, start_of}
use Rattle.est_meaning.specs.declared.run.Move.{Move}
use Rattle.est_meaning.specs.declared.run.Move.TheVariants.{Take, Fire}
use Rattle.est_meaning.specs.Task.{setup_from}
use Rattle.est_meaning.specs.Run.{Setup, Place, first_place, Takes, Fires}
use Rattle.est_meaning.specs.Run.{IsBoundedRun, Follows, FollowsBefore, Yields}
use Rattle.est_explanation.specs.declared.verdict.Why.{Why}
use Rattle.est_explanation.specs.declared.verdict.Why.TheVariants as why
use Rattle.est_explanation.specs.declared.verdict.Replayed.{Replayed}
use Rattle.est_explanation.specs.declared.verdict.Replayed.TheVariants.{Confirmed, Rejected}

-- as many moves as a replay may have: they are numbered, and so is the end after them, by numbers
-- of 32 bits
abbrev pub most_moves : ℕ
most_moves = 2 ^ 32 - 2

-- CHECKS

-- the events agree with the trace where these moves are left: all of them, and after the last move
-- those up to the claim (which asks again for all where the claim is above the number of the
-- trace's events)
abbrev pub AgreesSoFar : Setup → ℕ → List Move → Place → Type 0
AgreesSoFar c claim [] p = AgreeFirst c.trace.events (take claim p.events)
AgreesSoFar c claim (m ∷ left) p = Follows c p

-- no next event is there to be taken: the next one is a departure or partly seen, or there is none
abbrev pub HasNoEvent : Setup → Place → Type 0
HasNoEvent c p = (q : Place) → Takes c p q → ⊥

-- the first check of a firing that fails: settled, possible, the block's outcome, the outside
-- events, the silent firings in a row
abbrev pub FiringFails : Setup → (Place → Type 0) → Place → Firing → Why → Type 0
FiringFails c agrees p f why.Limit = (IsSettled c.limit (text_of c.spec) p.situation → ⊥)
    ⊎ (IsPossible c.limit (text_of c.spec) p.situation f
    × (outcome c.limit (text_of c.spec) p.situation f ≡ Limit))
FiringFails c agrees p f why.NotOffered = IsSettled c.limit (text_of c.spec) p.situation
    × (IsPossible c.limit (text_of c.spec) p.situation f → ⊥)
FiringFails c agrees p f (why.Fault fault) = IsPossible c.limit (text_of c.spec) p.situation f
    × (outcome c.limit (text_of c.spec) p.situation f ≡ Fault fault)
FiringFails c agrees p f why.WrongOutput = (q : Place) × Fires c p f q × (agrees q → ⊥)
FiringFails c agrees p f why.TooSilent =
    (q : Place) × Fires c p f q × agrees q × (c.silent < q.silent_in_row)
FiringFails c agrees p f (why.NoStart fault) = ⊥
FiringFails c agrees p f why.NoEvent = ⊥
FiringFails c agrees p f why.NotAll = ⊥

-- the first check of a move that fails
abbrev pub MoveFails : Setup → (Place → Type 0) → Place → Move → Why → Type 0
MoveFails c agrees p Take w = (w ≡ why.NoEvent) × HasNoEvent c p
MoveFails c agrees p (Fire f) w = FiringFails c agrees p f w

-- a run that passes every check, where these moves are left
pub record IsPassed (c : Setup) (claim : ℕ) (run left : List Move) (place : Place) : Type 0 where
  pub is_run : IsBoundedRun c run place
  pub before : FollowsBefore c run
  pub agrees : AgreesSoFar c claim left place

-- REJECTIONS

-- the start's outside events are not the first of the trace
pub record FailsAtStart (c : Setup) (moves : List Move) (claim at : ℕ) (w : Why) : Type 0 where
  pub at_is : at ≡ 0
  pub why_is : w ≡ why.WrongOutput
  pub differs : AgreesSoFar c claim moves (first_place c) → ⊥

-- the moves before this one pass every check, and it does not
pub record FailsAtMove (c : Setup) (moves : List Move) (claim at : ℕ) (w : Why) : Type 0 where
  pub earlier : List Move
  pub move : Move
  pub left : List Move
  pub moves_are : moves ≡ earlier ++ move ∷ left
  pub at_is : at ≡ length earlier + 1
  pub place : Place
  pub passed : IsPassed c claim (reverse earlier) (move ∷ left) place
  pub fails : MoveFails c (AgreesSoFar c claim left) place move w

-- all moves pass every check, and do not yield the claim
pub record FailsAtEnd (c : Setup) (moves : List Move) (claim at : ℕ) (w : Why) : Type 0 where
  pub at_is : at ≡ length moves + 1
  pub why_is : w ≡ why.NotAll
  pub place : Place
  pub passed : IsPassed c claim (reverse moves) [] place
  pub unyielded : Yields c (reverse moves) claim → ⊥

-- a check fails at the start, at a move or at the end, and all before it pass
abbrev pub IsRejected : Setup → List Move → ℕ → ℕ → Why → Type 0
IsRejected c moves claim at w = FailsAtStart c moves claim at w
    ⊎ (FailsAtMove c moves claim at w ⊎ FailsAtEnd c moves claim at w)

-- ANSWERS

-- the answer from a start that is ready: confirmed where the moves are a bounded run that yields
-- the claim, else the first check that fails
abbrev pub IsAnswer : Setup → List Move → ℕ → Replayed → Type 0
IsAnswer c moves claim (Confirmed events) = (events ≡ claim) × Yields c (reverse moves) claim
IsAnswer c moves claim (Rejected at w) = IsRejected c moves claim at w

-- the answer from what comes of the start
abbrev pub AnswersFrom : ℕ → ℕ → Spec → Recorded → List Move → ℕ → Replayed
    → Outcome Situation (List Event) → Type 0
AnswersFrom limit silent spec trace moves claim answer (Done outs s) = IsAnswer
    (setup_from limit silent spec trace s outs)
    moves claim answer
AnswersFrom limit silent spec trace moves claim answer (Fault fault) =
    answer ≡ Rejected 0 (why.NoStart fault)
AnswersFrom limit silent spec trace moves claim answer Limit = answer ≡ Rejected 0 why.Limit

-- the answer of a replay
abbrev pub IsReplay : ℕ → ℕ → Spec → Recorded → List Move → ℕ → Replayed → Type 0
IsReplay limit silent spec trace moves claim answer =
    AnswersFrom limit silent spec trace moves claim answer (start_of limit (text_of spec))

-- no two answers fit one explanation
abbrev pub OneAnswer : Type 0
OneAnswer = (limit silent : ℕ) (spec : Spec) (trace : Recorded) (moves : List Move) (claim : ℕ)
    (a b : Replayed)
    → IsReplay limit silent spec trace moves claim a
    → IsReplay limit silent spec trace moves claim b → a ≡ b

-- after the last move a claim above the number of the trace's events asks for all events
abbrev pub ClaimsBeyondAskAll : Type 0
ClaimsBeyondAskAll =
    (c : Setup) (claim : ℕ) (p : Place) → length c.trace.events < claim → AgreesSoFar c claim [] p
    → Follows c p
