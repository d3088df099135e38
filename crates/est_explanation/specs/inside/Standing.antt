-- Where a replay stands on its way, and what its moves answer.
use Rattle.std.specs.Prelude.{◌≡◌, ℕ, ◌+◌, ◌-◌, ◌<◌, ◌≤◌, ◌⊎◌, List, []}
use Rattle.std.specs.Prelude.{◌∷◌, length, take, drop, reverse}
use Rattle.est_syntax.specs.declared.specification.Spec.{Spec}
use Rattle.est_meaning.specs.mean_blocks.GlobalSituation.{Situation}
use Rattle.est_meaning.specs.mean_blocks.TextByPlace.{Text}
use Rattle.est_meaning.specs.declared.event.Event.{Event}
use Rattle.est_meaning.specs.declared.trace.Expected.{Expected}
use Rattle.est_meaning.specs.Agreement.{AgreeAll, AgreeFirst}
use Rattle.est_meaning.specs.Endings.{IsTraceEnd}
use Rattle.est_meaning.specs.RecordedTraces.{Recorded}
use Rattle.est_meaning.specs.SituationStacks.{Stack}
use Rattle.est_meaning.specs.declared.run.Move.{Move}
use Rattle.est_meaning.specs.Task.{Suits}
use Rattle.est_meaning.specs.Run.{Setup, Place, Moves, IsBoundedRun, silent_after}
use Rattle.est_explanation.specs.declared.verdict.Why.TheVariants as why
use Rattle.est_explanation.specs.declared.verdict.Replayed.{Replayed}
use Rattle.est_explanation.specs.declared.verdict.Replayed.TheVariants.{Confirmed, Rejected}
use Rattle.est_explanation.specs.declared.replay.Standing.{Standing}
use Rattle.est_explanation.specs.declared.replay.Moved.{Moved}
use Rattle.est_explanation.specs.declared.replay.Moved.TheVariants.{Passed, Failed}
use Rattle.est_explanation.specs.Replay.{MoveFails, IsPassed}

-- the place where these are the events so far
abbrev pub place_of : Stack → List Event → Standing → Place
place_of stack events at =
    record { situation = stack.now; events = events; silent_in_row = at.silent_in_row }

-- a bounded run leads there, whose events agree with so many of the trace
pub record IsReady (c : Setup) (spec : Spec) (limit silent : ℕ) (trace : Recorded) (stack : Stack)
    (at : Standing) (events : List Event) : Type 0 where
  pub suits : Suits c spec limit silent trace
  pub run : List Move
  pub is_run : IsBoundedRun c run (place_of stack events at)
  pub agree : AgreeAll (take at.events trace.events) events

-- the replay stands at this place
pub record StandsAt (s : Situation) (at : Standing) (p : Place) : Type 0 where
  pub situation_is : p.situation ≡ s
  pub many : length p.events ≡ at.events
  pub silent_in_row_is : p.silent_in_row ≡ at.silent_in_row

-- how many events are compared at most where these moves are left: one more than the trace has
-- stands for all
abbrev pub asked_of : ℕ → ℕ → List Move → ℕ
asked_of many claim [] = claim
asked_of many claim (m ∷ left) = many + 1

-- the events up to so many agree with the first of the trace
abbrev pub AgreesUpTo : Setup → ℕ → Place → Type 0
AgreesUpTo c asked p = AgreeFirst c.trace.events (take asked p.events)

-- what came of a move: a place at which the replay then stands, or the first check that fails
abbrev pub HasMoved : Setup → ℕ → Place → Move → Situation → Moved → Type 0
HasMoved c asked p m s (Passed at) = (q : Place) × Moves c p m q × (q.silent_in_row ≤ c.silent)
    × AgreesUpTo c asked q × StandsAt s at q
HasMoved c asked p m s (Failed w) = MoveFails c (AgreesUpTo c asked) p m w

-- what comes of the events of a firing
abbrev pub HasLanded : List Expected → ℕ → ℕ → Standing → List Event → Moved → Type 0
HasLanded trace silent asked at outs (Passed next) =
    AgreeFirst (drop at.events trace) (take (asked - at.events) outs)
    × (next.events ≡ at.events + length outs)
    × (next.silent_in_row ≡ silent_after at.silent_in_row outs) × (next.silent_in_row ≤ silent)
HasLanded trace silent asked at outs (Failed why.WrongOutput) =
    AgreeFirst (drop at.events trace) (take (asked - at.events) outs) → ⊥
HasLanded trace silent asked at outs (Failed why.TooSilent) =
    AgreeFirst (drop at.events trace) (take (asked - at.events) outs)
    × (silent < silent_after at.silent_in_row outs)
HasLanded trace silent asked at outs (Failed (why.NoStart fault)) = ⊥
HasLanded trace silent asked at outs (Failed why.Limit) = ⊥
HasLanded trace silent asked at outs (Failed why.NoEvent) = ⊥
HasLanded trace silent asked at outs (Failed why.NotOffered) = ⊥
HasLanded trace silent asked at outs (Failed (why.Fault fault)) = ⊥
HasLanded trace silent asked at outs (Failed why.NotAll) = ⊥

-- after so many of the moves the replay stands at the place of a run that passes every check
abbrev pub IsStanding : Setup → ℕ → List Move → ℕ → Situation → Standing → Type 0
IsStanding c claim moves made s at =
    (p : Place) × IsPassed c claim (reverse (take made moves)) (drop made moves) p × StandsAt s at p

-- so many events meet the claim in this situation, where those up to the claim agree with the
-- trace: there are as many, or the claim is one more than the trace has and it ends there
abbrev pub IsMet : Recorded → ℕ → Text → Situation → ℕ → ℕ → Type 0
IsMet trace limit t s claim events =
    ((claim ≤ length trace.events) × (claim ≤ events))
    ⊎ ((claim ≡ length trace.events + 1) × IsTraceEnd trace limit t s events)

-- what is answered after so many moves with so many events: the claim where it is met, else that
-- the moves do not yield it
abbrev pub IsEnding : Recorded → ℕ → Text → Situation → ℕ → ℕ → ℕ → Replayed → Type 0
IsEnding trace limit t s claim moves events (Confirmed k) =
    (k ≡ claim) × IsMet trace limit t s claim events
IsEnding trace limit t s claim moves events (Rejected at w) =
    (at ≡ moves + 1) × (w ≡ why.NotAll) × (IsMet trace limit t s claim events → ⊥)
