-- Loops by their turns.
use Rattle.std.proofs.Common.{◌≡◌, refl, ap, ◌∙◌, ℕ, suc, Bool, true, false, Err}
use Rattle.std.specs.Prelude.{ℤ, ◌+ℤ◌, if◌then◌else◌}
use Rattle.mean_blocks.specs.declared.stop.Stop.{Stop}
use Rattle.mean_blocks.specs.AnswersOfCalls.{Answers}
use Rattle.mean_blocks.specs.LoopEffects.{turn_of, turns, repeats, counts}
use Rattle.mean_blocks.specs.OrdinalOperators.{is_true}
use Rattle.mean_blocks.specs.Outcome.{Outcome, Done, Fault, Limit, onward, ◌>>=◌, ◌>>◌, give}
use Rattle.mean_blocks.specs.ValueOperators.{choose}
use Rattle.mean_blocks.specs.WorkingState.{State, Does, enter}
use Rattle.mean_blocks.proofs.Answering.{answers_stop, answers_by}
use Rattle.plain_effects.specs.plain_operands.TurnsOfLoops.{ended}

module _ (k : ℕ) (condition : State → Outcome State ℤ) (turn : Does) (s t : State) where
  pub turns_on : turn_of condition turn s ≡ Done true t
      → turns (suc k) condition turn s ≡ turns k condition turn t
  turns_on h = ap (λ o. onward o (λ more. if more then turns k condition turn else give tt)) h

  pub turns_end : turn_of condition turn s ≡ Done false t
      → turns (suc k) condition turn s ≡ Done tt t
  turns_end h = ap (λ o. onward o (λ more. if more then turns k condition turn else give tt)) h

  pub turns_stop : (e : Stop) → Answers (turn_of condition turn s) (Err e) t
      → Answers (turns (suc k) condition turn s) (Err e) t
  turns_stop e h = answers_stop (turn_of condition turn s)
      (λ more. if more then turns k condition turn else give tt) e t t h

-- what comes after a turn of a `repeat`
abbrev pub after : Does → Bool → Does
after rest last = if last then give tt else rest

until_by : (o : Outcome State ℤ) (rest : Does) → onward o (λ z. choose z (give tt) rest)
    ≡ onward (onward o (λ z. give (is_true z))) (after rest)
until_by (Done z s) rest = refl
until_by (Fault f) rest = refl
until_by Limit rest = refl

ended_by : (o : Outcome State (Unit {0})) (until : State → Outcome State ℤ) (rest : Does)
    → onward o (λ _. until >>= λ z. choose z (give tt) rest)
    ≡ onward (onward o (λ _. until >>= λ z. give (is_true z))) (after rest)
ended_by (Done u s) until rest = until_by (until s) rest
ended_by (Fault f) until rest = refl
ended_by Limit until rest = refl

module _ (k : ℕ) (turn : Does) (until : State → Outcome State ℤ) (s t : State) where
  repeats_by : repeats (suc k) turn until s
      ≡ onward (ended turn until s) (after (repeats k turn until))
  repeats_by = ended_by ((enter >> turn) s) until (repeats k turn until)

  pub repeats_on : ended turn until s ≡ Done false t
      → repeats (suc k) turn until s ≡ repeats k turn until t
  repeats_on h = repeats_by ∙ ap (λ o. onward o (after (repeats k turn until))) h

  pub repeats_end : ended turn until s ≡ Done true t
      → repeats (suc k) turn until s ≡ Done tt t
  repeats_end h = repeats_by ∙ ap (λ o. onward o (after (repeats k turn until))) h

  pub repeats_stop : (e : Stop) → Answers (ended turn until s) (Err e) t
      → Answers (repeats (suc k) turn until s) (Err e) t
  repeats_stop e h = answers_by (onward (ended turn until s) (after (repeats k turn until)))
      (repeats (suc k) turn until s) (Err e) t repeats_by
      (answers_stop (ended turn until s) (after (repeats k turn until)) e t t h)

-- FOR

module _ (k : ℕ) (z next step : ℤ) (turn : ℤ → Does) (s t : State) where
  pub counts_on : (enter >> turn z) s ≡ Done tt t → z +ℤ step ≡ next
      → counts (suc k) z step turn s ≡ counts k next step turn t
  counts_on h e = ap (λ o. onward o (λ _. counts k (z +ℤ step) step turn)) h
      ∙ ap (λ y. counts k y step turn t) e

  pub counts_stop : (e : Stop) → Answers ((enter >> turn z) s) (Err e) t
      → Answers (counts (suc k) z step turn s) (Err e) t
  counts_stop e h =
      answers_stop ((enter >> turn z) s) (λ _. counts k (z +ℤ step) step turn) e t t h
