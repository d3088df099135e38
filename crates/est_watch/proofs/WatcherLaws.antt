-- What a walk answers, as the calls of a watcher say it.
use Rattle.std.proofs.Common.{◌≡◌, ℕ, ◌+◌, ◌≤◌, Bool, true, false, List, [], ◌∷◌, length, refl}
use Rattle.std.proofs.Common.{sym, subst, inr, arith}
use Rattle.est_syntax.specs.Least.{IsIn}
use Rattle.est_meaning.specs.declared.event.Event.{Event}
use Rattle.est_meaning.specs.SituationStacks.{Stack}
use Rattle.est_meaning.specs.Run.{Setup}
use Rattle.est_meaning.specs.declared.run.Move.{Move}
use Rattle.est_meaning.specs.Trials.{IsTrial, AreDistinct, HasMany}
use Rattle.run_paths.specs.Paths.{view_of}
use Rattle.mean_watch.specs.declared.watched.Watched.{Watched}
use Rattle.mean_watch.specs.declared.watched.Watched.TheVariants.{Possible, Impossible}
use Rattle.mean_watch.specs.declared.watched.Watched.TheVariants.{OverFirings, OverAction}
use Rattle.mean_watch.specs.Watching.{so_far, IsWatched, IsFinished}
use Rattle.est_watch.specs.declared.walk.Walk.{Walk}
use Rattle.est_watch.specs.declared.walk.Step.{Step}
use Rattle.est_watch.specs.declared.walk.Step.TheVariants as step
use Rattle.est_watch.specs.inside.Known.{Knows}
use Rattle.est_watch.specs.inside.Walk.{AnswerIs, StepIs, over_of}
use Rattle.est_watch.proofs.AnswerLaws.{watched_possible, watched_over, watched_none}
use Rattle.est_watch.proofs.AnswerLaws.{watched_passed, finished_none, finished_passed}
use Rattle.est_watch.proofs.KnownLaws.{many_tried}
use Rattle.est_watch.proofs.GiveLaws.{found_yields, found_explains}

module _ (c : Setup) (given : List Event) (budget : ℕ) (stack : Stack) (w : Walk)
    (le : w.tried ≤ budget) where
  pub watched_by : (answer : Watched) → AnswerIs (so_far c given) false budget stack w answer
      → IsWatched c budget given answer
  watched_by Possible a = watched_possible c given budget (view_of w.path).moves
      (found_yields c given false stack (view_of w.path) (over_of w) w.tried w.passed a)
  watched_by Impossible a = watched_none c given w.tried budget le
      (subst (λ b. Knows (so_far c given) false (λ x. ⊥) w.tried b) a.0 a.1)
  watched_by OverFirings a = watched_over c given budget a
  watched_by OverAction a = watched_passed c given w.tried budget le
      (subst (λ b. Knows (so_far c given) false (λ x. ⊥) w.tried b) a.0 a.1)

  pub finished_by : (answer : Watched) → AnswerIs (so_far c given) true budget stack w answer
      → IsFinished c budget given answer
  finished_by Possible a = (
    (view_of w.path).moves,
    found_explains c given true stack (view_of w.path) (over_of w) w.tried w.passed a
        (a.ends refl),
  )
  finished_by Impossible a = finished_none c given w.tried budget le
      (subst (λ b. Knows (so_far c given) true (λ x. ⊥) w.tried b) a.0 a.1)
  finished_by OverFirings a = a
  finished_by OverAction a = finished_passed c given w.tried budget le
      (subst (λ b. Knows (so_far c given) true (λ x. ⊥) w.tried b) a.0 a.1)

-- HOW MANY WERE TRIED

fewer : (P : List Move → Type 0) (n : ℕ) (runs : List (List Move)) → length runs ≡ n + 1
    → AreDistinct runs → ((x : List Move) → IsIn x runs → P x) → HasMany P n
fewer P n [] count distinct each = absurd (omega arith)
fewer P n (y ∷ ys) count distinct each = record {
  runs = ys;
  count = omega arith;
  distinct = distinct.1;
  each = λ x a. each x (inr a);
}

-- there are as many trials as were tried
pub step_many : (c : Setup) (exact : Bool) (stack : Stack) (step : Step) (w : Walk)
    → StepIs c exact stack step w → HasMany (IsTrial c) w.tried
step_many c exact stack step.Going w s = many_tried c _ w.tried s.knows.trials
step_many c exact stack step.Found w s = many_tried c _ w.tried s.trials
step_many c exact stack step.Over w s =
    fewer (IsTrial c) w.tried s.runs s.count s.distinct s.each
step_many c exact stack step.Done w s = many_tried c _ w.tried s.trials

-- the answer where nothing is left
pub done_answer : (c : Setup) (exact : Bool) (budget : ℕ) (stack : Stack) (w : Walk)
    (answer : Watched) (b : Bool) → w.passed ≡ b → Knows c exact (λ x. ⊥) w.tried w.passed
    → (w.passed ≡ false → answer ≡ Impossible) → (w.passed ≡ true → answer ≡ OverAction)
    → AnswerIs c exact budget stack w answer
done_answer c exact budget stack w answer false is k none passed =
    subst (AnswerIs c exact budget stack w) (sym (none is)) (is, k)
done_answer c exact budget stack w answer true is k none passed =
    subst (AnswerIs c exact budget stack w) (sym (passed is)) (is, k)

-- the answer where a walk stops so
pub answer_is : (c : Setup) (exact : Bool) (budget : ℕ) (stack : Stack) (last : Step) (w : Walk)
    (answer : Watched) → (last ≡ step.Going → ⊥) → StepIs c exact stack last w
    → (last ≡ step.Over → w.tried ≡ budget)
    → (last ≡ step.Found → answer ≡ Possible) → (last ≡ step.Over → answer ≡ OverFirings)
    → (last ≡ step.Done → w.passed ≡ false → answer ≡ Impossible)
    → (last ≡ step.Done → w.passed ≡ true → answer ≡ OverAction)
    → AnswerIs c exact budget stack w answer
answer_is c exact budget stack step.Going w answer going s used found over none passed =
    absurd (going refl)
answer_is c exact budget stack step.Found w answer going s used found over none passed =
    subst (AnswerIs c exact budget stack w) (sym (found refl)) s
answer_is c exact budget stack step.Over w answer going s used found over none passed =
    subst (AnswerIs c exact budget stack w) (sym (over refl))
    (subst (λ n. HasMany (IsTrial c) (n + 1)) (used refl) s)
answer_is c exact budget stack step.Done w answer going s used found over none passed =
    done_answer c exact budget stack w answer w.passed refl s (none refl) (passed refl)
