-- What the end of a search says.
use Rattle.std.proofs.Common.{◌≡◌, ℕ, ◌+◌, ◌≤◌, List, [], ◌∷◌, ◌++◌, Option, Some, None}
use Rattle.std.proofs.Common.{length, reverse, refl, sym, ap, subst, ◌∙◌, inl, inr, arith}
use Rattle.std.proofs.Common.{Result, Ok, Err, IfOk}
use Rattle.std.proofs.lemmas.List.{append-nil, reverse-reverse}
use Rattle.est_syntax.specs.Least.{IsIn}
use Rattle.est_meaning.specs.SituationStacks.{Stack}
use Rattle.est_meaning.specs.declared.run.Move.{Move}
use Rattle.est_meaning.specs.Order.{Mark, IsFirst}
use Rattle.est_meaning.specs.Run.{Setup, Yields}
use Rattle.est_meaning.specs.Trials.{IsTrial, IsTrialUpTo, AreDistinct, HasMany, PassesLimit}
use Rattle.est_meaning.specs.Trials.{Faults}
use Rattle.est_meaning.proofs.RunLaws.{yields_below_all}
use Rattle.est_search.specs.declared.verdict.Faulted.{Faulted}
use Rattle.est_search.specs.declared.verdict.Verdict.{Verdict}
use Rattle.est_search.specs.declared.verdict.Verdict.TheVariants.{Accepted, Refused}
use Rattle.est_search.specs.declared.verdict.Verdict.TheVariants.{OverFirings, OverAction}
use Rattle.est_search.specs.declared.walk.Walk.{Walk}
use Rattle.est_search.specs.declared.walk.Step.{Step}
use Rattle.est_search.specs.declared.walk.Step.TheVariants.{Going, Accepting, Over, Done}
use Rattle.est_search.specs.Verdict.{IsUnexplained}
use Rattle.est_search.specs.Verdict.{IsFirstFaulted, IsRefused, IsVerdict, IsWithinTried}
use Rattle.est_search.specs.inside.Known.{KnowsTrials, IsNoted}
use Rattle.est_search.specs.inside.Walk.{passed_at, faulted_at, FaultIs, EventsAre}
use Rattle.est_search.specs.inside.Walk.{IsDone, StepIs, Concludes, Answers}

nil_start : (later start : List Move) → [] ≡ later ++ start → start ≡ []
nil_start [] start e = sym e
nil_start (x ∷ later) start e = cc

faulted_first : (c : Setup) (o : Option Faulted) → IsNoted (Faults c) (λ x. ⊥) (faulted_at o)
    → FaultIs c o → IsFirstFaulted c o
faulted_first c None n f = n
faulted_first c (Some x) n f = record { comes = f; earliest = n }

module _ (c : Setup) (w : Walk) (d : IsDone c w) (budget : ℕ) (le : w.tried ≤ budget) where
  run_is : d.run ≡ w.best.tail.items
  run_is = d.kept.run_is
      ∙ ap (λ s. w.best.tail.items ++ s) (nil_start d.kept.starts.0 d.kept.start d.kept.starts.1)
      ∙ append-nil w.best.tail.items

  unexplained : IsUnexplained c budget
  unexplained = record {
    size = (
      w.tried,
      le,
      record {
        found = record {
          runs = d.knows.trials.trials;
          count = d.knows.trials.count;
          distinct = d.knows.trials.distinct;
          each = d.knows.trials.each;
        };
        all = λ x t. elim (d.knows.trials.all x t) [ inl a ↦ a | inr p ↦ absurd p ];
      },
    );
    none = λ r e. d.knows.explaining r e;
  }

  refused : w.notes.passed ≡ None → IsRefused c budget (w.best.yields + 1) d.run w.notes.faulted
  refused none =
      let k = d.knows in
      let best : Yields c d.run w.best.yields = inl k.best.has in
      record {
        unexplained = unexplained;
        within = subst (λ o. IsNoted (PassesLimit c) (λ x. ⊥) (passed_at o)) none k.passes;
        least = record {
          unyielded = λ r y. elim y [
            | inl a ↦ k.best.more r (w.best.yields + 1) a (omega arith)
            | inr a ↦ k.explaining r a.1
          ];
          below = λ j lt. (
            d.run,
            yields_below_all.smaller c d.run w.best.yields j (omega arith)
                best,
          );
        };
        first = λ j e.
            (let same : w.best.yields ≡ j = omega arith in
            subst (λ n. IsFirst (λ r. Yields c r n) d.run) same (record {
              has = best;
              least = λ r y. elim y [
                | inl a ↦ k.best.least r a
                | inr a ↦ absurd (k.explaining r a.1)
              ];
            }));
        faulted_is = faulted_first c w.notes.faulted k.faults d.noted.0;
      }

  pub concluded : (verdict : Verdict) → Concludes w verdict → IsVerdict c budget verdict
  concluded (Accepted run) a = absurd a
  concluded (OverFirings tried) a = absurd a
  concluded (Refused at run faulted) a =
      let same : reverse run ≡ d.run =
      ap reverse a.2 ∙ reverse-reverse w.best.tail.items ∙ sym run_is in
      subst (λ f. IsRefused c budget at (reverse run) f) (sym a.3)
      (subst (λ n. IsRefused c budget n (reverse run) w.notes.faulted) (sym a.1)
      (subst (λ r. IsRefused c budget (w.best.yields + 1) r w.notes.faulted) (sym same)
      (refused a.0)))
  concluded (OverAction run events firing) a = record {
    unexplained = unexplained;
    first = subst (λ o. IsNoted (PassesLimit c) (λ x. ⊥) (passed_at o)) a d.knows.passes;
    reached = subst (EventsAre c) a d.noted.1;
  }

-- what the search answers
pub answered : (c : Setup) (stack : Stack) (w : Walk) (budget : ℕ) (step : Step)
    (verdict : Verdict) → StepIs c stack step w → w.tried ≤ budget
    → (step ≡ Over → w.tried ≡ budget) → Answers w budget step verdict
    → IsVerdict c budget verdict
answered c stack w budget Going verdict s le over a = absurd a
answered c stack w budget Accepting verdict s le over a =
    subst (IsVerdict c budget) (sym a) (record {
      first = s.first;
      tried = (w.tried, le, s.tried_is);
    })
answered c stack w budget Over verdict s le over a =
    subst (IsVerdict c budget) (sym a) (
      refl,
      record {
        size = subst (λ n. HasMany (IsTrial c) (n + 1)) (over refl) s.size;
        late = λ r e. subst (λ n. HasMany (IsTrialUpTo c r) (n + 1)) (over refl) (s.late r e);
      },
    )
answered c stack w budget Done verdict s le over a = concluded c w s budget le verdict a

conclude_tried : (c : Setup) (w : Walk) (verdict : Verdict) (many : ℕ) → Concludes w verdict
    → IsWithinTried c verdict many
conclude_tried c w (Accepted run) many a = absurd a
conclude_tried c w (Refused at run faulted) many a = tt
conclude_tried c w (OverFirings tried) many a = tt
conclude_tried c w (OverAction run events firing) many a = tt

-- how many trials stand up to the run that is accepted
pub answered_tried : (c : Setup) (stack : Stack) (w : Walk) (budget : ℕ) (step : Step)
    (verdict : Verdict) (many : ℕ) → StepIs c stack step w → many ≡ w.tried
    → Answers w budget step verdict → IsWithinTried c verdict many
answered_tried c stack w budget Going verdict many s e a = absurd a
answered_tried c stack w budget Accepting verdict many s e a =
    subst (λ v. IsWithinTried c v many) (sym a)
    (subst (λ n. HasMany (IsTrialUpTo c (reverse w.path.moves.items)) n) (sym e) s.tried_is.found)
answered_tried c stack w budget Over verdict many s e a =
    subst (λ v. IsWithinTried c v many) (sym a) tt
answered_tried c stack w budget Done verdict many s e a = conclude_tried c w verdict many a

-- HOW MANY WERE TRIED

fewer : (P : List Move → Type 0) (n : ℕ) (runs : List (List Move)) → length runs ≡ n + 1
    → AreDistinct runs → ((x : List Move) → IsIn x runs → P x) → HasMany P n
fewer P n [] count distinct each = absurd (omega arith)
fewer P n (y ∷ ys) count distinct each = record {
  runs = ys;
  count = omega arith;
  distinct = distinct.1;
  each = λ x a. each x (inr a);
}

pub trials_many : (c : Setup) (P : List Mark → Type 0) (tried : ℕ) → KnowsTrials c P tried
    → HasMany (IsTrial c) tried
trials_many c P tried k = record {
  runs = k.trials;
  count = k.count;
  distinct = k.distinct;
  each = k.each;
}

-- there are as many trials as were tried
pub step_many : (c : Setup) (stack : Stack) (step : Step) (w : Walk) → StepIs c stack step w
    → HasMany (IsTrial c) w.tried
step_many c stack Going w s = trials_many c _ w.tried s.all.knows.trials
step_many c stack Accepting w s =
    let m = s.tried_is.found in
    record {
      runs = m.runs;
      count = m.count;
      distinct = m.distinct;
      each = λ x a. (m.each x a).0;
    }
step_many c stack Over w s =
    fewer (IsTrial c) w.tried s.size.runs s.size.count s.size.distinct s.size.each
step_many c stack Done w s = trials_many c _ w.tried s.knows.trials

-- the best run yields no more events than the trace has
pub done_yields : (c : Setup) (stack : Stack) (w : Walk) (step : Step) → step ≡ Done
    → StepIs c stack step w → w.best.yields ≤ length c.trace.events
done_yields c stack w step e s =
    (let d : IsDone c w = subst (λ x. StepIs c stack x w) e s in d.knows.best.has.within)

pub if_ok : {T E : Type 0} {P Q : T → Type 0} (r : Result T E) → ((v : T) → P v → Q v) → IfOk r P
    → IfOk r Q
if_ok (Ok v) f p = f v p
if_ok (Err e) f p = p
