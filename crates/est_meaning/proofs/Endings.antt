-- Where a trace ends, and what has to be asked for that.
use Rattle.std.proofs.Common.{◌≡◌, ◌≤◌, ◌↔◌, ℕ, Bool, true, false, not, IsTrue, length, take}
use Rattle.std.proofs.Common.{refl, sym, subst, ◌∙◌, arith}
use Rattle.std.proofs.lemmas.List.{length-take-le, take_all}
use Rattle.est_syntax.specs.declared.specification.Spec.{Spec}
use Rattle.mean_blocks.specs.TextByPlace.{Text, text_of}
use Rattle.mean_blocks.specs.GlobalSituation.{Situation}
use Rattle.est_meaning.specs.Agreement.{AgreeAll}
use Rattle.est_meaning.specs.Endings.{IsTraceEnd}
use Rattle.est_meaning.specs.QuietSituations.{HasDue, IsQuiet}
use Rattle.est_meaning.specs.RecordedTraces.{Recorded}
use Rattle.est_meaning.specs.Run.{Setup, Place, IsWhole}
use Rattle.est_meaning.specs.SituationStacks.{Stack}
use Rattle.est_meaning.specs.Task.{Suits}
use Rattle.est_meaning.specs.TransitionSelection.{IsSettled}
use Rattle.est_meaning.proofs.AgreementLaws.{agree_length}

-- WHAT IS ASKED

pub not_true : false ≡ true → ⊥
not_true e = cc

-- a settled situation is so where it stands again
pub settled_again : (limit limit' : ℕ) (t : Text) (old new : Stack) → limit' ≡ limit → new ≡ old
    → IsSettled limit t old.now → IsSettled limit' t new.now
settled_again limit limit' t old new l e settled =
    subst (λ n. IsSettled n t new.now) (sym l)
    (subst (λ (s : Stack). IsSettled limit t s.now) (sym e) settled)

-- one that is not settled is not quiet
pub unsettled_loud : (limit : ℕ) (t : Text) (s : Situation) → (IsSettled limit t s → ⊥)
    → IsTrue false ↔ IsQuiet limit t s
unsettled_loud limit t s never = (λ e. absurd (not_true e), λ q. absurd (never q.settled))

quiet_by : (limit : ℕ) (t : Text) (s : Situation) (due : Bool) → IsSettled limit t s
    → IsTrue due ↔ HasDue limit t s → IsTrue (not due) ↔ IsQuiet limit t s
quiet_by limit t s true settled h = (λ e. absurd (not_true e), λ q. absurd (q.idle (h.0 refl)))
quiet_by limit t s false settled h = (
  λ e. record { settled = settled; idle = λ d. not_true (h.1 d) },
  λ q. refl,
)

-- a settled one is quiet just where nothing is due when it stands again
pub quiet_so : (limit limit' : ℕ) (t : Text) (old new : Stack) (due : Bool) → limit' ≡ limit
    → new ≡ old → IsSettled limit t old.now → IsTrue due ↔ HasDue limit' t new.now
    → IsTrue (not due) ↔ IsQuiet limit t old.now
quiet_so limit limit' t old new due l e settled h =
    quiet_by limit t old.now due settled
    (subst (λ n. IsTrue due ↔ HasDue n t old.now) l
    (subst (λ (s : Stack). IsTrue due ↔ HasDue limit' t s.now) e h))

module _ (trace : Recorded) (limit : ℕ) (t : Text) (s : Situation) (events all : ℕ)
    (all_is : all ≡ length trace.events) where
  -- other events are there than all
  pub not_all : (events ≡ all → ⊥) → IsTrue false ↔ IsTraceEnd trace limit t s events
  not_all other = (λ e. absurd (not_true e), λ x. absurd (other (x.all ∙ sym all_is)))

  module _ (same : events ≡ all) where
    -- all are there, and nothing is said of the end
    pub ends_plain : trace.quiet ≡ false → IsTrue true ↔ IsTraceEnd trace limit t s events
    ends_plain loud = (
      λ e. record {
        all = same ∙ all_is;
        quiet = λ q. absurd (not_true (sym loud ∙ q));
      },
      λ x. refl,
    )

    -- all are there, and the end is quiet
    pub ends_quiet : trace.quiet ≡ true → (quiet : Bool) → IsTrue quiet ↔ IsQuiet limit t s
        → IsTrue quiet ↔ IsTraceEnd trace limit t s events
    ends_quiet asked quiet h = (
      λ e. record { all = same ∙ all_is; quiet = λ q. h.0 e },
      λ x. h.1 (x.quiet asked),
    )

-- what is told of an end holds where a world stands again
pub ends_again : (trace : Recorded) (limit limit' : ℕ) (t : Text) (old new : Stack) (m : ℕ)
    (ends : Bool) → limit' ≡ limit → new ≡ old → IsTrue ends ↔ IsTraceEnd trace limit' t old.now m
    → IsTrue ends ↔ IsTraceEnd trace limit t new.now m
ends_again trace limit limit' t old new m ends l e h =
    subst (λ n. IsTrue ends ↔ IsTraceEnd trace n t new.now m) l
    (subst (λ (s : Stack). IsTrue ends ↔ IsTraceEnd trace limit' t s.now m) (sym e) h)

-- RUNS

-- a run whose events agree with so many of the trace has all of it where the trace ends there
pub ends_whole : (c : Setup) (p : Place) (m : ℕ) → AgreeAll (take m c.trace.events) p.events
    → IsTraceEnd c.trace c.limit (text_of c.spec) p.situation m → IsWhole c p
ends_whole c p m agree e = record {
  events = (let n = e.all in subst (λ xs. AgreeAll xs p.events)
      (take_all m c.trace.events (omega arith)) agree);
  quiet = e.quiet;
}

-- and only there
pub whole_ends : (c : Setup) (p : Place) (m : ℕ) → m ≤ length c.trace.events
    → AgreeAll (take m c.trace.events) p.events → IsWhole c p
    → IsTraceEnd c.trace c.limit (text_of c.spec) p.situation m
whole_ends c p m within agree w = record {
  all =
      (let a = agree_length (take m c.trace.events) p.events agree in
      let b = agree_length c.trace.events p.events w.events in
      let n = length-take-le m c.trace.events within in
      omega arith);
  quiet = w.quiet;
}

-- what is asked of a world is so of its runs
module _ (c : Setup) (spec : Spec) (limit silent : ℕ) (trace : Recorded)
    (u : Suits c spec limit silent trace) (s : Situation) (m : ℕ) where
  pub ends_there : IsTraceEnd trace limit (text_of spec) s m
      → IsTraceEnd c.trace c.limit (text_of c.spec) s m
  ends_there e = subst (λ (r : Recorded). IsTraceEnd r c.limit (text_of c.spec) s m)
      (sym u.trace_is)
      (subst (λ n. IsTraceEnd trace n (text_of c.spec) s m) (sym u.limit_is)
      (subst (λ x. IsTraceEnd trace limit (text_of x) s m) (sym u.spec_is) e))

  pub ends_here : IsTraceEnd c.trace c.limit (text_of c.spec) s m
      → IsTraceEnd trace limit (text_of spec) s m
  ends_here e = subst (λ x. IsTraceEnd trace limit (text_of x) s m) u.spec_is
      (subst (λ n. IsTraceEnd trace n (text_of c.spec) s m) u.limit_is
      (subst (λ (r : Recorded). IsTraceEnd r c.limit (text_of c.spec) s m) u.trace_is e))
