-- The numbers of verdicts are those that an explanation may have.
use Rattle.std.proofs.Common.{◌≡◌, sym, ap, subst, ◌∙◌, ℕ, zero, suc, ◌+◌, ◌-◌, ◌≤◌, ◌<◌, ◌^◌}
use Rattle.std.proofs.Common.{List, [], ◌∷◌, length, reverse, get_or, Option}
use Rattle.std.proofs.Common.{Some, None, inl, inr, arith}
use Rattle.std.specs.Prelude.{IfSome}
use Rattle.std.specs.List.{All}
use Rattle.std.proofs.lemmas.List.{get_or-reverse, length-reverse, reverse-reverse}
use Rattle.mean_blocks.specs.GlobalSituation.{Situation}
use Rattle.mean_blocks.specs.Outcome.{Outcome}
use Rattle.est_meaning.specs.declared.event.Event.{Event}
use Rattle.est_meaning.specs.declared.firing.Firing.{Firing}
use Rattle.est_meaning.specs.AllowedEvents.{most_events}
use Rattle.est_meaning.specs.declared.run.Move.{Move}
use Rattle.est_meaning.specs.Order.{marks_of}
use Rattle.est_meaning.specs.Run.{Setup, Place, IsBegun, IsBoundedRun, Yields}
use Rattle.est_meaning.specs.Trials.{IsInner, ComesTo, PassesLimit, guards, block, mark_passed}
use Rattle.est_meaning.proofs.AgreementLaws.{first_taken}
use Rattle.est_meaning.proofs.OrderLaws.{marks_same}
use Rattle.est_meaning.proofs.RunLaws.{bounded_is_run, one_place, yields_below_all}
use Rattle.est_explanation.specs.CanonicalExplanation.{IsWritableFiring}
use Rattle.est_explanation.specs.CanonicalExplanation.{IsWritableMove}
use Rattle.est_search.specs.declared.verdict.Faulted.{Faulted}
use Rattle.est_search.specs.declared.verdict.Verdict.TheVariants.{Accepted, Refused}
use Rattle.est_search.specs.declared.verdict.Verdict.TheVariants.{OverFirings, OverAction}
use Rattle.est_search.specs.Verdict.{IsRefused, IsOverAction, IsFirstFaulted}
use Rattle.call_files.specs.ReadableReports.{IsReadableFault, IsReadable}
use Rattle.law_numbers.specs.WritableLaws.{IsShort, VerdictsAreReadable}
use Rattle.law_numbers.proofs.WritableRuns.{firings_writable, runs_writable}

-- what holds of each item of a list holds of each when it is read from its end
reversed_all : {A : Type 0} (P : A → Type 0) (xs : List A) → All P (reverse xs) → All P xs
reversed_all P xs h k d l =
    let n = length-reverse xs in
    let m : k < length (reverse xs) = omega (arith, l, n) in
    subst P (sym (get_or-reverse (reverse xs) k d m)
    ∙ ap (λ ys. get_or ys k d) (reverse-reverse xs))
    (h (length (reverse xs) - 1 - k) d (omega (arith, m)))

-- after a run something passes its limit: the run follows the trace
pub passed_inner : (c : Setup) (run : List Move) (firing : Option Firing)
    → PassesLimit c (mark_passed firing ∷ marks_of run) → (p : Place) × IsInner c run p
passed_inner c run firing (guards other at unsettled) =
    let e : marks_of run ≡ marks_of other = cc in (
      unsettled.place,
      subst (λ r. IsInner c r unsettled.place) (sym (marks_same run other e)) unsettled.inner,
    )
passed_inner c run firing (block earlier g at comes) =
    let e : marks_of run ≡ marks_of earlier = cc in (
      comes.place,
      subst (λ r. IsInner c r comes.place) (sym (marks_same run earlier e)) comes.inner,
    )

module _ (c : Setup) (short : IsShort c.spec) (begun : IsBegun c)
    (few : length c.trace.events ≤ most_events) where
  -- MOVES

  pub moves : (run : List Move) (p : Place) → IsBoundedRun c (reverse run) p → All IsWritableMove run
  moves run p is = reversed_all IsWritableMove run
      (runs_writable c (reverse run) p short begun is)

  pub yielding : (run : List Move) (k : ℕ) → Yields c (reverse run) k → All IsWritableMove run
  yielding run k (inl y) = moves run y.place y.is_run
  yielding run k (inr y) = moves run y.1.place y.1.is_run

  pub yielded_few : (run : List Move) (k : ℕ) → Yields c run k → k ≤ most_events + 1
  yielded_few run k (inl y) = let l = y.within in omega (arith, few, l)
  yielded_few run k (inr y) = let e = y.0 in omega (arith, few, e)

  -- FAULTS AND LIMITS

  tried : (earlier : List Move) (f : Firing) (o : Outcome Situation (List Event))
      → ComesTo c earlier f o → IsWritableFiring f
  tried earlier f o h = firings_writable c earlier h.place f short begun
      (bounded_is_run c earlier h.place h.inner.is_run) h.possible

  faulted_readable : (faulted : Option Faulted) → IsFirstFaulted c faulted
      → IsReadableFault faulted
  faulted_readable None h = tt
  faulted_readable (Some f) h = tried (reverse f.run) f.firing _ h.comes

  passed_firing : (run : List Move) (firing : Option Firing)
      → PassesLimit c (mark_passed firing ∷ marks_of run) → IfSome firing IsWritableFiring
  passed_firing run None h = tt
  passed_firing run (Some f) (guards other at unsettled) = absurd (cc)
  passed_firing run (Some f) (block earlier g at comes) =
      let e : g ≡ f = cc in subst IsWritableFiring e (tried earlier g _ comes)

  -- VERDICTS

  refused_readable : (budget at : ℕ) (run : List Move) (faulted : Option Faulted)
      → IsRefused c budget at (reverse run) faulted
      → IsReadable c.limit (length c.trace.events) (Refused at run faulted)
  refused_readable budget zero run faulted h =
      absurd (h.least.unyielded [] (yields_below_all.start c))
  refused_readable budget (suc k) run faulted h = let y = (h.first k (omega arith)).has in (
    few,
    record {
      moves = yielding run k y;
      claim = let l = yielded_few (reverse run) k y in omega (arith, l);
    },
    faulted_readable faulted h.faulted_is,
  )

  over_readable : (budget reached : ℕ) (run : List Move) (firing : Option Firing)
      → c.limit < 2 ^ 64 → IsOverAction c budget (reverse run) reached firing
      → IsReadable c.limit (length c.trace.events) (OverAction run reached firing)
  over_readable budget reached run firing below h =
      let i = passed_inner c (reverse run) firing h.first.has in
      let same : h.reached.place ≡ i.0 = one_place c (reverse run) h.reached.place i.0
      h.reached.is_run i.1.is_run in
      let n = ap (λ (p : Place). length p.events) same in
      let m = h.reached.count in
      let l = (first_taken c.trace.events i.0.events i.1.follows).0 in (
        below,
        record {
          moves = moves run h.reached.place h.reached.is_run;
          claim = omega (arith, few, n, m, l);
        },
        passed_firing (reverse run) firing h.first.has,
      )

pub verdicts_readable : VerdictsAreReadable
verdicts_readable c budget (Accepted run) short begun few below h =
    let e = h.first.has in record {
      moves = moves c short begun few run e.place e.is_run;
      claim = omega (arith, few);
    }
verdicts_readable c budget (Refused at run faulted) short begun few below h =
    refused_readable c short begun few budget at run faulted h
verdicts_readable c budget (OverFirings many) short begun few below h = tt
verdicts_readable c budget (OverAction run reached firing) short begun few below h =
    over_readable c short begun few budget reached run firing below h
