-- The numbers of verdicts along one trace for each port are those that an explanation may have.
use Rattle.std.proofs.Common.{ℕ, ◌≤◌, ◌<◌, ◌^◌, List, length, reverse, Option, Some}
use Rattle.std.proofs.Common.{None, arith}
use Rattle.std.specs.Prelude.{IfSome}
use Rattle.est_meaning.specs.declared.firing.Firing.{Firing}
use Rattle.est_meaning.specs.AllowedEvents.{most_events}
use Rattle.est_meaning.specs.declared.run.Move.{Move}
use Rattle.est_meaning.specs.RecordedTraces.{Recorded}
use Rattle.est_meaning.specs.Run.{Setup, IsBegun}
use Rattle.est_meaning.proofs.AgreementLaws.{first_taken}
use Rattle.est_meaning.proofs.RunLaws.{bounded_is_run}
use Rattle.est_explanation.specs.CanonicalExplanation.{IsWritableFiring}
use Rattle.mean_ports.specs.declared.lists.PortLists.{PortLists}
use Rattle.mean_ports.specs.declared.verdict.PortsVerdict.TheVariants.{Accepted, Refused}
use Rattle.mean_ports.specs.declared.verdict.PortsVerdict.TheVariants.{OverTries, OverAction}
use Rattle.mean_ports.specs.Merges.{AreAllowedLists, IsMerge}
use Rattle.mean_ports.specs.PortRuns.{along}
use Rattle.mean_ports.specs.PortTrials.{PassesIn}
use Rattle.mean_ports.specs.PortsVerdict.{IsOverSomewhere}
use Rattle.mean_ports.proofs.AllowedMerges.{merge_allowed}
use Rattle.call_files.specs.PortReports.{IsReadablePorts}
use Rattle.law_numbers.specs.WritableLaws.{IsShort, PortsVerdictsAreReadable}
use Rattle.law_numbers.proofs.ReadableVerdicts.{moves, yielding, yielded_few}
use Rattle.law_numbers.proofs.WritableRuns.{firings_writable}

module _ (c : Setup) (lists : PortLists) (short : IsShort c.spec) (begun : IsBegun c)
    (allowed : AreAllowedLists c.spec lists) where
  -- a merge has no more events than a trace may have
  few : (merge : Recorded) → IsMerge lists merge → length merge.events ≤ most_events
  few merge is = (merge_allowed c.spec lists merge allowed is).few

  over_readable : (budget : ℕ) (merge : Recorded) (run : List Move) (reached : ℕ)
      (firing : Option Firing) → c.limit < 2 ^ 64
      → IsOverSomewhere c lists budget merge (reverse run) reached firing
      → IsReadablePorts c.limit (OverAction merge run reached firing)
  over_readable budget merge run reached firing below h =
      let n = few merge h.is_merge in
      let m = h.count in
      let l = (first_taken merge.events h.place.events h.follows).0 in (
        below,
        record {
          moves = moves (along c merge) short begun n run h.place h.is_run;
          claim = omega (arith, n, m, l);
        },
        passed firing h.passes,
      )
    where
      passed : (firing : Option Firing) → PassesIn c h.place.situation firing
          → IfSome firing IsWritableFiring
      passed None p = tt
      passed (Some f) p =
          firings_writable (along c merge) (reverse run) h.place f short begun
          (bounded_is_run (along c merge) (reverse run) h.place h.is_run) p.0

pub ports_verdicts_readable : PortsVerdictsAreReadable
ports_verdicts_readable c lists budget (Accepted merge run) short begun allowed below h =
    let n = few c lists short begun allowed merge h.is_merge in
    let e = h.explains in record {
      moves = moves (along c merge) short begun n run e.place e.is_run;
      claim = omega (arith, n);
    }
ports_verdicts_readable c lists budget (Refused most merge run) short begun allowed below h =
    let g = h.greatest in
    let n = few c lists short begun allowed merge g.is_merge in (
      n,
      record {
        moves = yielding (along c merge) short begun n run most g.yields;
        claim = yielded_few (along c merge) short begun n (reverse run) most g.yields;
      },
    )
ports_verdicts_readable c lists budget (OverTries tried) short begun allowed below h = tt
ports_verdicts_readable c lists budget (OverAction merge run reached firing) short begun allowed
    below h =
    over_readable c lists short begun allowed budget merge run reached firing below h
