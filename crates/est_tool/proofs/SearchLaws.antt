-- What comes of a search from the start of a specification.
use Rattle.std.proofs.Common.{◌≡◌, ◌≤◌, ℕ, List, length, subst, sym}
use Rattle.est_syntax.specs.declared.specification.Spec.{Spec}
use Rattle.est_meaning.specs.mean_blocks.GlobalSituation.{Situation}
use Rattle.est_meaning.specs.mean_blocks.Outcome.{Done}
use Rattle.est_meaning.specs.mean_blocks.TextByPlace.{text_of}
use Rattle.est_meaning.specs.declared.event.Event.{Event}
use Rattle.est_meaning.specs.RecordedTraces.{Recorded}
use Rattle.est_meaning.specs.FiringSteps.{start_of}
use Rattle.est_meaning.specs.declared.run.Limits.{Limits}
use Rattle.est_search.specs.declared.verdict.Verdict.{Verdict}
use Rattle.est_search.specs.Verdict.{IsVerdict}
use Rattle.est_tool.specs.declared.search.Searched.TheVariants as came
use Rattle.est_tool.specs.inside.Searching.{IsSearched}
use Rattle.est_meaning.specs.Task.{setup_from}
use Rattle.est_meaning.specs.AllowedEvents.{most_events}
use Rattle.est_meaning.specs.Run.{Setup}
use Rattle.mean_ports.specs.declared.lists.PortLists.{PortLists}
use Rattle.mean_ports.specs.declared.verdict.PortsVerdict.{PortsVerdict}
use Rattle.mean_ports.specs.declared.verdict.PortsVerdict.TheVariants as merged
use Rattle.mean_ports.specs.Merges.{AreAllowedLists, IsMerge}
use Rattle.mean_ports.specs.PortsVerdict.{IsPortsVerdict}
use Rattle.mean_ports.proofs.Lengths.{merges_as_long}
use Rattle.call_files.specs.PortReports.{HasFewEvents}
use Rattle.est_tool.specs.declared.search.PortsSearched.TheVariants as ports_came
use Rattle.est_tool.specs.inside.Searching.{IsPortsSearched}
use Rattle.est_tool.specs.PortsEnds.{setup_at}

-- a verdict from the start
pub found_searched : (limits : Limits) (spec : Spec) (trace : Recorded) (s : Situation)
    (outs outs' : List Event) (verdict : Verdict) → outs' ≡ outs
    → start_of limits.statements (text_of spec) ≡ Done outs s
    → IsVerdict (setup_from limits.statements limits.silent spec trace s outs') limits.budget verdict
    → IsSearched limits spec trace (came.Found verdict)
found_searched limits spec trace s outs outs' verdict same begun is = (
  s,
  outs,
  begun,
  subst (λ es. IsVerdict (setup_from limits.statements limits.silent spec trace s es) limits.budget
      verdict) same is,
)

-- a verdict along one trace for each port, from the start
pub found_ports : (limits : Limits) (spec : Spec) (lists : PortLists) (s : Situation)
    (outs outs' : List Event) (verdict : PortsVerdict) → AreAllowedLists spec lists → outs' ≡ outs
    → start_of limits.statements (text_of spec) ≡ Done outs s
    → IsPortsVerdict (setup_at limits.statements limits.silent spec s outs') lists limits.budget
    verdict
    → IsPortsSearched limits spec lists (ports_came.Found verdict)
found_ports limits spec lists s outs outs' verdict allowed same begun is = (
  s,
  outs,
  begun,
  allowed,
  subst (λ es. IsPortsVerdict (setup_at limits.statements limits.silent spec s es) lists
      limits.budget verdict) same is,
)

-- a merge of allowed lists has no more events than a trace may have
few_merged : (spec : Spec) (lists : PortLists) (merge : Recorded) → AreAllowedLists spec lists
    → IsMerge lists merge → length merge.events ≤ most_events
few_merged spec lists merge allowed is =
    subst (λ n. n ≤ most_events) (sym (merges_as_long lists merge is)) allowed.few

-- so has that of a verdict
pub found_few : (c : Setup) (spec : Spec) (lists : PortLists) (budget : ℕ)
    (verdict : PortsVerdict) → AreAllowedLists spec lists → IsPortsVerdict c lists budget verdict
    → HasFewEvents verdict
found_few c spec lists budget (merged.Accepted merge run) allowed is =
    few_merged spec lists merge allowed is.is_merge
found_few c spec lists budget (merged.Refused most merge run) allowed is =
    few_merged spec lists merge allowed is.greatest.is_merge
found_few c spec lists budget (merged.OverTries tried) allowed is = tt
found_few c spec lists budget (merged.OverAction merge run reached firing) allowed is =
    few_merged spec lists merge allowed is.is_merge
