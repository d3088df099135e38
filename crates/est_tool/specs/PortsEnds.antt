-- How `ports` ends.
use Rattle.std.specs.Prelude.{◌≡◌, ℕ, List, []}
use Rattle.est_syntax.specs.declared.specification.Spec.{Spec}
use Rattle.est_meaning.specs.rule_declares.PortList.{ports_of}
use Rattle.est_meaning.specs.mean_blocks.declared.fault.BlockFault.{BlockFault}
use Rattle.est_meaning.specs.mean_blocks.GlobalSituation.{Situation}
use Rattle.est_meaning.specs.mean_blocks.Outcome.{Done, Fault, Limit}
use Rattle.est_meaning.specs.mean_blocks.TextByPlace.{text_of}
use Rattle.est_meaning.specs.declared.event.Event.{Event}
use Rattle.est_meaning.specs.FiringSteps.{start_of}
use Rattle.est_meaning.specs.RecordedTraces.{known_trace}
use Rattle.est_meaning.specs.Run.{Setup}
use Rattle.est_meaning.specs.Task.{setup_from}
use Rattle.mean_ports.specs.declared.lists.PortLists.{PortLists}
use Rattle.mean_ports.specs.declared.verdict.PortsVerdict.{PortsVerdict}
use Rattle.mean_ports.specs.Merges.{AreAllowedLists}
use Rattle.mean_ports.specs.PortsVerdict.{IsPortsVerdict}
use Rattle.call_files.specs.declared.file.File.TheVariants as file
use Rattle.call_files.specs.declared.status.Status.TheVariants.{OverBudget, NoStart}
use Rattle.call_files.specs.FileEnds.{End, reported, EndsAt, HoldsSpecification, HoldsLists}
use Rattle.call_files.specs.FileTexts.{RefusesSpecification, RefusesLists}
use Rattle.call_files.specs.PortReports.{IsReadablePorts, ports_report, ports_status}
use Rattle.call_files.specs.SearchReports.{no_start_line, over_start_line}
use Rattle.call_files.specs.Seen.{Seen}

-- the runs of a specification from this situation and these events of its start; along which trace
-- is left open
abbrev pub setup_at : ℕ → ℕ → Spec → Situation → List Event → Setup
setup_at statements silent spec s outs =
    setup_from statements silent spec (known_trace []) s outs

-- `ports` ends at the first of its files that is refused, or at a start that faults or passes its
-- limit, or tells the verdict on lists within their limits, in a report whose numbers an explanation
-- may have
pub data PortsEnds (shelf : Seen) (specification lists : List ℕ) (silent budget statements : ℕ)
    : End → Type 0 where
  refused_at_specification : (end : End)
      → EndsAt shelf file.Specification specification RefusesSpecification end
      → PortsEnds shelf specification lists silent budget statements end
  refused_at_lists : (spec : Spec) (end : End) → HoldsSpecification shelf specification spec
      → EndsAt shelf file.Trace lists (RefusesLists spec) end
      → PortsEnds shelf specification lists silent budget statements end
  no_start : (spec : Spec) (listed : PortLists) (fault : BlockFault)
      → HoldsSpecification shelf specification spec → HoldsLists shelf lists spec listed
      → start_of statements (text_of spec) ≡ Fault fault
      → PortsEnds shelf specification lists silent budget statements
      (reported NoStart (no_start_line fault))
  long_start : (spec : Spec) (listed : PortLists) → HoldsSpecification shelf specification spec
      → HoldsLists shelf lists spec listed
      → start_of statements (text_of spec) ≡ Limit
      → PortsEnds shelf specification lists silent budget statements
      (reported OverBudget (over_start_line statements))
  judged : (spec : Spec) (listed : PortLists) (s : Situation) (outs : List Event)
      (verdict : PortsVerdict)
      → HoldsSpecification shelf specification spec → HoldsLists shelf lists spec listed
      → start_of statements (text_of spec) ≡ Done outs s → AreAllowedLists spec listed
      → IsPortsVerdict (setup_at statements silent spec s outs) listed budget verdict
      → IsReadablePorts statements verdict
      → PortsEnds shelf specification lists silent budget statements
      (reported (ports_status verdict) (ports_report (ports_of spec) statements verdict))
