-- What came of a search from the start of a specification, along a trace or along lists.
use Rattle.std.specs.Prelude.{◌≡◌, List}
use Rattle.est_syntax.specs.declared.specification.Spec.{Spec}
use Rattle.est_meaning.specs.mean_blocks.GlobalSituation.{Situation}
use Rattle.est_meaning.specs.mean_blocks.Outcome.{Done, Fault, Limit}
use Rattle.est_meaning.specs.mean_blocks.TextByPlace.{text_of}
use Rattle.est_meaning.specs.declared.event.Event.{Event}
use Rattle.est_meaning.specs.RecordedTraces.{Recorded}
use Rattle.est_meaning.specs.FiringSteps.{start_of}
use Rattle.est_meaning.specs.declared.run.Limits.{Limits}
use Rattle.est_search.specs.Verdict.{IsVerdict}
use Rattle.est_tool.specs.declared.search.Searched.{Searched}
use Rattle.est_tool.specs.declared.search.Searched.TheVariants as searched
use Rattle.est_meaning.specs.Task.{setup_from}
use Rattle.mean_ports.specs.declared.lists.PortLists.{PortLists}
use Rattle.mean_ports.specs.Merges.{AreAllowedLists}
use Rattle.mean_ports.specs.PortsVerdict.{IsPortsVerdict}
use Rattle.call_files.specs.PortReports.{HasFewEvents}
use Rattle.est_tool.specs.declared.search.PortsSearched.{PortsSearched}
use Rattle.est_tool.specs.declared.search.PortsSearched.TheVariants as ports_searched
use Rattle.est_tool.specs.PortsEnds.{setup_at}

-- the verdict, where the start is ready, and else what comes of the start
abbrev pub IsSearched : Limits → Spec → Recorded → Searched → Type 0
IsSearched limits spec trace (searched.Found verdict) =
    (s : Situation) × (outs : List Event)
    × (start_of limits.statements (text_of spec) ≡ Done outs s)
    × IsVerdict (setup_from limits.statements limits.silent spec trace s outs) limits.budget verdict
IsSearched limits spec trace (searched.Fault fault) =
    start_of limits.statements (text_of spec) ≡ Fault fault
IsSearched limits spec trace searched.Limit =
    start_of limits.statements (text_of spec) ≡ Limit

-- the same along one trace for each port
abbrev pub IsPortsSearched : Limits → Spec → PortLists → PortsSearched → Type 0
IsPortsSearched limits spec lists (ports_searched.Found verdict) =
    (s : Situation) × (outs : List Event)
    × (start_of limits.statements (text_of spec) ≡ Done outs s)
    × AreAllowedLists spec lists
    × IsPortsVerdict (setup_at limits.statements limits.silent spec s outs) lists limits.budget
    verdict
IsPortsSearched limits spec lists (ports_searched.Fault fault) =
    start_of limits.statements (text_of spec) ≡ Fault fault
IsPortsSearched limits spec lists ports_searched.Limit =
    start_of limits.statements (text_of spec) ≡ Limit

-- the merge of a verdict, where one was found, has no more events than a trace may have
abbrev pub FindsFew : PortsSearched → Type 0
FindsFew (ports_searched.Found verdict) = HasFewEvents verdict
FindsFew (ports_searched.Fault fault) = Unit {0}
FindsFew ports_searched.Limit = Unit {0}
