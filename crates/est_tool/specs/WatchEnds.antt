-- How `watch` ends, and what it has written by then.
use Rattle.std.specs.Prelude.{◌≡◌, ℕ, ◌≤◌, List, [], ◌∷◌, ◌++◌, Option}
use Rattle.est_syntax.specs.declared.specification.Spec.{Spec}
use Rattle.est_meaning.specs.rule_declares.PortList.{ports_of}
use Rattle.est_meaning.specs.mean_blocks.declared.fault.BlockFault.{BlockFault}
use Rattle.est_meaning.specs.mean_blocks.GlobalSituation.{Situation}
use Rattle.est_meaning.specs.mean_blocks.Outcome.{Done, Fault, Limit}
use Rattle.est_meaning.specs.mean_blocks.TextByPlace.{text_of}
use Rattle.est_meaning.specs.declared.event.Event.{Event}
use Rattle.est_meaning.specs.FiringSteps.{start_of}
use Rattle.est_meaning.specs.RecordedTraces.{known_trace}
use Rattle.est_meaning.specs.Task.{setup_from}
use Rattle.call_files.specs.FaultCounts.{Rose}
use Rattle.call_files.specs.FileEnds.{End, reported, unread, EndsAt, HoldsSpecification}
use Rattle.call_files.specs.FileTexts.{RefusesSpecification}
use Rattle.call_files.specs.Pieces.{appended, IsPrefix}
use Rattle.call_files.specs.SearchReports.{over_start_line, no_start_line}
use Rattle.call_files.specs.Seen.{Seen}
use Rattle.call_files.specs.declared.file.File.TheVariants as file
use Rattle.call_files.specs.declared.status.Status.{Status}
use Rattle.call_files.specs.declared.status.Status.TheVariants as status
use Rattle.call_watch.specs.Answers.{Watch}
use Rattle.call_watch.specs.Endings.{standard_input, Watches, IsBytewise}

-- before its text is read `watch` ends at its file, or at a start that faults or passes its limit; or
-- the text cannot be read, from its start on or later
pub data WatchStops (shelf : Seen) (specification : List ℕ) (statements : ℕ) : End → Type 0 where
  stops_at_file : (end : End)
      → EndsAt shelf file.Specification specification RefusesSpecification end
      → WatchStops shelf specification statements end
  starts_badly : (spec : Spec) (fault : BlockFault) → HoldsSpecification shelf specification spec
      → start_of statements (text_of spec) ≡ Fault fault
      → WatchStops shelf specification statements
      (reported status.NoStart (no_start_line fault))
  starts_too_long : (spec : Spec) → HoldsSpecification shelf specification spec
      → start_of statements (text_of spec) ≡ Limit
      → WatchStops shelf specification statements
      (reported status.OverBudget (over_start_line statements))
  cannot_go_on : (spec : Spec) (outs : List Event) (situation : Situation)
      → HoldsSpecification shelf specification spec
      → start_of statements (text_of spec) ≡ Done outs situation
      → Rose (shelf.before.faults standard_input) (shelf.after.faults standard_input)
      → WatchStops shelf specification statements unread

-- what is watched: runs of a good specification from a start that is ready
pub record IsWatchOf (shelf : Seen) (specification : List ℕ) (silent budget statements : ℕ)
    (w : Watch) : Type 0 where
  pub spec : Spec
  pub situation : Situation
  pub outs : List Event
  pub holds : HoldsSpecification shelf specification spec
  pub ready : start_of statements (text_of spec) ≡ Done outs situation
  pub watch_is : w ≡ record {
    setup = setup_from statements silent spec (known_trace []) situation outs;
    ports = ports_of spec;
    budget = budget;
  }

-- The text has begun to be read: it was started, and bytes of it were asked for. So often were bytes
-- asked for since the last start.
abbrev pub HasBegun : Seen → ℕ → List ℕ → Type 0
HasBegun shelf asked specification =
    (shelf.after.started ≡ shelf.before.started ++ specification ∷ standard_input ∷ [])
    × (1 ≤ asked)

-- What `watch` does that ends with a status: what is written before and after, and, once its text has
-- begun to be read, how much of it was taken. Until then one report is written, or none.
pub data WatchDoes (shelf : Seen) (asked : ℕ) (specification : List ℕ)
    (silent budget statements : ℕ) (before after : Option (List ℕ)) : Status → Type 0 where
  stops : (with : Status) (report : List ℕ)
      → WatchStops shelf specification statements (reported with report)
      → after ≡ appended before report
      → WatchDoes shelf asked specification silent budget statements before after with
  stops_unwritten : (with : Status) (report part : List ℕ)
      → WatchStops shelf specification statements (reported with report)
      → IsPrefix part report → after ≡ appended before part
      → WatchDoes shelf asked specification silent budget statements before after
      status.WriteFault
  stops_unread : (HasBegun shelf asked specification → ⊥)
      → WatchStops shelf specification statements unread → after ≡ before
      → WatchDoes shelf asked specification silent budget statements before after
      status.ReadFault
  stops_spent : (HasBegun shelf asked specification → ⊥) → after ≡ before
      → WatchDoes shelf asked specification silent budget statements before after
      status.OutOfMemory
  watches : (w : Watch) (with : Status) → HasBegun shelf asked specification
      → IsWatchOf shelf specification silent budget statements w
      → IsBytewise asked shelf.after.taken → Watches w shelf before after with
      → WatchDoes shelf asked specification silent budget statements before after with
