-- What is done to watch a trace: all of it, and what is left once the specification was read.
use Rattle.std.specs.Prelude.{◌≡◌, ◌≢◌, ℕ, ◌≤◌, List, [], ◌∷◌, ◌++◌, Option}
use Rattle.est_syntax.specs.declared.specification.Spec.{Spec}
use Rattle.est_meaning.specs.rule_declares.PortList.{ports_of}
use Rattle.est_meaning.specs.mean_blocks.declared.fault.BlockFault.{BlockFault}
use Rattle.est_meaning.specs.mean_blocks.GlobalSituation.{Situation}
use Rattle.est_meaning.specs.mean_blocks.Outcome.{Done, Fault, Limit}
use Rattle.est_meaning.specs.mean_blocks.TextByPlace.{text_of}
use Rattle.est_meaning.specs.declared.answers.Started.{Started}
use Rattle.est_meaning.specs.declared.answers.Started.TheVariants as started
use Rattle.est_meaning.specs.declared.event.Event.{Event}
use Rattle.est_meaning.specs.FiringSteps.{start_of}
use Rattle.est_meaning.specs.RecordedTraces.{known_trace}
use Rattle.est_meaning.specs.Task.{setup_from}
use Rattle.call_files.specs.FaultCounts.{Rose, AllStay}
use Rattle.call_files.specs.FileEnds.{unread}
use Rattle.call_files.specs.Pieces.{SameTold}
use Rattle.call_files.specs.SearchReports.{no_start_line, over_start_line}
use Rattle.call_files.specs.Seen.{Seen, Sent}
use Rattle.call_files.specs.declared.status.Status.{Status}
use Rattle.call_files.specs.declared.status.Status.TheVariants.{ReadFault, OutOfMemory}
use Rattle.call_files.specs.declared.status.Status.TheVariants.{NoStart, OverBudget}
use Rattle.call_watch.specs.Answers.{Watch}
use Rattle.call_watch.specs.Endings.{standard_input, Watches, IsBytewise}
use Rattle.est_tool.specs.Started.{WatchStarts}
use Rattle.est_tool.specs.WatchEnds.{WatchStops, WatchDoes}
use Rattle.est_tool.specs.inside.Written.{AnswersOutput, IsSent}

-- the report of a start that is not ready
pub data IsUnready (spec : Spec) (statements : ℕ) : Status → List ℕ → Type 0 where
  unready_faults : (fault : BlockFault) → start_of statements (text_of spec) ≡ Fault fault
      → IsUnready spec statements NoStart (no_start_line fault)
  unready_passes : start_of statements (text_of spec) ≡ Limit
      → IsUnready spec statements OverBudget (over_start_line statements)

-- the start is ready
abbrev pub StartsReady : Spec → ℕ → Type 0
StartsReady spec statements =
    (outs : List Event) × (situation : Situation)
    × (start_of statements (text_of spec) ≡ Done outs situation)

-- what is watched: runs of the specification from a start that is ready
pub record IsWatchAt (spec : Spec) (silent budget statements : ℕ) (w : Watch) : Type 0 where
  pub situation : Situation
  pub outs : List Event
  pub ready : start_of statements (text_of spec) ≡ Done outs situation
  pub watch_is : w ≡ record {
    setup = setup_from statements silent spec (known_trace []) situation outs;
    ports = ports_of spec;
    budget = budget;
  }

-- What is done once the specification was read, by the names that are started: nothing is read where
-- the start is not ready or memory ran out, or where the text cannot be started; else it is watched.
pub data WatchesOn (spec : Spec) (silent budget statements : ℕ) (shelf : Seen) (asked : ℕ)
    (before after : Option (List ℕ)) : List (List ℕ) → Status → Type 0 where
  on_unready : (status : Status) (report : List ℕ) (with : Status)
      → IsUnready spec statements status report → IsSent status report with before after
      → WatchesOn spec silent budget statements shelf asked before after [] with
  on_spent : after ≡ before
      → WatchesOn spec silent budget statements shelf asked before after [] OutOfMemory
  on_unopened : asked ≡ 0 → after ≡ before
      → WatchesOn spec silent budget statements shelf asked before after (standard_input ∷ [])
      ReadFault
  on_watched : (w : Watch) (with : Status) → 1 ≤ asked
      → IsWatchAt spec silent budget statements w → IsBytewise asked shelf.after.taken
      → Watches w shelf before after with
      → WatchesOn spec silent budget statements shelf asked before after (standard_input ∷ []) with

-- what is left was done
pub record IsWatchedOn (spec : Spec) (silent budget statements : ℕ) (shelf : Seen) (asked : ℕ)
    (output : Sent) (status : Status) : Type 0 where
  pub told : SameTold shelf.before.told shelf.after.told
  pub quiet : status ≢ ReadFault → AllStay shelf.before.faults shelf.after.faults
  pub failed : status ≡ ReadFault → StartsReady spec statements
      × Rose (shelf.before.faults standard_input) (shelf.after.faults standard_input)
  pub answers : AnswersOutput output status
  pub names : List (List ℕ)
  pub started : shelf.after.started ≡ shelf.before.started ++ names
  pub does : WatchesOn spec silent budget statements shelf asked
      output.before.written output.after.written names status

-- a world that is ready speaks of this specification alone
abbrev pub SpeaksAlone : {W : Type 0} → (W → Spec → Type 0) → Spec → Started W → Type 0
SpeaksAlone speaks own (started.Ready world outs) = (spec : Spec) → speaks world spec → spec ≡ own
SpeaksAlone speaks own (started.Fault fault) = Unit {0}
SpeaksAlone speaks own started.Limit = Unit {0}

-- all of it was done
pub record IsWatchWork (specification : List ℕ) (silent budget statements : ℕ) (shelf : Seen)
    (asked : ℕ) (output : Sent) (status : Status) : Type 0 where
  pub told : SameTold shelf.before.told shelf.after.told
  pub quiet : status ≢ ReadFault → AllStay shelf.before.faults shelf.after.faults
  pub failed : status ≡ ReadFault → WatchStops shelf specification statements unread
  pub answers : AnswersOutput output status
  pub names : List (List ℕ)
  pub started : shelf.after.started ≡ shelf.before.started ++ names
  pub starts : WatchStarts shelf specification statements names
  pub does : WatchDoes shelf asked specification silent budget statements
      output.before.written output.after.written status
