-- How the parts of a firing answer, which work on one system.
use Rattle.std.specs.Prelude.{◌≡◌, ℕ, List, map, Some, None, Result, Ok, Err}
use Rattle.est_syntax.specs.declared.body.Block.{Block, out-Block}
use Rattle.est_meaning.specs.rule_scope.declared.declaration.Sort.TheVariants as sort
use Rattle.est_meaning.specs.rule_scope.Outline.{Outline}
use Rattle.est_meaning.specs.mean_blocks.declared.fault.BlockFault.TheVariants.{Undefined}
use Rattle.est_meaning.specs.mean_blocks.declared.stop.Stop.{Stop}
use Rattle.est_meaning.specs.mean_blocks.declared.stop.Stop.TheVariants as stop
use Rattle.est_meaning.specs.mean_blocks.Outcome.{Outcome, Done, Fault, Limit}
use Rattle.est_meaning.specs.mean_blocks.TextByPlace.{Text}
use Rattle.est_meaning.specs.mean_blocks.GlobalSituation.{Frame, Situation}
use Rattle.est_meaning.specs.mean_blocks.NamesInRuns.{places_of}
use Rattle.est_meaning.specs.mean_blocks.FunctionCalls.{unset}
use Rattle.est_meaning.specs.mean_blocks.OutputEffects.{Sent}
use Rattle.plain_frames.specs.plain_systems.declared.system.Working.{Working}
use Rattle.plain_frames.specs.plain_systems.HeldSystems.{situation_of}
use Rattle.est_meaning.specs.declared.event.Event.{Event}
use Rattle.est_meaning.specs.TransitionChoices.{Choice}
use Rattle.est_meaning.specs.GuardParts.{seen_by, view_of}
use Rattle.est_meaning.specs.OutsideEvents.{departures}
use Rattle.est_meaning.specs.FiringSteps.{without_awaited}

-- the variables of a block, which begin undefined
abbrev pub own_frame : Outline → Block → Frame
own_frame o b = map (unset o) (places_of o sort.Variable (out-Block b).place)

-- what a block has left and sent
abbrev pub sent_by : Working → Sent
sent_by w = record { situation = situation_of w.system; outs = w.outs }

-- the answer of a call that executes a block of which this comes
abbrev pub Ends : Outcome Sent (Unit {0}) → Result (Unit {0}) Stop → Working → Type 0
Ends o (Ok u) w = o ≡ Done tt (sent_by w)
Ends o (Err (stop.Fault f)) w = o ≡ Fault f
Ends o (Err stop.Limit) w = o ≡ Limit
Ends o (Err (stop.Memory e)) w = Unit {0}

-- the answer of a call that begins the block of a choice: what that sees, in the situation without
-- what is taken, where its `from` and its `when` hold
abbrev pub Begins : ℕ → Text → Situation → Choice → Result (Unit {0}) Stop → Working → Type 0
Begins limit t s c (Ok u) w = (view_of limit t s c ≡ Some (seen_by t s c w.frames))
    × (situation_of w.system ≡ without_awaited limit t s c)
Begins limit t s c (Err (stop.Fault f)) w = (view_of limit t s c ≡ None) × (f ≡ Undefined)
Begins limit t s c (Err stop.Limit) w = ⊥
Begins limit t s c (Err (stop.Memory e)) w = Unit {0}

-- the answer of a call that leaves a firing to be brought to an end: what comes of it then
abbrev pub Leads : Text → (Situation → Situation) → Outcome Situation (List Event)
    → Result (Unit {0}) Stop → Working → Type 0
Leads t finish o (Ok u) w = o ≡ Done (departures t w.outs) (finish (situation_of w.system))
Leads t finish o (Err (stop.Fault f)) w = o ≡ Fault f
Leads t finish o (Err stop.Limit) w = o ≡ Limit
Leads t finish o (Err (stop.Memory e)) w = Unit {0}
