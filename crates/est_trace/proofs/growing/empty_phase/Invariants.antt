use Rattle.std.proofs.Common.{◌≡◌, ◌≤◌, ◌-◌}
use Rattle.text_reader.specs.Moving.{Still}
use Rattle.text_reader.specs.declared.outcome.Outcome.TheVariants.{Well}
use Rattle.est_trace.specs.inside.GrowingLists.{IsEmptyPhase}
use Rattle.est_trace.proofs.growing.empty_phase.Given as goal

abbrev pub invariant-loop-made : goal.invariant-loop-made
invariant-loop-made l = (l.made ≤ l.count) × Still l.fn.reader l.reader
    × (l.reader.outcome ≡ Well → IsEmptyPhase l.made l.phase)

abbrev pub decreases-loop-made : goal.decreases-loop-made
decreases-loop-made l = l.count - l.made
