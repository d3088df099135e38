use Rattle.std.proofs.Common.{take}
use Rattle.est_meaning.specs.Agreement.{AgreeAll}
use Rattle.est_explanation.proofs.replay.begins_with.Given as goal

abbrev pub invariant-loop-index : goal.invariant-loop-index
invariant-loop-index l = AgreeAll (take l.index l.trace) (take l.index l.events)
