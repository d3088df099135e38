use Rattle.std.proofs.Common.{◌≡◌, drop}
use Rattle.plain_declared.specs.mean_blocks.FunctionCalls.{frame_of}
use Rattle.plain_frames.proofs.RoutineSteps.{after}
use Rattle.plain_frames.proofs.routines.frame_by.Given as goal

-- the names so far, and those that are left, are all
abbrev pub invariant-loop-i : goal.invariant-loop-i
invariant-loop-i l = after l.frame (frame_of l.outline (drop l.i l.places) (drop l.i l.slots))
    ≡ frame_of l.outline l.places l.slots
