use Rattle.std.proofs.Common.{◌≡◌, ◌≤◌, length, drop, None}
use Rattle.plain_declared.specs.mean_blocks.Frames.{innermost}
use Rattle.plain_frames.proofs.names.found.Given as goal

-- no frame from here on has the name
abbrev pub invariant-loop-i : goal.invariant-loop-i
invariant-loop-i l = record {
  within : l.i ≤ length l.frames;
  none : innermost l.declared l.i (drop l.i l.frames) ≡ None;
}

-- the number goes down
abbrev pub decreases-loop-i : goal.decreases-loop-i
decreases-loop-i l = l.i
