use Rattle.std.proofs.Common.{◌≡◌, drop}
use Rattle.std.specs.List.{position, position_from}
use Rattle.plain_declared.specs.mean_blocks.Frames.{is_declared}
use Rattle.plain_frames.proofs.names.position_of.Given as goal

-- what is found from here on is what is found
abbrev pub invariant-loop-i : goal.invariant-loop-i
invariant-loop-i l = position_from (is_declared l.declared) l.i (drop l.i l.frame)
    ≡ position (is_declared l.declared) l.frame
