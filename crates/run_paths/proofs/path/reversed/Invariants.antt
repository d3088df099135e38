use Rattle.std.proofs.Common.{◌≡◌, ◌++◌, reverse}
use Rattle.run_paths.proofs.path.reversed.Given as goal

abbrev pub invariant-loop-made : goal.invariant-loop-made
invariant-loop-made g l = l.run ++ reverse l.moves.items ≡ reverse l.fn.moves.items

abbrev pub decreases-loop-made : goal.decreases-loop-made
decreases-loop-made g l = goal.left-loop-made g l
