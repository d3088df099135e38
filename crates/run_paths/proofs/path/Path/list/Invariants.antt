use Rattle.std.proofs.Common.{◌≡◌, ◌++◌, length, reverse}
use Rattle.run_paths.proofs.path.Path.list.Given as goal

abbrev pub invariant-loop-next : goal.invariant-loop-next
invariant-loop-next g l = record {
  stage : l.self.stage ≡ l.fn.stage;
  top : l.self.top ≡ record l.fn.self.top { left = length l.fn.tries.items };
  lower : l.self.lower ≡ l.fn.self.lower;
  moves : l.self.moves ≡ l.fn.self.moves;
  tries : l.tries.items ++ reverse l.self.tries.items
      ≡ l.fn.tries.items ++ reverse l.fn.self.tries.items;
}

abbrev pub decreases-loop-next : goal.decreases-loop-next
decreases-loop-next g l = goal.left-loop-next g l
