use Rattle.std.proofs.Common.{◌≤◌, ◌-◌, length}
use Rattle.est_lexer.specs.Between.{IsBetween}
use Rattle.est_lexer.proofs.between.blanks_end.Given as goal

abbrev pub invariant-loop-end : goal.invariant-loop-end
invariant-loop-end l = record {
  between : IsBetween l.text l.from l.end;
  inside : l.end ≤ length l.text;
}

abbrev pub decreases-loop-end : goal.decreases-loop-end
decreases-loop-end l = length l.text - l.end
