use Rattle.std.proofs.Common.{◌≡◌, ◌≤◌, ◌-◌, false, length, slice_index}
use Rattle.est_lexer.specs.Between.{IsBetween, is_blank}
use Rattle.est_lexer.proofs.between.begin_from.Given as goal

abbrev pub invariant-loop-end : goal.invariant-loop-end
invariant-loop-end l = record {
  between : IsBetween l.text l.from l.place;
  inside : l.place ≤ length l.text;
  ended : is_blank (slice_index l.text l.place) ≡ false;
}

abbrev pub decreases-loop-end : goal.decreases-loop-end
decreases-loop-end l = length l.text - l.place
