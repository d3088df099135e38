use Rattle.std.proofs.Common.{ℕ, ◌-◌, ◌<◌, ◌≤◌, length, slice_index}
use Rattle.plain_transitions.proofs.numbers.count_up_to.Given as goal

abbrev pub invariant-loop-low : goal.invariant-loop-low
invariant-loop-low l = record {
  ordered : l.low ≤ l.high;
  within : l.high ≤ length l.numbers;
  below : (i : ℕ) → i < l.low → slice_index l.numbers i ≤ l.after;
  above : (i : ℕ) → l.high ≤ i → i < length l.numbers → l.after < slice_index l.numbers i;
}

abbrev pub decreases-loop-low : goal.decreases-loop-low
decreases-loop-low l = l.high - l.low
