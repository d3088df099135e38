use Rattle.std.proofs.Common.{◌≡◌, ◌≤◌, ◌<◌, ℕ}
use Rattle.est_lexer.specs.Between.{closing}
use Rattle.est_lexer.proofs.between.first_end.Given as goal

abbrev pub invariant-loop-mark : goal.invariant-loop-mark
invariant-loop-mark l = (place : ℕ) → l.from ≤ place → place < l.mark → closing l.text place ≡ 0
