use Rattle.std.proofs.Common.{◌≡◌}
use Rattle.plain_names.proofs.statement_names.+statement.Given as goal

abbrev pub invariant-statements-loop-one : goal.invariant-statements-loop-one
invariant-statements-loop-one l = l.known ≡ l.fn.known

abbrev pub invariant-arms-loop-one : goal.invariant-arms-loop-one
invariant-arms-loop-one l = l.known ≡ l.fn.known
