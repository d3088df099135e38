use Rattle.std.proofs.Common.{◌≡◌, ◌<◌, ℕ, None}
use Rattle.est_ports.specs.inside.Cursors.{cut, first_at}
use Rattle.est_ports.proofs.cursors.are_used.Given as goal

abbrev pub invariant-loop-port : goal.invariant-loop-port
invariant-loop-port l = (k : ℕ) → k < l.port → first_at (cut l.cursors l.lists) k ≡ None
