use Rattle.std.proofs.Common.{length, ◌-◌}
use Rattle.est_ports.proofs.UseLaws.{IsUsing}
use Rattle.est_ports.proofs.left.Rest.use_up.Given as goal

abbrev pub invariant-outs : goal.invariant-outs
invariant-outs l = IsUsing l.lists l.fn.self l.self l.outs l.many

abbrev pub decreases-outs : goal.decreases-outs
decreases-outs l = length l.outs - l.many
