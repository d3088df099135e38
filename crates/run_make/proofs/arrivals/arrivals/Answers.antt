use Rattle.std.proofs.Common.{◌∙◌}
use Rattle.run_make.proofs.Receiving.{arrivals_here}
use Rattle.run_make.proofs.arrivals.arrivals.Goals as goal

pub loop-number-preserved : goal.loop-number-preserved
loop-number-preserved c =
    arrivals_here c.loop-number.number c.args.ports.now c.in-Some.signals.now
    c.loop-number.arrivals.items c.push_received.new.into.items c.in-Some.ensures
    c.in_ok-push_received-in-Some.ensures ∙ c.loop-number.invariant
