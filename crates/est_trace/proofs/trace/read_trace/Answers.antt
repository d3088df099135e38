use Rattle.std.proofs.Common.{sym, subst}
use Rattle.est_trace.specs.PortNames.{GoodPorts}
use Rattle.est_trace.proofs.GoodPorts.{good_ports}
use Rattle.est_trace.proofs.AtPorts.{allowed_trace}
use Rattle.est_trace.proofs.trace.read_trace.Goals as goal

pub read_events-requires : goal.read_events-requires
read_events-requires c = subst GoodPorts (sym c.ports.ensures) (good_ports c.args.checked.now)

pub returns-clause-allowed : goal.returns-clause-allowed
returns-clause-allowed c = allowed_trace c.args.checked.now c.ports.result.now
    c.read_events.result c.ports.ensures c.read_events.ensures.at_ports
    c.read_events.ensures.few
