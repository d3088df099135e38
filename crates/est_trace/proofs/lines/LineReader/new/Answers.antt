use Rattle.std.proofs.Common.{sym, subst, ◌∙◌}
use Rattle.est_trace.specs.PortNames.{GoodPorts}
use Rattle.est_trace.proofs.GoodPorts.{good_ports}
use Rattle.est_trace.proofs.lines.LineReader.new.Goals as goal

pub directory_of-requires : goal.directory_of-requires
directory_of-requires c = subst GoodPorts (sym c.ports.ensures) (good_ports c.args.checked.now)

pub returns : goal.returns
returns c = record {
  directory = c.in_ok-directory.ensures.directory;
  ports = c.in_ok-directory.ensures.ports ∙ c.ports.ensures;
}
