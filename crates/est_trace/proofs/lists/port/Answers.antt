use Rattle.est_trace.proofs.PortLookups.{head_there}
use Rattle.est_trace.proofs.lists.port.Goals as goal

pub element-number-requires-clause-head : goal.element-number-requires-clause-head
element-number-requires-clause-head c =
    head_there c.args.directory.now.ports.now c.head-head.ensures

pub returns : goal.returns
returns c = record {
  middle = c.head-head.new.reader;
  chooses = c.head-head.ensures;
  reads = c.element-number.ensures;
}
