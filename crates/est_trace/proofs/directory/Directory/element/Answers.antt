use Rattle.est_trace.proofs.Elements.{element_is}
use Rattle.est_trace.proofs.directory.Directory.element.Goals as goal

pub returns : goal.returns
returns c =
    element_is c.args.self.now.ports.now c.args.self.now.heads c.requires.heads c.args.number
    c.in-Some.name.now c.in-Some.ensures c.requires.good c.requires.few c.args.index.now
    c.in-Some-get.head.now c.in-Some-get.ensures c.find.result c.find.ensures
