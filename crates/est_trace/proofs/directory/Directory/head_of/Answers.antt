use Rattle.est_trace.proofs.Elements.{head_is}
use Rattle.est_trace.proofs.directory.Directory.head_of.Goals as goal

pub returns-in-Some : goal.returns-in-Some
returns-in-Some c =
    head_is c.args.self.now.ports.now c.args.self.now.heads c.requires.heads c.args.name.now
    c.in-Some.head.now c.in-Some.ensures
