use Rattle.est_ports.proofs.StandLaws.{passed_stands}
use Rattle.est_ports.proofs.left.Rest.pass.Goals as goal

pub returns-clause-stands : goal.returns-clause-stands
returns-clause-stands c left after events units s x =
    passed_stands c.args.lists.now c.args.self.now c.step_over.new.self
    c.in_ok-step_over.ensures.used c.in_ok-step_over.ensures.leads left after events units s x
