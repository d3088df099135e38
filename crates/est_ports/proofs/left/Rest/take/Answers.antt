use Rattle.est_ports.proofs.StandLaws.{taken_stands}
use Rattle.est_ports.proofs.left.Rest.take.Goals as goal

pub returns-clause-stands : goal.returns-clause-stands
returns-clause-stands c left after events e s at n =
    taken_stands c.args.lists.now c.args.self.now c.step_at.new.self c.args.port
    c.in_ok-step_at.ensures.used c.in_ok-step_at.ensures.leads left after events e s at n
