use Rattle.est_ports.proofs.CallLaws.{over_call}
use Rattle.est_ports.proofs.turn.try_next.Goals as goal

pub returns-then-walk-task-clause-ok : goal.returns-then-walk-task-clause-ok
returns-then-walk-task-clause-ok g c spec speaks = over_call (g.setup spec) spec (g.W.World.limit
    c.args.world.now) c.args.task.now.silent
    c.args.task.now.lists.now (g.W.World.stack c.args.world.now spec)
    c.args.walk.now c.in-Some.next c.next_try.new.self (c.requires.1.1.1.1.1 spec speaks)
    c.in-Some.ensures.some
