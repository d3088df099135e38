use Rattle.est_search.proofs.CallLaws.{over_call}
use Rattle.est_search.proofs.turn.try_next.Goals as goal

pub returns-then-walk-task-clause-ok : goal.returns-then-walk-task-clause-ok
returns-then-walk-task-clause-ok g c spec speaks = over_call (g.setup spec)
    (g.W.World.stack c.args.world.now spec) c.args.walk.now c.in-Some.firing c.next_try.new.self
    (c.requires.1.1.1.1.1 spec speaks).on_way c.in-Some.ensures.some
