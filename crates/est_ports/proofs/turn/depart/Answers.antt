use Rattle.std.proofs.Common.{refl}
use Rattle.est_ports.proofs.LandCalls.{depart_at}
use Rattle.est_ports.proofs.turn.depart.Goals as goal

pub returns-clause-ok : goal.returns-clause-ok
returns-clause-ok g c spec speaks =
    let mid = c.reach.new.self in
    depart_at (g.setup spec) spec (g.W.World.limit c.args.world.now) c.args.task.now.silent
    c.args.task.now.lists.now (g.W.World.stack c.args.world.now spec)
    c.args.walk.now c.args.firing c.args.matched (c.requires.1 spec speaks) mid
    c.in_ok-reach.ensures.raised
    (record mid { rest = c.back_to.new.self; best_used = c.back_to.new.best })
    (g.W.World.stack c.back.new.self spec) (c.back.ensures.stack spec speaks)
    c.in_ok-back_to.ensures.used c.in_ok-back_to.ensures.stands c.in_ok-back_to.ensures.best refl
