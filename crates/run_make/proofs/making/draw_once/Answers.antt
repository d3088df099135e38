use Rattle.run_make.proofs.Turning.{held_then}
use Rattle.run_make.proofs.making.draw_once.Goals as goal

pub returns-in-Limit-clause-turned : goal.returns-in-Limit-clause-turned
returns-in-Limit-clause-turned g c spec speaks =
    rw c.in-Limit.is at (c.in_ok-try_firing.ensures.tried spec speaks)

pub returns-in_ok-happen-in-Held-clause-turned : goal.returns-in_ok-happen-in-Held-clause-turned
returns-in_ok-happen-in-Held-clause-turned g c spec speaks =
    let w = g.W.World in
    let keeps = c.in_ok-try_firing.ensures.keeps in
    held_then (w.limit c.args.world.now) (w.limit c.try_firing.new.world) c.args.recipe.now.silent
    spec c.args.making.now c.try_firing.new.making c.happen.new.making
    (w.stack c.args.world.now spec).now (w.stack c.try_firing.new.world spec).now
    (w.stack c.happen.new.world spec).now c.args.recipe.now.ports.now keeps.limit_is
    (c.requires.ports spec speaks)
    (rw c.in-Held.is at (c.in_ok-try_firing.ensures.tried spec speaks))
    (c.in_ok-happen-in-Held.ensures.happened spec (keeps.forward spec speaks))
