use Rattle.std.proofs.Common.{true, refl}
use Rattle.est_watch.proofs.CallLaws.{settled_call, unsettled_call}
use Rattle.est_watch.proofs.turn.list_options.Goals as goal

pub returns-in_ok-list-in-Settled-clause-ok : goal.returns-in_ok-list-in-Settled-clause-ok
returns-in_ok-list-in-Settled-clause-ok g c spec speaks =
    let w = c.args.walk.now in
    settled_call (g.setup spec) c.args.task.now.exact spec (g.W.World.limit c.args.world.now)
    c.args.task.now.silent c.args.task.now.given.now (g.W.World.stack c.args.world.now spec)
    (g.W.World.stack c.options.new.self spec) w
    (record w { path = c.list.new.self; offers = c.list.new.tries })
    (c.requires.1.1 spec speaks) c.requires.1.0 c.options.new.into.items
    (c.in_ok-options.ensures.stack spec speaks) c.in_ok-list-in-Settled.ensures refl refl
    (rw c.in-Settled.is at (c.in_ok-options.ensures.offers spec speaks))

pub returns-in_ok-list-in-Unsettled-clause-ok : goal.returns-in_ok-list-in-Unsettled-clause-ok
returns-in_ok-list-in-Unsettled-clause-ok g c spec speaks =
    let w = c.args.walk.now in
    unsettled_call (g.setup spec) c.args.task.now.exact spec (g.W.World.limit c.args.world.now)
    c.args.task.now.silent c.args.task.now.given.now (g.W.World.stack c.args.world.now spec)
    (g.W.World.stack c.options.new.self spec) w
    (record w {
      path = c.list-in-Unsettled.new.self;
      passed = true;
      offers = c.list-in-Unsettled.new.tries;
    }) (c.requires.1.1 spec speaks) c.requires.1.0 c.options.new.into.items
    (c.in_ok-options.ensures.stack spec speaks) c.in_ok-list-in-Unsettled.ensures refl refl
    (rw c.in-Unsettled.is at (c.in_ok-options.ensures.offers spec speaks))
