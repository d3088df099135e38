use Rattle.std.proofs.Common.{◌≡◌, length, refl, arith}
use Rattle.est_ports.proofs.CallLaws.{back_call, done_call, best_within}
use Rattle.est_ports.proofs.turn.go_back.Goals as goal

pub returns-in_default-clause-ok : goal.returns-in_default-clause-ok
returns-in_default-clause-ok g c spec speaks = done_call (g.setup spec) spec
    (g.W.World.limit c.args.world.now) c.args.task.now.silent c.args.task.now.lists.now
    (g.W.World.stack c.args.world.now spec) c.args.walk.now (c.requires.1.1.1 spec speaks)
    c.requires.1.0 c.requires.1.1.0 c.undo.new.self c.in_default.ensures.none

pub returns-clause-ok : goal.returns-clause-ok
returns-clause-ok g c spec speaks =
    let w = c.args.walk.now in
    let p = c.undo.new.self in
    let r = c.requires.1.1.1 spec speaks in
    let height : c.len.result ≡ length p.moves.items =
    (let n = c.len.ensures in omega (arith, p.moves.ok.0)) in
    back_call (g.setup spec) spec (g.W.World.limit c.args.world.now) c.args.task.now.silent
    c.args.task.now.lists.now (g.W.World.stack c.args.world.now spec) w r c.requires.1.0
    c.requires.1.1.0
    (record w {
      path = p;
      rest = c.back_to.new.self;
      best = c.keep.new.self;
      best_used = c.back_to.new.best;
    }) p (g.W.World.stack c.back.new.self spec) c.in-Some.undone c.len.result
    c.in-Some.ensures.some refl (c.back.ensures.stack spec speaks) height c.in_ok-keep.ensures
    (c.in_ok-back_to.ensures.best (best_within (g.setup spec) spec
    (g.W.World.limit c.args.world.now) c.args.task.now.silent c.args.task.now.lists.now
    (g.W.World.stack c.args.world.now spec) w r c.requires.1.0 c.requires.1.1.0))
    c.in_ok-back_to.ensures.used c.in_ok-back_to.ensures.stands refl refl refl
