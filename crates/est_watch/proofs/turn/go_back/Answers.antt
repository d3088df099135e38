use Rattle.std.proofs.Common.{refl}
use Rattle.run_paths.specs.Paths.{view_of}
use Rattle.est_watch.proofs.CallLaws.{back_call, done_call, load_gone}
use Rattle.est_watch.proofs.turn.go_back.Goals as goal

pub returns-in_default-clause-ok : goal.returns-in_default-clause-ok
returns-in_default-clause-ok g c spec speaks = done_call (g.setup spec) c.args.task.now.exact
    (g.W.World.stack c.args.world.now spec) c.args.walk.now (c.requires.1 spec speaks)
    c.in_default.ensures.none

pub returns-clause-ok : goal.returns-clause-ok
returns-clause-ok g c spec speaks =
    let w = c.args.walk.now in
    back_call (g.setup spec) c.args.task.now.exact (g.W.World.stack c.args.world.now spec) w
    (c.requires.1 spec speaks)
    (record w { path = record c.undo.new.self { stage = c.stage_before-walk.result } })
    c.undo.new.self c.stage_before-walk.result (g.W.World.stack c.back.new.self spec)
    c.in-Some.undone c.in-Some.ensures.some c.stage_before-walk.ensures refl
    (c.back.ensures.stack spec speaks) refl refl

pub returns-clause-load : goal.returns-clause-load
returns-clause-load g c n e = load_gone n c.in-Some.undone (view_of c.args.walk.now.path)
    c.undo.new.self c.stage_before-walk.result c.in-Some.ensures.some c.stage_before-walk.ensures
