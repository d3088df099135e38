use Rattle.std.proofs.Common.{◌≡◌, length, refl, subst, arith}
use Rattle.run_paths.specs.Paths.{view_of, HasKept}
use Rattle.est_search.proofs.CallLaws.{load_gone, back_call, done_call}
use Rattle.est_search.proofs.turn.go_back.Goals as goal

pub returns-in_default-clause-ok : goal.returns-in_default-clause-ok
returns-in_default-clause-ok g c spec speaks = done_call (g.setup spec)
    (g.W.World.stack c.args.world.now spec) c.args.walk.now (c.requires.1.1.1 spec speaks)
    c.requires.1.0 c.requires.1.1.0 c.in_default.ensures.none

pub returns-clause-load : goal.returns-clause-load
returns-clause-load g c e n = load_gone n c.in-Some.undone (view_of c.args.walk.now.path)
    c.undo.new.self c.stage_before-walk.result c.requires.1.0 c.in-Some.ensures.some
    c.stage_before-walk.ensures

pub returns-clause-ok : goal.returns-clause-ok
returns-clause-ok g c spec speaks =
    let w = c.args.walk.now in
    let left : c.len.result ≡ length c.undo.new.self.moves.items =
    (let n = c.len.ensures in omega (arith, c.undo.new.self.moves.ok.0)) in
    back_call (g.setup spec) (g.W.World.stack c.args.world.now spec) w
    (c.requires.1.1.1 spec speaks) c.requires.1.0 c.requires.1.1.0
    (record w {
      path = record c.undo.new.self { stage = c.stage_before-walk.result };
      best = c.keep.new.self;
    }) c.undo.new.self c.stage_before-walk.result (g.W.World.stack c.back.new.self spec)
    c.in-Some.undone c.in-Some.ensures.some c.stage_before-walk.ensures refl
    (c.back.ensures.stack spec speaks)
    (subst (λ n. HasKept w.best c.keep.new.self n c.in-Some.undone) left c.in_ok-keep.ensures) refl
    refl
