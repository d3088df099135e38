use Rattle.std.proofs.Common.{sym, subst}
use Rattle.est_watch.specs.inside.Walk.{IsLeaving}
use Rattle.est_watch.proofs.CallLaws.{over_call, leaving_call}
use Rattle.est_watch.proofs.turn.try_next.Goals as goal

pub go_back-requires : goal.go_back-requires
go_back-requires g c κs within = (
  within,
  λ spec speaks.
      (let w = c.args.walk.now in
      subst (λ v. IsLeaving (g.setup spec) c.args.task.now.exact
      (g.W.World.stack c.args.world.now spec) v w.tried w.passed) (sym c.in_default.ensures.kept)
      (leaving_call (g.setup spec) c.args.task.now.exact (g.W.World.stack c.args.world.now spec) w
      (c.requires.1.1.1.1.1 spec speaks).on_way c.requires.1.0 c.in_default.ensures.none)),
)

pub returns-then-walk-task-clause-ok : goal.returns-then-walk-task-clause-ok
returns-then-walk-task-clause-ok g c spec speaks = over_call (g.setup spec) c.args.task.now.exact
    (g.W.World.stack c.args.world.now spec) c.args.walk.now c.in-Some.firing c.next_try.new.self
    (c.requires.1.1.1.1.1 spec speaks).on_way c.in-Some.ensures.some
