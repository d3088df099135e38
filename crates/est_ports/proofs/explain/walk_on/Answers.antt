use Rattle.std.proofs.Common.{arith}
use Rattle.est_ports.proofs.StartLaws.{ready_at_start}
use Rattle.est_ports.proofs.VerdictLaws.{answered, if_ok}
use Rattle.est_ports.proofs.explain.walk_on.Goals as goal

pub walk_all-step-requires : goal.walk_all-step-requires
walk_all-step-requires g c κs within =
    let tried = c.new-walk.ensures.tried in
    let fired = c.new-walk.ensures.fired in
    let room = c.requires.1.0 in (
      within,
      (
        omega arith,
        (
          omega arith,
          (
            omega arith,
            λ spec speaks. ready_at_start (g.setup spec) spec (g.W.World.limit c.args.world.now)
                c.args.task.now.silent c.args.task.now.lists.now
                (g.W.World.stack c.args.world.now spec) c.args.rest c.args.matched
                (c.requires.1.1 spec speaks) c.new-walk.result c.new-walk.ensures.path
                c.new-walk.ensures.rest c.new-walk.ensures.best c.new-walk.ensures.common
                c.new-walk.ensures.tail c.new-walk.ensures.used_common
                c.new-walk.ensures.used_tail c.new-walk.ensures.passed c.new-walk.ensures.tried
                c.new-walk.ensures.fired,
          ),
        ),
      ),
    )

pub returns-in-Ok-clause-verdict : goal.returns-in-Ok-clause-verdict
returns-in-Ok-clause-verdict g c = if_ok c.answer-verdict.result (λ verdict a spec speaks.
    (let suits = (c.requires.1.1 spec speaks).suits in
    answered (g.setup spec) c.args.task.now.lists.now
    (g.W.World.stack c.walk_all-step.new.world spec) c.walk_all-step.new.walk
    c.args.task.now.budget c.in-Ok.step verdict (c.in-Ok.ensures.ok spec speaks) suits.begun
    suits.allowed c.in-Ok.ensures.within c.in-Ok.ensures.over a)) c.answer-verdict.ensures
