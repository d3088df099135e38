use Rattle.std.proofs.Common.{◌+◌, true, refl, arith}
use Rattle.std.proofs.Math.Logic.{∥∥₁_elim}
use Rattle.std.specs.Coded.{le_prop}
use Rattle.est_search.proofs.CallLaws.{on_err}
use Rattle.est_watch.proofs.CallLaws.{possible_call, trying_many, trying_within, fault_call}
use Rattle.est_watch.proofs.CallLaws.{limit_call, off_call, on_call, found_call}
use Rattle.est_watch.proofs.turn.try_firing.Goals as goal

pub fire-requires-clause-possible : goal.fire-requires-clause-possible
fire-requires-clause-possible g c spec speaks =
    possible_call (g.setup spec) c.args.task.now.exact spec (g.W.World.limit c.args.world.now)
    c.args.task.now.silent c.args.task.now.given.now (g.W.World.stack c.args.world.now spec)
    c.args.walk.now c.args.firing (c.requires.1.1.1.1 spec speaks)

pub returns-in_err-fire-clause-many : goal.returns-in_err-fire-clause-many
returns-in_err-fire-clause-many g c = on_err c.from_residual.result (λ spec speaks.
    trying_many (g.setup spec) c.args.task.now.exact spec (g.W.World.limit c.args.world.now)
    c.args.task.now.silent c.args.task.now.given.now (g.W.World.stack c.args.world.now spec)
    c.args.walk.now c.args.firing (c.requires.1.1.1.1 spec speaks))

pub returns-in-Fault-clause-ok : goal.returns-in-Fault-clause-ok
returns-in-Fault-clause-ok g c spec speaks =
    let w = c.args.walk.now in
    fault_call (g.setup spec) c.args.task.now.exact spec (g.W.World.limit c.args.world.now)
    c.args.task.now.silent c.args.task.now.given.now (g.W.World.stack c.args.world.now spec) w
    c.args.firing (c.requires.1.1.1.1 spec speaks) (g.W.World.stack c.fire.new.self spec)
    (record w { tried = w.tried + 1; outs = c.fire.new.outs }) _ c.fire.new.outs.items
    (rw c.in-Fault.is at (c.in_ok-fire.ensures.answer spec speaks)) refl refl refl

pub returns-in-Limit-clause-ok : goal.returns-in-Limit-clause-ok
returns-in-Limit-clause-ok g c spec speaks =
    let w = c.args.walk.now in
    limit_call (g.setup spec) c.args.task.now.exact spec (g.W.World.limit c.args.world.now)
    c.args.task.now.silent c.args.task.now.given.now (g.W.World.stack c.args.world.now spec) w
    c.args.firing (c.requires.1.1.1.1 spec speaks) (g.W.World.stack c.fire.new.self spec)
    (record w { tried = w.tried + 1; passed = true; outs = c.fire.new.outs }) c.fire.new.outs.items
    (rw c.in-Limit.is at (c.in_ok-fire.ensures.answer spec speaks)) refl refl refl

pub land-requires-clause-within : goal.land-requires-clause-within
land-requires-clause-within g c = ∥∥₁_elim (g.met.W.World.spoken c.args.world.now) le_prop (λ s.
    (let le = trying_within (g.setup s.0) c.args.task.now.exact s.0
    (g.W.World.limit c.args.world.now) c.args.task.now.silent c.args.task.now.given.now
    (g.W.World.stack c.args.world.now s.0) c.args.walk.now c.args.firing
    (c.requires.1.1.1.1 s.0 s.1) in
    omega arith))

pub returns-in_err-land-in-Done-clause-many : goal.returns-in_err-land-in-Done-clause-many
returns-in_err-land-in-Done-clause-many g c = on_err c.from_residual-in_err-land-in-Done.result
    (λ spec speaks. rw c.in_err-land-in-Done.ensures.tried
    (trying_many (g.setup spec) c.args.task.now.exact spec (g.W.World.limit c.args.world.now)
    c.args.task.now.silent c.args.task.now.given.now (g.W.World.stack c.args.world.now spec)
    c.args.walk.now c.args.firing (c.requires.1.1.1.1 spec speaks)))

pub returns-in-Off-clause-ok : goal.returns-in-Off-clause-ok
returns-in-Off-clause-ok g c spec speaks =
    let w = c.args.walk.now in
    off_call (g.setup spec) c.args.task.now.exact spec (g.W.World.limit c.args.world.now)
    c.args.task.now.silent c.args.task.now.given.now (g.W.World.stack c.args.world.now spec) w
    c.args.firing (c.requires.1.1.1.1 spec speaks)
    (record w { tried = w.tried + 1; outs = c.fire.new.outs })
    (g.W.World.stack c.fire.new.self spec) refl refl refl
    (rw c.in-Done.is at (c.in_ok-fire.ensures.answer spec speaks)) c.land.new.walk
    (g.W.World.stack c.back.new.self spec)
    (c.back.ensures.stack spec (c.in_ok-fire.ensures.keeps.forward spec speaks))
    (rw c.in-Off.is at c.in_ok-land-in-Done.ensures.landed)

pub returns-in-On-clause-ok : goal.returns-in-On-clause-ok
returns-in-On-clause-ok g c spec speaks =
    let w = c.args.walk.now in
    on_call (g.setup spec) c.args.task.now.exact spec (g.W.World.limit c.args.world.now)
    c.args.task.now.silent c.args.task.now.given.now (g.W.World.stack c.args.world.now spec) w
    c.args.firing (c.requires.1.1.1.1 spec speaks)
    (record w { tried = w.tried + 1; outs = c.fire.new.outs })
    (g.W.World.stack c.fire.new.self spec) refl refl refl
    (rw c.in-Done.is at (c.in_ok-fire.ensures.answer spec speaks)) c.land.new.walk
    (rw c.in-On.is at c.in_ok-land-in-Done.ensures.landed)

pub returns-in-Found-clause-ok : goal.returns-in-Found-clause-ok
returns-in-Found-clause-ok g c spec speaks =
    let w = c.args.walk.now in
    found_call (g.setup spec) c.args.task.now.exact spec (g.W.World.limit c.args.world.now)
    c.args.task.now.silent c.args.task.now.given.now (g.W.World.stack c.args.world.now spec) w
    c.args.firing (c.requires.1.1.1.1 spec speaks)
    (record w { tried = w.tried + 1; outs = c.fire.new.outs })
    (g.W.World.stack c.fire.new.self spec) refl refl refl
    (rw c.in-Done.is at (c.in_ok-fire.ensures.answer spec speaks)) c.land.new.walk
    (rw c.in-Found.is at c.in_ok-land-in-Done.ensures.landed)
