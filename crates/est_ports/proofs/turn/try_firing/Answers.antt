use Rattle.std.proofs.Common.{◌+◌, refl}
use Rattle.est_ports.proofs.FireCalls.{possible_call, many_trying, fault_call, limit_call, on_err}
use Rattle.est_ports.proofs.turn.try_firing.Goals as goal

pub fire-requires-clause-possible : goal.fire-requires-clause-possible
fire-requires-clause-possible g c spec speaks = possible_call (g.setup spec) spec (g.W.World.limit
    c.args.world.now) c.args.task.now.silent
    c.args.task.now.lists.now (g.W.World.stack c.args.world.now spec)
    c.args.walk.now c.args.firing (c.requires.1.1.1 spec speaks)

pub returns-in_err-fire-clause-many : goal.returns-in_err-fire-clause-many
returns-in_err-fire-clause-many g c = on_err c.from_residual.result (λ spec speaks.
    many_trying (g.setup spec) spec (g.W.World.limit c.args.world.now) c.args.task.now.silent
    c.args.task.now.lists.now (g.W.World.stack c.args.world.now spec)
    c.args.walk.now c.args.firing (c.requires.1.1.1 spec speaks))

pub returns-in_err-note-in-Limit-clause-many : goal.returns-in_err-note-in-Limit-clause-many
returns-in_err-note-in-Limit-clause-many g c = on_err c.from_residual-in_err-note-in-Limit.result
    (λ spec speaks. rw c.note.ensures.fires
    (many_trying (g.setup spec) spec (g.W.World.limit c.args.world.now) c.args.task.now.silent
    c.args.task.now.lists.now (g.W.World.stack c.args.world.now spec)
    c.args.walk.now c.args.firing (c.requires.1.1.1 spec speaks)))

pub returns-in-Fault-clause-ok : goal.returns-in-Fault-clause-ok
returns-in-Fault-clause-ok g c spec speaks =
    let w = c.args.walk.now in
    fault_call (g.setup spec) spec (g.W.World.limit c.args.world.now) c.args.task.now.silent
    c.args.task.now.lists.now (g.W.World.stack c.args.world.now spec)
    w c.args.firing (c.requires.1.1.1 spec speaks) _ c.fire.new.outs.items
    (g.W.World.stack c.fire.new.self spec)
    (record w { fired = w.fired + 1; outs = c.fire.new.outs })
    (rw c.in-Fault.is at (c.in_ok-fire.ensures.answer spec speaks)) refl refl refl refl refl refl
    refl

pub returns-in_ok-note-in-Limit-clause-ok : goal.returns-in_ok-note-in-Limit-clause-ok
returns-in_ok-note-in-Limit-clause-ok g c spec speaks =
    let w = c.args.walk.now in
    limit_call (g.setup spec) spec (g.W.World.limit c.args.world.now) c.args.task.now.silent
    c.args.task.now.lists.now (g.W.World.stack c.args.world.now spec)
    w c.args.firing (c.requires.1.1.1 spec speaks) c.fire.new.outs.items
    (g.W.World.stack c.fire.new.self spec) c.note.new.self
    (rw c.in-Limit.is at (c.in_ok-fire.ensures.answer spec speaks))
    (rw c.in_ok-note-in-Limit.ensures.noted refl) (rw c.in_ok-note-in-Limit.ensures.noted refl)
    (rw c.in_ok-note-in-Limit.ensures.noted refl) (rw c.in_ok-note-in-Limit.ensures.noted refl)
    (rw c.in_ok-note-in-Limit.ensures.noted refl) (rw c.in_ok-note-in-Limit.ensures.noted refl)
    (rw c.in_ok-note-in-Limit.ensures.noted refl)

pub returns-in-Done-clause-many : goal.returns-in-Done-clause-many
returns-in-Done-clause-many g c = on_err c.land.result (λ spec speaks.
    rw c.land.ensures.fires
    (many_trying (g.setup spec) spec (g.W.World.limit c.args.world.now) c.args.task.now.silent
    c.args.task.now.lists.now (g.W.World.stack c.args.world.now spec)
    c.args.walk.now c.args.firing (c.requires.1.1.1 spec speaks)))
