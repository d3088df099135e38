use Rattle.std.proofs.Common.{◌+◌, refl, arith}
use Rattle.std.proofs.Math.Logic.{∥∥₁_elim}
use Rattle.std.specs.Coded.{le_prop}
use Rattle.est_meaning.specs.mean_blocks.TextByPlace.{text_of}
use Rattle.est_meaning.proofs.Endings.{ends_again}
use Rattle.est_search.proofs.CallLaws.{possible_call, many_trying, trying_within, on_err}
use Rattle.est_search.proofs.CallLaws.{fault_call, limit_call, off_call, landed_call}
use Rattle.est_search.proofs.turn.try_firing.Goals as goal

pub fire-requires-clause-possible : goal.fire-requires-clause-possible
fire-requires-clause-possible g c spec speaks =
    possible_call (g.setup spec) spec (g.W.World.limit c.args.world.now) c.args.task.now.silent
    c.args.task.now.trace.now (g.W.World.stack c.args.world.now spec) c.args.walk.now c.args.firing
    (c.requires.1.1.1.1 spec speaks)

pub returns-in_err-fault-clause-many : goal.returns-in_err-fault-clause-many
returns-in_err-fault-clause-many g c = on_err c.from_residual.result (λ spec speaks.
    many_trying (g.setup spec) spec (g.W.World.limit c.args.world.now) c.args.task.now.silent
    c.args.task.now.trace.now (g.W.World.stack c.args.world.now spec) c.args.walk.now c.args.firing
    (c.requires.1.1.1.1 spec speaks))

pub returns-in_err-fault-in-Fault-clause-many : goal.returns-in_err-fault-in-Fault-clause-many
returns-in_err-fault-in-Fault-clause-many g c = on_err c.from_residual-in_err-fault-in-Fault.result
    (λ spec speaks.
    many_trying (g.setup spec) spec (g.W.World.limit c.args.world.now) c.args.task.now.silent
    c.args.task.now.trace.now (g.W.World.stack c.args.world.now spec) c.args.walk.now c.args.firing
    (c.requires.1.1.1.1 spec speaks))

pub returns-in_err-pass-in-Limit-clause-many : goal.returns-in_err-pass-in-Limit-clause-many
returns-in_err-pass-in-Limit-clause-many g c = on_err c.from_residual-in_err-pass-in-Limit.result
    (λ spec speaks.
    many_trying (g.setup spec) spec (g.W.World.limit c.args.world.now) c.args.task.now.silent
    c.args.task.now.trace.now (g.W.World.stack c.args.world.now spec) c.args.walk.now c.args.firing
    (c.requires.1.1.1.1 spec speaks))

pub land-requires-clause-within : goal.land-requires-clause-within
land-requires-clause-within g c = ∥∥₁_elim (g.met.W.World.spoken c.args.world.now) le_prop (λ s.
    (let le = trying_within (g.setup s.0) s.0 (g.W.World.limit c.args.world.now)
    c.args.task.now.silent c.args.task.now.trace.now (g.W.World.stack c.args.world.now s.0)
    c.args.walk.now c.args.firing (c.requires.1.1.1.1 s.0 s.1) in
    omega arith))

pub returns-in_err-land-in-Done-clause-many : goal.returns-in_err-land-in-Done-clause-many
returns-in_err-land-in-Done-clause-many g c = on_err c.from_residual-in_err-land-in-Done.result
    (λ spec speaks. rw c.in_err-land-in-Done.ensures.tried
    (many_trying (g.setup spec) spec (g.W.World.limit c.args.world.now) c.args.task.now.silent
    c.args.task.now.trace.now (g.W.World.stack c.args.world.now spec) c.args.walk.now c.args.firing
    (c.requires.1.1.1.1 spec speaks)))

pub returns-in_ok-fault-in-Fault-clause-ok : goal.returns-in_ok-fault-in-Fault-clause-ok
returns-in_ok-fault-in-Fault-clause-ok g c spec speaks =
    let w = c.args.walk.now in
    fault_call (g.setup spec) spec (g.W.World.limit c.args.world.now) c.args.task.now.silent
    c.args.task.now.trace.now (g.W.World.stack c.args.world.now spec) w c.args.firing
    (c.requires.1.1.1.1 spec speaks) (g.W.World.stack c.fire.new.self spec)
    (record w { tried = w.tried + 1; notes = c.fault.new.self; outs = c.fire.new.outs })
    c.in-Fault.fault c.fire.new.outs.items
    (rw c.in-Fault.is at (c.in_ok-fault.ensures.answer spec speaks)) refl refl refl
    (rw c.deref.ensures.value at c.in_ok-fault-in-Fault.ensures)

pub returns-in_ok-pass-in-Limit-clause-ok : goal.returns-in_ok-pass-in-Limit-clause-ok
returns-in_ok-pass-in-Limit-clause-ok g c spec speaks =
    let w = c.args.walk.now in
    limit_call (g.setup spec) spec (g.W.World.limit c.args.world.now) c.args.task.now.silent
    c.args.task.now.trace.now (g.W.World.stack c.args.world.now spec) w c.args.firing
    (c.requires.1.1.1.1 spec speaks) (g.W.World.stack c.fire.new.self spec)
    (record w { tried = w.tried + 1; notes = c.pass.new.self; outs = c.fire.new.outs })
    c.fire.new.outs.items
    (rw c.in-Limit.is at (c.in_ok-fault.ensures.answer spec speaks)) refl refl refl
    (rw c.deref-in-Limit.ensures.value at c.in_ok-pass-in-Limit.ensures)

pub returns-in-Off-clause-ok : goal.returns-in-Off-clause-ok
returns-in-Off-clause-ok g c spec speaks =
    let w = c.args.walk.now in
    off_call (g.setup spec) spec (g.W.World.limit c.args.world.now) c.args.task.now.silent
    c.args.task.now.trace.now (g.W.World.stack c.args.world.now spec) w c.args.firing
    (c.requires.1.1.1.1 spec speaks)
    (record w { tried = w.tried + 1; outs = c.fire.new.outs })
    (g.W.World.stack c.fire.new.self spec) refl refl refl refl
    (rw c.in-Done.is at (c.in_ok-fault.ensures.answer spec speaks)) c.land.new.walk
    c.in_ok-land-in-Done.ensures.tried (g.W.World.stack c.back.new.self spec)
    (c.back.ensures.stack spec (c.in_ok-fault.ensures.keeps.forward spec speaks))
    (rw c.in-Off.is at c.in_ok-land-in-Done.ensures.landed)

pub returns-in_err-found-in-On-clause-many : goal.returns-in_err-found-in-On-clause-many
returns-in_err-found-in-On-clause-many g c = on_err c.from_residual-in_err-found-in-On.result
    (λ spec speaks. rw c.in_ok-land-in-Done.ensures.tried
    (many_trying (g.setup spec) spec (g.W.World.limit c.args.world.now) c.args.task.now.silent
    c.args.task.now.trace.now (g.W.World.stack c.args.world.now spec) c.args.walk.now c.args.firing
    (c.requires.1.1.1.1 spec speaks)))

pub returns-in_ok-found-in-On-clause-ok : goal.returns-in_ok-found-in-On-clause-ok
returns-in_ok-found-in-On-clause-ok g c spec speaks =
    let world = g.W.World in
    let trace = c.args.task.now.trace.now in
    let w = c.args.walk.now in
    let keeps = c.in_ok-fault.ensures.keeps in
    let there = keeps.forward spec speaks in
    let again = c.in_ok-found-in-On.ensures.stack spec there in
    landed_call (g.setup spec) spec (world.limit c.args.world.now) c.args.task.now.silent trace
    (world.stack c.args.world.now spec) w c.args.firing (c.requires.1.1.1.1 spec speaks)
    (record w { tried = w.tried + 1; outs = c.fire.new.outs })
    (world.stack c.fire.new.self spec) refl refl refl refl
    (rw c.in-Done.is at (c.in_ok-fault.ensures.answer spec speaks)) c.land.new.walk
    c.in_ok-land-in-Done.ensures.tried (world.stack c.ends_at.new.world spec)
    c.in_ok-found-in-On.found again (rw c.in-On.is at c.in_ok-land-in-Done.ensures.landed)
    (ends_again trace (world.limit c.args.world.now) (world.limit c.fire.new.self) (text_of spec)
    (world.stack c.fire.new.self spec) (world.stack c.ends_at.new.world spec)
    c.land.new.walk.path.top.matched c.in_ok-found-in-On.found keeps.limit_is again
    (c.in_ok-found-in-On.ensures.ends spec there))
