use Rattle.std.proofs.Common.{◌+◌, ◌≤◌, arith}
use Rattle.std.proofs.Math.Logic.{∥∥₁_elim}
use Rattle.std.specs.Coded.{le_prop}
use Rattle.est_meaning.specs.AllowedEvents.{most_events}
use Rattle.est_ports.proofs.TakeCalls.{arrival_there, arrival_allowed, arrival_few, take_call}
use Rattle.est_ports.proofs.VerdictLaws.{if_ok}
use Rattle.est_ports.proofs.turn.try_take.Goals as goal

pub returns-in_default-clause-ok : goal.returns-in_default-clause-ok
returns-in_default-clause-ok g c spec speaks = absurd (arrival_there (g.setup spec) spec
    (g.W.World.limit c.args.world.now) c.args.task.now.silent
    c.args.task.now.lists.now (g.W.World.stack c.args.world.now spec)
    c.args.walk.now c.args.port (c.requires.1 spec speaks) c.in_default.ensures.none)

pub arrive-requires : goal.arrive-requires
arrive-requires g c spec speaks = arrival_allowed (g.setup spec) spec (g.W.World.limit
    c.args.world.now) c.args.task.now.silent
    c.args.task.now.lists.now (g.W.World.stack c.args.world.now spec)
    c.args.walk.now c.args.port (c.requires.1 spec speaks) c.in-Some.event.now
    c.in-Some.ensures.some

pub overflow_add-matched : goal.overflow_add-matched
overflow_add-matched g c =
    let le : c.args.walk.now.path.top.matched + 1 ≤ most_events =
    ∥∥₁_elim (g.met.W.World.spoken c.args.world.now) le_prop (λ s.
    arrival_few (g.setup s.0) s.0 (g.W.World.limit c.args.world.now)
    c.args.task.now.silent c.args.task.now.lists.now (g.W.World.stack c.args.world.now s.0)
    c.args.walk.now c.args.port (c.requires.1 s.0 s.1) c.in-Some.event.now c.in-Some.ensures.some)
    in
    omega arith

pub returns-clause-ok : goal.returns-clause-ok
returns-clause-ok g c = if_ok c.go_on.result (λ step h spec speaks.
    take_call (g.setup spec) spec (g.W.World.limit c.args.world.now) c.args.task.now.silent
    c.args.task.now.lists.now (g.W.World.stack c.args.world.now spec)
    c.args.walk.now c.args.port (c.requires.1 spec speaks) c.in-Some.event.now
    c.in-Some.ensures.some
    (g.W.World.stack c.arrive.new.self spec) c.take.new.self c.go_on.new.walk step
    (c.in_ok-arrive.ensures.ok spec speaks) c.in_ok-take.ensures.used c.in_ok-take.ensures.stands h)
    c.go_on.ensures.gone
