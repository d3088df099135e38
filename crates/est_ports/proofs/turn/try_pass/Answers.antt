use Rattle.std.proofs.Common.{◌+◌, ◌≤◌, ap, ◌∙◌, arith}
use Rattle.std.proofs.Math.Logic.{∥∥₁_elim}
use Rattle.std.specs.Coded.{le_prop}
use Rattle.est_meaning.specs.AllowedEvents.{most_events}
use Rattle.est_meaning.specs.OutsideEvents.{later}
use Rattle.est_meaning.specs.SituationStacks.{pushed}
use Rattle.est_ports.proofs.TakeCalls.{time_there, time_fits, time_few, pass_call}
use Rattle.est_ports.proofs.VerdictLaws.{if_ok}
use Rattle.est_ports.proofs.turn.try_pass.Goals as goal

pub returns-in_default-clause-ok : goal.returns-in_default-clause-ok
returns-in_default-clause-ok g c spec speaks = absurd (time_there (g.setup spec) spec
    (g.W.World.limit c.args.world.now) c.args.task.now.silent
    c.args.task.now.lists.now (g.W.World.stack c.args.world.now spec)
    c.args.walk.now (c.requires.1 spec speaks) c.in_default.ensures.none)

pub pass-requires : goal.pass-requires
pass-requires g c spec speaks =
    let le = time_fits (g.setup spec) spec (g.W.World.limit c.args.world.now) c.args.task.now.silent
    c.args.task.now.lists.now (g.W.World.stack c.args.world.now spec)
    c.args.walk.now (c.requires.1 spec speaks) c.in-Some.units c.in-Some.ensures.some in
    let same = c.from.ensures in
    omega arith

pub overflow_add-matched : goal.overflow_add-matched
overflow_add-matched g c =
    let le : c.args.walk.now.path.top.matched + 1 ≤ most_events =
    ∥∥₁_elim (g.met.W.World.spoken c.args.world.now) le_prop (λ s.
    time_few (g.setup s.0) s.0 (g.W.World.limit c.args.world.now)
    c.args.task.now.silent c.args.task.now.lists.now (g.W.World.stack c.args.world.now s.0)
    c.args.walk.now (c.requires.1 s.0 s.1) c.in-Some.units c.in-Some.ensures.some) in
    omega arith

pub returns-clause-ok : goal.returns-clause-ok
returns-clause-ok g c = if_ok c.go_on.result (λ step h spec speaks.
    let stack = g.W.World.stack c.args.world.now spec in
    pass_call (g.setup spec) spec (g.W.World.limit c.args.world.now) c.args.task.now.silent
    c.args.task.now.lists.now (g.W.World.stack c.args.world.now spec)
    c.args.walk.now (c.requires.1 spec speaks) c.in-Some.units c.in-Some.ensures.some
    (g.W.World.stack c.pass.new.self spec) c.pass-2.new.self c.go_on.new.walk step
    (c.in_ok-pass.ensures.ok spec speaks
    ∙ ap (λ n. pushed (later stack.now n) stack) c.from.ensures)
    c.in_ok-pass-2.ensures.used c.in_ok-pass-2.ensures.stands h) c.go_on.ensures.gone
