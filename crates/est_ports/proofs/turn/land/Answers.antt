use Rattle.std.proofs.Common.{◌≡◌, ◌+◌, ◌<◌, ◌≤◌, List, length, refl, subst, arith}
use Rattle.std.proofs.Math.Logic.{∥∥₁_elim}
use Rattle.std.specs.Coded.{le_prop}
use Rattle.est_meaning.specs.AllowedEvents.{most_events}
use Rattle.est_meaning.specs.Run.{silent_after}
use Rattle.est_meaning.specs.declared.event.Event.{Event}
use Rattle.mean_ports.specs.PortRuns.{Left}
use Rattle.est_ports.specs.inside.Leftover.{Stands, HasUsed}
use Rattle.est_ports.proofs.LandCalls.{silent_call, land_few, land_call}
use Rattle.est_ports.proofs.VerdictLaws.{if_ok}
use Rattle.est_ports.proofs.turn.land.Goals as goal

pub returns-in_default-clause-ok : goal.returns-in_default-clause-ok
returns-in_default-clause-ok g c spec speaks =
    let w = c.args.walk.now in
    let many : c.args.task.now.silent < silent_after w.path.top.silent w.outs.items =
    subst (λ (es : List Event). c.args.task.now.silent < silent_after w.path.top.silent es)
    c.deref.ensures.value c.in_default.ensures in
    silent_call (g.setup spec) spec (g.W.World.limit c.args.world.now) c.args.task.now.silent
    c.args.task.now.lists.now (g.W.World.stack c.args.world.now spec) w c.args.firing
    (c.requires.1 spec speaks) many (g.W.World.stack c.back.new.self spec)
    (c.back.ensures.stack spec speaks)

pub overflow_cast-matched-2 : goal.overflow_cast-matched-2
overflow_cast-matched-2 g c =
    let w = c.args.walk.now in
    let within : c.in_ok-many.many ≤ length w.outs.items =
    subst (λ (es : List Event). c.in_ok-many.many ≤ length es) c.deref-2.ensures.value
    c.in_ok-many.ensures.within in
    let uses : (left : Left) (events : List Event)
    → Stands c.args.task.now.lists.now w.rest left events
    → HasUsed c.args.task.now.lists.now c.use_up.new.self left events w.outs.items
    c.in_ok-many.many = subst (λ (es : List Event). (left : Left) (events : List Event)
    → Stands c.args.task.now.lists.now w.rest left events
    → HasUsed c.args.task.now.lists.now c.use_up.new.self left events es c.in_ok-many.many)
    c.deref-2.ensures.value c.in_ok-many.ensures.stands in
    let le : w.path.top.matched + c.in_ok-many.many ≤ most_events =
    ∥∥₁_elim (g.met.W.World.spoken c.args.world.now) le_prop (λ s.
    land_few (g.setup s.0) s.0 (g.W.World.limit c.args.world.now)
    c.args.task.now.silent c.args.task.now.lists.now (g.W.World.stack c.args.world.now s.0)
    w c.args.firing (c.requires.1 s.0 s.1) c.use_up.new.self c.in_ok-many.many within uses) in
    omega arith

pub depart-requires : goal.depart-requires
depart-requires g c κs within = (
  within,
  λ spec speaks.
      (let w = c.args.walk.now in
      let uses : (left : Left) (events : List Event)
      → Stands c.args.task.now.lists.now w.rest left events
      → HasUsed c.args.task.now.lists.now c.use_up.new.self left events w.outs.items
      c.in_ok-many.many = subst (λ (es : List Event). (left : Left) (events : List Event)
      → Stands c.args.task.now.lists.now w.rest left events
      → HasUsed c.args.task.now.lists.now c.use_up.new.self left events es c.in_ok-many.many)
      c.deref-2.ensures.value c.in_ok-many.ensures.stands in
      let row : c.in-Some.silent ≡ silent_after w.path.top.silent w.outs.items =
      subst (λ (es : List Event). c.in-Some.silent ≡ silent_after w.path.top.silent es)
      c.deref.ensures.value c.in-Some.ensures.0 in
      let most = c.in-Some.ensures.1 in
      let size = c.len.ensures in
      let lt = c.if-many-len.true in
      record {
        old = w;
        many = c.in_ok-many.many;
        fired = c.requires.1 spec speaks;
        few = omega arith;
        matched_is = refl;
        short = omega (arith, w.outs.ok.0);
        used = c.in_ok-many.ensures.used;
        uses = uses;
        others = refl;
      }),
)

pub returns-clause-ok : goal.returns-clause-ok
returns-clause-ok g c = if_ok c.go_on.result (λ step h spec speaks.
    (let w = c.args.walk.now in
    let m = c.in_ok-many.ensures.used in
    let within : c.in_ok-many.many ≤ length w.outs.items =
    subst (λ (es : List Event). c.in_ok-many.many ≤ length es) c.deref-2.ensures.value
    c.in_ok-many.ensures.within in
    let uses : (left : Left) (events : List Event)
    → Stands c.args.task.now.lists.now w.rest left events
    → HasUsed c.args.task.now.lists.now c.use_up.new.self left events w.outs.items
    c.in_ok-many.many = subst (λ (es : List Event). (left : Left) (events : List Event)
    → Stands c.args.task.now.lists.now w.rest left events
    → HasUsed c.args.task.now.lists.now c.use_up.new.self left events es c.in_ok-many.many)
    c.deref-2.ensures.value c.in_ok-many.ensures.stands in
    let row : c.in-Some.silent ≡ silent_after w.path.top.silent w.outs.items =
    subst (λ (es : List Event). c.in-Some.silent ≡ silent_after w.path.top.silent es)
    c.deref.ensures.value c.in-Some.ensures.0 in
    let most = c.in-Some.ensures.1 in
    let size = c.len.ensures in
    let ge = c.if-many-len.false in
    land_call (g.setup spec) spec (g.W.World.limit c.args.world.now) c.args.task.now.silent
    c.args.task.now.lists.now (g.W.World.stack c.args.world.now spec) w c.args.firing
    (c.requires.1 spec speaks) c.use_up.new.self c.in_ok-many.many within uses (omega arith)
    (omega (arith, w.outs.ok.0)) m.front m.count m.after_is
    (w.path.top.matched + c.in_ok-many.many) c.in-Some.silent refl row c.go_on.new.walk step h))
    c.go_on.ensures.gone
