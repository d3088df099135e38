use Rattle.std.proofs.Common.{◌≡◌, ◌≤◌, ◌<◌, ◌+◌, ◌^◌, length, refl, sym, subst, arith}
use Rattle.std.proofs.Math.Logic.{∥∥₁_elim}
use Rattle.std.specs.Coded.{le_prop}
use Rattle.est_meaning.specs.mean_blocks.TextByPlace.{text_of}
use Rattle.est_meaning.specs.AllowedEvents.{IsAllowed}
use Rattle.est_meaning.specs.OutsideEvents.{units_of, after_event}
use Rattle.est_meaning.specs.Run.{IsFromOutside}
use Rattle.est_meaning.specs.SituationStacks.{pushed}
use Rattle.run_paths.specs.declared.path.Stage.TheVariants.{Taken}
use Rattle.run_paths.specs.Paths.{view_of}
use Rattle.est_watch.proofs.CallLaws.{next_left, next_allowed, time_fits, skip_call, take_more}
use Rattle.est_watch.proofs.CallLaws.{take_last, load_taken, drop_past}
use Rattle.est_watch.proofs.turn.take_next.Goals as goal

pub bounds-task-matched : goal.bounds-task-matched
bounds-task-matched g c = ∥∥₁_elim (g.met.W.World.spoken c.args.world.now) le_prop (λ s.
    next_left (g.setup s.0) c.args.task.now.exact s.0 (g.W.World.limit c.args.world.now)
    c.args.task.now.silent c.args.task.now.given.now (g.W.World.stack c.args.world.now s.0)
    c.args.walk.now (c.requires.1.1.1 s.0 s.1))

pub happen-requires-clause-allowed : goal.happen-requires-clause-allowed
happen-requires-clause-allowed g c spec speaks =
    subst (IsAllowed spec) c.index-task-matched.is
    (next_allowed (g.setup spec) c.args.task.now.exact spec (g.W.World.limit c.args.world.now)
    c.args.task.now.silent c.args.task.now.given.now (g.W.World.stack c.args.world.now spec)
    c.args.walk.now (c.requires.1.1.1 spec speaks) c.index-task-matched.result
    (sym c.index-task-matched.is))

pub happen-requires-clause-time : goal.happen-requires-clause-time
happen-requires-clause-time g c spec speaks =
    subst (λ e. IsFromOutside e
    → (g.W.World.stack c.args.world.now spec).now.clock + units_of e ≤ 10 ^ 15)
    c.index-task-matched.is
    (time_fits (g.setup spec) c.args.task.now.exact spec (g.W.World.limit c.args.world.now)
    c.args.task.now.silent c.args.task.now.given.now (g.W.World.stack c.args.world.now spec)
    c.args.walk.now (c.requires.1.1.1 spec speaks) c.index-task-matched.result
    (sym c.index-task-matched.is))

-- it does not come from outside
pub returns-then-not-branch-clause-ok : goal.returns-then-not-branch-clause-ok
returns-then-not-branch-clause-ok g c spec speaks =
    let w = c.args.walk.now in
    skip_call (g.setup spec) c.args.task.now.exact spec (g.W.World.limit c.args.world.now)
    c.args.task.now.silent c.args.task.now.given.now (g.W.World.stack c.args.world.now spec)
    w (c.requires.1.1.1 spec speaks) c.index-task-matched.result (sym c.index-task-matched.is)
    c.requires.1.0 (g.W.World.stack c.happen.new.world spec)
    (record w { path = record w.path { stage = Taken } })
    (subst (λ e. IsFromOutside e → ⊥) (sym c.index-task-matched.is)
    (rw c.if-not-branch.true at c.in_ok-happen.ensures.outside))
    (rw c.if-not-branch.true at (c.in_ok-happen.ensures.happened spec speaks)) refl refl refl

pub overflow_add-matched : goal.overflow_add-matched
overflow_add-matched g c =
    let lt : c.args.walk.now.path.top.matched < length c.args.task.now.given.now =
    ∥∥₁_elim (g.met.W.World.spoken c.args.world.now) le_prop (λ s.
    next_left (g.setup s.0) c.args.task.now.exact s.0
    (g.W.World.limit c.args.world.now) c.args.task.now.silent c.args.task.now.given.now
    (g.W.World.stack c.args.world.now s.0) c.args.walk.now (c.requires.1.1.1 s.0 s.1)) in
    let few = c.requires.1.1.0 in
    omega arith

pub returns-else-matched-task-clause-load : goal.returns-else-matched-task-clause-load
returns-else-matched-task-clause-load g c =
    let lt : c.args.walk.now.path.top.matched < length c.args.task.now.given.now =
    ∥∥₁_elim (g.met.W.World.spoken c.args.world.now) le_prop (λ s.
    next_left (g.setup s.0) c.args.task.now.exact s.0
    (g.W.World.limit c.args.world.now) c.args.task.now.silent c.args.task.now.given.now
    (g.W.World.stack c.args.world.now s.0) c.args.walk.now (c.requires.1.1.1 s.0 s.1)) in
    load_taken (length c.args.task.now.given.now) (view_of c.args.walk.now.path)
    (view_of c.enter.new.self) c.requires.1.0 lt c.in_ok-enter.ensures

pub returns-then-matched-task-clause-ok : goal.returns-then-matched-task-clause-ok
returns-then-matched-task-clause-ok g c spec speaks =
    let w = c.args.walk.now in
    let stack = g.W.World.stack c.args.world.now spec in
    take_more (g.setup spec) c.args.task.now.exact spec (g.W.World.limit c.args.world.now)
    c.args.task.now.silent c.args.task.now.given.now stack w (c.requires.1.1.1 spec speaks)
    c.index-task-matched.result (sym c.index-task-matched.is) c.requires.1.0
    (g.W.World.stack c.happen.new.world spec)
    (record w { path = c.enter.new.self; used = c.len-walk.result })
    (subst IsFromOutside (sym c.index-task-matched.is)
    (rw c.if-not-branch.false at c.in_ok-happen.ensures.outside))
    (subst (λ e. g.W.World.stack c.happen.new.world spec
    ≡ pushed (after_event (text_of spec) stack.now e) stack) (sym c.index-task-matched.is)
    (rw c.if-not-branch.false at (c.in_ok-happen.ensures.happened spec speaks)))
    c.in_ok-enter.ensures refl refl
    (drop_past c.len-walk.result w.outs.items
    (let n = c.len-walk.ensures in omega (arith, w.outs.ok.0)))
    c.if-matched-task.true

pub returns-else-matched-task-clause-ok : goal.returns-else-matched-task-clause-ok
returns-else-matched-task-clause-ok g c spec speaks =
    let w = c.args.walk.now in
    let stack = g.W.World.stack c.args.world.now spec in
    take_last (g.setup spec) c.args.task.now.exact spec (g.W.World.limit c.args.world.now)
    c.args.task.now.silent c.args.task.now.given.now stack w (c.requires.1.1.1 spec speaks)
    c.index-task-matched.result (sym c.index-task-matched.is) c.requires.1.0
    (g.W.World.stack c.happen.new.world spec)
    (record w { path = c.enter.new.self; used = c.len-walk.result })
    (subst IsFromOutside (sym c.index-task-matched.is)
    (rw c.if-not-branch.false at c.in_ok-happen.ensures.outside))
    (subst (λ e. g.W.World.stack c.happen.new.world spec
    ≡ pushed (after_event (text_of spec) stack.now e) stack) (sym c.index-task-matched.is)
    (rw c.if-not-branch.false at (c.in_ok-happen.ensures.happened spec speaks)))
    c.in_ok-enter.ensures refl refl
    (drop_past c.len-walk.result w.outs.items
    (let n = c.len-walk.ensures in omega (arith, w.outs.ok.0)))
    c.if-matched-task.false
