use Rattle.std.proofs.Common.{◌≤◌, length, subst, arith}
use Rattle.std.proofs.Math.Logic.{∥∥₁_elim}
use Rattle.std.specs.Coded.{le_prop}
use Rattle.est_meaning.specs.RecordedTraces.{Recorded}
use Rattle.est_search.proofs.StartLaws.{ready_at_start}
use Rattle.est_search.proofs.VerdictLaws.{answered, answered_tried, if_ok, done_yields}
use Rattle.est_search.proofs.explain.search_on.Goals as goal

pub walk_all-step-requires : goal.walk_all-step-requires
walk_all-step-requires g c κs within =
    let none = c.new-walk.ensures.tried in
    let room = c.requires.1.0 in (
      within,
      (
        omega arith,
        (
          omega arith,
          (
            c.requires.1.1.0,
            λ spec speaks. ready_at_start (g.setup spec) spec (g.W.World.limit c.args.world.now)
                c.args.task.now.silent c.args.task.now.trace.now
                (g.W.World.stack c.args.world.now spec) c.args.matched c.new-walk.result
                (c.requires.1.1.1 spec speaks) c.new-walk.ensures.path c.new-walk.ensures.best
                c.new-walk.ensures.common c.new-walk.ensures.tail c.new-walk.ensures.notes
                c.new-walk.ensures.tried,
          ),
        ),
      ),
    )

pub answer-requires-clause-few : goal.answer-requires-clause-few
answer-requires-clause-few g c e = ∥∥₁_elim (g.met.W.World.spoken c.args.world.now) le_prop (λ s.
    (let setup = g.setup s.0 in
    let short = c.requires.1.1.0 in
    let le = done_yields setup (g.W.World.stack c.walk_all-step.new.world s.0)
    c.walk_all-step.new.walk c.in-Ok.step e (c.in-Ok.ensures.ok s.0 s.1) in
    let le' : c.walk_all-step.new.walk.best.yields ≤ length c.args.task.now.trace.now.events =
    subst (λ (t : Recorded). c.walk_all-step.new.walk.best.yields ≤ length t.events)
    (c.requires.1.1.1 s.0 s.1).suits.trace_is le in
    omega arith))

pub returns-in-Ok-clause-verdict : goal.returns-in-Ok-clause-verdict
returns-in-Ok-clause-verdict g c = if_ok c.answer.result (λ verdict a spec speaks.
    answered (g.setup spec) (g.W.World.stack c.walk_all-step.new.world spec)
    c.walk_all-step.new.walk c.args.task.now.budget c.in-Ok.step verdict
    (c.in-Ok.ensures.ok spec speaks) c.in-Ok.ensures.within c.in-Ok.ensures.over a)
    c.answer.ensures

pub returns-in-Ok-clause-tried : goal.returns-in-Ok-clause-tried
returns-in-Ok-clause-tried g c = if_ok c.answer.result (λ verdict a spec speaks.
    answered_tried (g.setup spec) (g.W.World.stack c.walk_all-step.new.world spec)
    c.walk_all-step.new.walk c.args.task.now.budget c.in-Ok.step verdict _
    (c.in-Ok.ensures.ok spec speaks)
    (let all = c.in-Ok.ensures.fired in
    let same = c.rewind.ensures.fired in
    let none = c.new-walk.ensures.tried in
    omega arith) a) c.answer.ensures
