use Rattle.std.proofs.Common.{◌≡◌, ◌≤◌, ◌<◌, ◌+◌, get_or, length, refl, sym, subst, ◌∙◌, arith}
use Rattle.est_meaning.specs.mean_blocks.TextByPlace.{text_of}
use Rattle.est_meaning.specs.declared.run.Move.TheVariants.{Take}
use Rattle.est_meaning.proofs.Endings.{ends_again}
use Rattle.est_meaning.proofs.Takings.{IsKnownOutside, unknown_stays}
use Rattle.run_paths.specs.declared.path.Stage.TheVariants.{Taken}
use Rattle.run_paths.specs.Paths.{HasReached}
use Rattle.est_search.proofs.CallLaws.{next_allowed, time_fits, past_call, skip_call, take_call}
use Rattle.est_search.proofs.turn.take_next.Goals as goal

-- nothing is left
pub returns-then-matched-trace-clause-ok : goal.returns-then-matched-trace-clause-ok
returns-then-matched-trace-clause-ok g c spec speaks =
    let trace = c.args.task.now.trace.now in
    let w = c.args.walk.now in
    let stack = g.W.World.stack c.args.world.now spec in
    past_call (g.setup spec) spec (g.W.World.limit c.args.world.now) c.args.task.now.silent trace
    stack w (c.requires.1.1.1 spec speaks) c.requires.1.0
    (subst (λ es. length es ≤ w.path.top.matched) (c.as_slice-trace.ensures ∙ c.events.ensures)
    c.if-matched-trace.true) stack (record w { path = record w.path { stage = Taken } }) refl refl
    refl refl refl

pub happen-requires-clause-allowed : goal.happen-requires-clause-allowed
happen-requires-clause-allowed g c spec speaks =
    let trace = c.args.task.now.trace.now in
    let w = c.args.walk.now in
    let at = w.path.top.matched in
    let x = c.index-trace-matched.result in
    let same = c.as_slice-trace.ensures ∙ c.events.ensures in
    next_allowed (g.setup spec) spec (g.W.World.limit c.args.world.now) c.args.task.now.silent trace
    (g.W.World.stack c.args.world.now spec) w (c.requires.1.1.1 spec speaks)
    (subst (λ es. at < length es) same c.if-matched-trace.false) x c.in-Known.event
    (subst (λ es. get_or es at x ≡ x) same (sym c.index-trace-matched.is)) c.in-Known.is

pub happen-requires-clause-time : goal.happen-requires-clause-time
happen-requires-clause-time g c spec speaks =
    let trace = c.args.task.now.trace.now in
    let w = c.args.walk.now in
    let at = w.path.top.matched in
    let x = c.index-trace-matched.result in
    let same = c.as_slice-trace.ensures ∙ c.events.ensures in
    time_fits (g.setup spec) spec (g.W.World.limit c.args.world.now) c.args.task.now.silent trace
    (g.W.World.stack c.args.world.now spec) w (c.requires.1.1.1 spec speaks) c.requires.1.0
    (subst (λ es. at < length es) same c.if-matched-trace.false) x
    (subst (λ es. get_or es at x ≡ x) same (sym c.index-trace-matched.is)) c.in-Known.event
    c.in-Known.is

-- it was seen in part
pub returns-in_default-clause-ok : goal.returns-in_default-clause-ok
returns-in_default-clause-ok g c spec speaks =
    let trace = c.args.task.now.trace.now in
    let w = c.args.walk.now in
    let at = w.path.top.matched in
    let x = c.index-trace-matched.result in
    let same = c.as_slice-trace.ensures ∙ c.events.ensures in
    skip_call (g.setup spec) spec (g.W.World.limit c.args.world.now) c.args.task.now.silent trace
    (g.W.World.stack c.args.world.now spec) w (c.requires.1.1.1 spec speaks) c.requires.1.0
    (subst (λ es. at < length es) same c.if-matched-trace.false) x
    (subst (λ es. get_or es at x ≡ x) same (sym c.index-trace-matched.is))
    (g.W.World.stack c.args.world.now spec)
    (record w { path = record w.path { stage = Taken } })
    (unknown_stays x c.in_default.not-Known) refl refl refl refl refl

-- it does not come from outside
pub returns-then-not-branch-clause-ok : goal.returns-then-not-branch-clause-ok
returns-then-not-branch-clause-ok g c spec speaks =
    let trace = c.args.task.now.trace.now in
    let w = c.args.walk.now in
    let at = w.path.top.matched in
    let x = c.index-trace-matched.result in
    let same = c.as_slice-trace.ensures ∙ c.events.ensures in
    let inside = rw c.if-not-branch.true at c.in_ok-happen.ensures.outside in
    skip_call (g.setup spec) spec (g.W.World.limit c.args.world.now) c.args.task.now.silent trace
    (g.W.World.stack c.args.world.now spec) w (c.requires.1.1.1 spec speaks) c.requires.1.0
    (subst (λ es. at < length es) same c.if-matched-trace.false) x
    (subst (λ es. get_or es at x ≡ x) same (sym c.index-trace-matched.is))
    (g.W.World.stack c.happen.new.world spec)
    (record w { path = record w.path { stage = Taken } })
    (λ k. inside (subst IsKnownOutside c.in-Known.is k))
    (rw c.if-not-branch.true at (c.in_ok-happen.ensures.happened spec speaks)) refl refl refl refl

pub returns-clause-ok : goal.returns-clause-ok
returns-clause-ok g c spec speaks =
    let world = g.W.World in
    let trace = c.args.task.now.trace.now in
    let w = c.args.walk.now in
    let at = w.path.top.matched in
    let x = c.index-trace-matched.result in
    let same = c.as_slice-trace.ensures ∙ c.events.ensures in
    let there = c.in_ok-happen.ensures.keeps.forward spec speaks in
    let again = c.in_ok-found.ensures.stack spec there in
    let made : c.len.result ≡ length w.path.moves.items =
    (let n = c.len.ensures in omega (arith, w.path.moves.ok.0)) in
    take_call (g.setup spec) spec (world.limit c.args.world.now) c.args.task.now.silent trace
    (world.stack c.args.world.now spec) w (c.requires.1.1.1 spec speaks) c.requires.1.0
    (subst (λ es. at < length es) same c.if-matched-trace.false) x
    (subst (λ es. get_or es at x ≡ x) same (sym c.index-trace-matched.is))
    (world.stack c.ends_at.new.world spec)
    (record w { path = c.enter.new.self; best = c.reach.new.self }) c.in-Known.event c.in-Known.is
    (rw c.if-not-branch.false at c.in_ok-happen.ensures.outside)
    (again ∙ rw c.if-not-branch.false at (c.in_ok-happen.ensures.happened spec speaks))
    (subst (λ n. HasReached w.best c.reach.new.self n Take (at + 1)) made c.in_ok-reach.ensures)
    c.in_ok-enter.ensures refl refl c.in_ok-found.found
    (ends_again trace (world.limit c.args.world.now) (world.limit c.happen.new.world) (text_of spec)
    (world.stack c.happen.new.world spec) (world.stack c.ends_at.new.world spec) (at + 1)
    c.in_ok-found.found c.in_ok-happen.ensures.keeps.limit_is again
    (c.in_ok-found.ensures.ends spec there))
