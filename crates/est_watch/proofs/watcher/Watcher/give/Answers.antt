use Rattle.std.proofs.Common.{◌<◌, ◌∙◌, false, refl, sym, subst, arith}
use Rattle.std.proofs.Math.Logic.{∥∥₁_elim}
use Rattle.std.specs.Coded.{le_prop}
use Rattle.est_meaning.specs.AllowedEvents.{most_events}
use Rattle.est_meaning.proofs.Endings.{not_true}
use Rattle.mean_watch.specs.declared.watched.Watched.TheVariants.{Possible}
use Rattle.mean_watch.specs.Watching.{IsWatched}
use Rattle.est_search.proofs.CallLaws.{on_err}
use Rattle.est_search.proofs.VerdictLaws.{if_ok}
use Rattle.est_watch.proofs.AnswerLaws.{watch_many}
use Rattle.est_watch.proofs.KeptLaws.{keeps_same, spent_watching, answered_watching, same_items}
use Rattle.est_watch.proofs.KeptLaws.{on_ok, few_more, size_more, suits_more, ready_more}
use Rattle.est_watch.proofs.KeptLaws.{leaving_more, stands_more, all_matched, one_used}
use Rattle.est_watch.proofs.WatcherLaws.{watched_by}
use Rattle.est_watch.proofs.watcher.Watcher.give.Goals as goal

-- there was no memory
pub returns-in_err-push-clause-spent : goal.returns-in_err-push-clause-spent
returns-in_err-push-clause-spent g c =
    let t = c.args.self.now in
    let w = g.W.World in
    let watching = c.requires.1.1.1.1 in
    on_err c.from_residual.result (spent_watching w.speaks w.stack w.limit w.fired g.setup t
    watching (record t { given = c.push.new.self }) t.given.items
    (keeps_same w.speaks w.limit t.world) refl refl watching.within c.in_err-push.ensures.items
    watching.few (λ spec s. (watching.each spec s).size))

pub returns-in_err-push-2-clause-spent : goal.returns-in_err-push-2-clause-spent
returns-in_err-push-2-clause-spent g c =
    let t = c.args.self.now in
    let w = g.W.World in
    let watching = c.requires.1.1.1.1 in
    on_err c.from_residual-in_err-push-2.result (spent_watching w.speaks w.stack w.limit w.fired
    g.setup t watching (record t { given = c.push-2.new.self }) t.given.items
    (keeps_same w.speaks w.limit t.world) refl refl watching.within c.in_err-push-2.ensures.items
    watching.few (λ spec s. (watching.each spec s).size))

-- nothing more was sent
pub go_on-requires : goal.go_on-requires
go_on-requires g c κs within =
    let t = c.args.self.now in
    let w = g.W.World in
    let watching = c.requires.1.1.1.1 in
    let more = c.in_ok-push.ensures.items in (
      within,
      (
        watching.within,
        (
          watching.room,
          (
            few_more t c.args.event c.push.new.self.items more c.requires.1.1.0,
            λ spec s. ready_more (g.setup spec) spec (w.limit t.world) (w.stack t.world spec) t
                (watching.each spec s) c.requires.1.0 c.args.event c.push.new.self.items more
                (c.requires.1.1.1.0 spec s) c.requires.1.1.0
                (let n = c.len.ensures in omega (arith, t.walk.outs.ok.0)),
          ),
        ),
      ),
    )

pub returns-then-self-len-clause-watching : goal.returns-then-self-len-clause-watching
returns-then-self-len-clause-watching g c =
    let t = c.args.self.now in
    let w = g.W.World in
    let watching = c.requires.1.1.1.1 in
    let new = c.go_on.new.self in
    let given = c.push.new.self.items in
    let more = c.in_ok-push.ensures.items in
    if_ok c.go_on.result (λ answer ok. answered_watching w.speaks w.stack w.limit w.fired g.setup t
    watching new given c.go_on.ensures.keeps c.go_on.ensures.others.0 c.go_on.ensures.fired
    c.go_on.ensures.within
    (same_items new (record t { given = c.push.new.self }) c.go_on.ensures.others.1)
    (few_more t c.args.event given more c.requires.1.1.0)
    (λ spec s. watch_many (g.setup spec) given new.walk.tried (c.go_on.ensures.many spec s))
    (λ spec s. suits_more (g.setup spec) spec (w.limit t.world) (w.stack t.world spec) t
    (watching.each spec s) c.requires.1.0 c.args.event given more (c.requires.1.1.1.0 spec s)
    c.requires.1.1.0) answer ok) c.go_on.ensures.ok

pub returns-then-self-len-clause-spent : goal.returns-then-self-len-clause-spent
returns-then-self-len-clause-spent g c =
    let t = c.args.self.now in
    let w = g.W.World in
    let watching = c.requires.1.1.1.1 in
    let new = c.go_on.new.self in
    let given = c.push.new.self.items in
    let more = c.in_ok-push.ensures.items in
    on_err c.go_on.result (spent_watching w.speaks w.stack w.limit w.fired g.setup t watching new
    given c.go_on.ensures.keeps c.go_on.ensures.others.0 c.go_on.ensures.fired
    c.go_on.ensures.within
    (same_items new (record t { given = c.push.new.self }) c.go_on.ensures.others.1)
    (few_more t c.args.event given more c.requires.1.1.0)
    (λ spec s. watch_many (g.setup spec) given new.walk.tried (c.go_on.ensures.many spec s)))

pub returns-then-self-len-clause-given : goal.returns-then-self-len-clause-given
returns-then-self-len-clause-given g c = on_ok c.go_on.result
    (same_items c.go_on.new.self (record c.args.self.now { given = c.push.new.self })
    c.go_on.ensures.others.1 ∙ c.in_ok-push.ensures.items)

pub returns-then-self-len-clause-answer : goal.returns-then-self-len-clause-answer
returns-then-self-len-clause-answer g c =
    let t = c.args.self.now in
    let w = g.W.World in
    let new = c.go_on.new.self in
    if_ok c.go_on.result (λ answer ok spec s.
    subst (λ es. IsWatched (g.setup spec) t.limits.budget es answer) c.in_ok-push.ensures.items
    (watched_by (g.setup spec) c.push.new.self.items t.limits.budget (w.stack new.world spec)
    new.walk c.go_on.ensures.within answer (ok spec s))) c.go_on.ensures.ok

-- another event was sent
pub leave-requires : goal.leave-requires
leave-requires g c κs within =
    let t = c.args.self.now in
    let w = g.W.World in
    let watching = c.requires.1.1.1.1 in
    let given = c.push-2.new.self.items in
    let more = c.in_ok-push-2.ensures.items in (
      within,
      (
        watching.within,
        (
          watching.room,
          (
            few_more t c.args.event given more c.requires.1.1.0,
            (
              λ spec s. suits_more (g.setup spec) spec (w.limit t.world) (w.stack t.world spec) t
                  (watching.each spec s) c.requires.1.0 c.args.event given more
                  (c.requires.1.1.1.0 spec s) c.requires.1.1.0,
              λ spec s. leaving_more (g.setup spec) spec (w.limit t.world) (w.stack t.world spec) t
                  (watching.each spec s) c.requires.1.0 c.args.event given more
                  (let n = c.len.ensures in omega (arith, t.walk.outs.ok.0)) c.index.result.now
                  c.index.ensures (λ e. not_true (c.if-not-sent.ensures.1 (sym e))),
            ),
          ),
        ),
      ),
    )

pub returns-then-not-sent-clause-watching : goal.returns-then-not-sent-clause-watching
returns-then-not-sent-clause-watching g c =
    let t = c.args.self.now in
    let w = g.W.World in
    let watching = c.requires.1.1.1.1 in
    let new = c.leave.new.self in
    let given = c.push-2.new.self.items in
    let more = c.in_ok-push-2.ensures.items in
    if_ok c.leave.result (λ answer ok. answered_watching w.speaks w.stack w.limit w.fired g.setup t
    watching new given c.leave.ensures.keeps c.leave.ensures.others.0 c.leave.ensures.fired
    c.leave.ensures.within
    (same_items new (record t { given = c.push-2.new.self }) c.leave.ensures.others.1)
    (few_more t c.args.event given more c.requires.1.1.0)
    (λ spec s. watch_many (g.setup spec) given new.walk.tried (c.leave.ensures.many spec s))
    (λ spec s. suits_more (g.setup spec) spec (w.limit t.world) (w.stack t.world spec) t
    (watching.each spec s) c.requires.1.0 c.args.event given more (c.requires.1.1.1.0 spec s)
    c.requires.1.1.0) answer ok) c.leave.ensures.ok

pub returns-then-not-sent-clause-spent : goal.returns-then-not-sent-clause-spent
returns-then-not-sent-clause-spent g c =
    let t = c.args.self.now in
    let w = g.W.World in
    let watching = c.requires.1.1.1.1 in
    let new = c.leave.new.self in
    let given = c.push-2.new.self.items in
    let more = c.in_ok-push-2.ensures.items in
    on_err c.leave.result (spent_watching w.speaks w.stack w.limit w.fired g.setup t watching new
    given c.leave.ensures.keeps c.leave.ensures.others.0 c.leave.ensures.fired
    c.leave.ensures.within
    (same_items new (record t { given = c.push-2.new.self }) c.leave.ensures.others.1)
    (few_more t c.args.event given more c.requires.1.1.0)
    (λ spec s. watch_many (g.setup spec) given new.walk.tried (c.leave.ensures.many spec s)))

pub returns-then-not-sent-clause-given : goal.returns-then-not-sent-clause-given
returns-then-not-sent-clause-given g c = on_ok c.leave.result
    (same_items c.leave.new.self (record c.args.self.now { given = c.push-2.new.self })
    c.leave.ensures.others.1 ∙ c.in_ok-push-2.ensures.items)

pub returns-then-not-sent-clause-answer : goal.returns-then-not-sent-clause-answer
returns-then-not-sent-clause-answer g c =
    let t = c.args.self.now in
    let w = g.W.World in
    let new = c.leave.new.self in
    if_ok c.leave.result (λ answer ok spec s.
    subst (λ es. IsWatched (g.setup spec) t.limits.budget es answer) c.in_ok-push-2.ensures.items
    (watched_by (g.setup spec) c.push-2.new.self.items t.limits.budget (w.stack new.world spec)
    new.walk c.leave.ensures.within answer (ok spec s))) c.leave.ensures.ok

-- this event was sent
pub overflow_add-self-2 : goal.overflow_add-self-2
overflow_add-self-2 g c =
    let t = c.args.self.now in
    let few = c.requires.1.1.0 in
    let lt : t.walk.path.top.matched < most_events =
    ∥∥₁_elim (g.met.W.World.spoken t.world) le_prop (λ s.
    (let m = all_matched (g.setup s.0) t.given.items false (g.W.World.stack t.world s.0) t.walk
    ((c.requires.1.1.1.1.each s.0 s.1).stands c.requires.1.0) in
    omega arith)) in
    omega arith

pub returns-clause-watching : goal.returns-clause-watching
returns-clause-watching g c =
    let t = c.args.self.now in
    let w = g.W.World in
    let watching = c.requires.1.1.1.1 in
    let given = c.push-2.new.self.items in
    let more = c.in_ok-push-2.ensures.items in
    answered_watching w.speaks w.stack w.limit w.fired g.setup t watching
    (record t { given = c.push-2.new.self; walk = one_used t.walk }) given
    (keeps_same w.speaks w.limit t.world) refl refl watching.within refl
    (few_more t c.args.event given more c.requires.1.1.0)
    (λ spec s. size_more (g.setup spec) spec (w.limit t.world) (w.stack t.world spec) t
    (watching.each spec s) c.requires.1.0 c.args.event given more)
    (λ spec s. suits_more (g.setup spec) spec (w.limit t.world) (w.stack t.world spec) t
    (watching.each spec s) c.requires.1.0 c.args.event given more (c.requires.1.1.1.0 spec s)
    c.requires.1.1.0) Possible
    (λ spec s. stands_more (g.setup spec) spec (w.limit t.world) (w.stack t.world spec) t
    (watching.each spec s) c.requires.1.0 c.args.event given more
    (let n = c.len.ensures in omega (arith, t.walk.outs.ok.0)) c.index.result.now
    c.index.ensures (sym (c.if-not-sent.ensures.0 refl)))

pub returns-clause-answer : goal.returns-clause-answer
returns-clause-answer g c spec s =
    let t = c.args.self.now in
    let w = g.W.World in
    let watching = c.requires.1.1.1.1 in
    let given = c.push-2.new.self.items in
    let more = c.in_ok-push-2.ensures.items in
    subst (λ es. IsWatched (g.setup spec) t.limits.budget es Possible) more
    (watched_by (g.setup spec) given t.limits.budget (w.stack t.world spec) (one_used t.walk)
    watching.within Possible
    (stands_more (g.setup spec) spec (w.limit t.world) (w.stack t.world spec) t
    (watching.each spec s) c.requires.1.0 c.args.event given more
    (let n = c.len.ensures in omega (arith, t.walk.outs.ok.0)) c.index.result.now
    c.index.ensures (sym (c.if-not-sent.ensures.0 refl))))
