use Rattle.std.proofs.Common.{refl, arith}
use Rattle.mean_watch.specs.declared.watched.Watched.TheVariants.{Possible}
use Rattle.est_search.proofs.CallLaws.{on_err}
use Rattle.est_search.proofs.VerdictLaws.{if_ok}
use Rattle.est_watch.proofs.AnswerLaws.{watch_many}
use Rattle.est_watch.proofs.KeptLaws.{keeps_same, spent_watching, ended_watching, same_items}
use Rattle.est_watch.proofs.KeptLaws.{explained_there, leaving_end}
use Rattle.est_watch.proofs.WatcherLaws.{finished_by}
use Rattle.est_watch.proofs.watcher.Watcher.end.Goals as goal

-- nothing more was sent
pub returns-then-self-len-clause-watching : goal.returns-then-self-len-clause-watching
returns-then-self-len-clause-watching g c =
    let t = c.args.self.now in
    let w = g.W.World in
    let watching = c.requires.1.1 in
    ended_watching w.speaks w.stack w.limit w.fired g.setup t watching t t.given.items
    (keeps_same w.speaks w.limit t.world) refl refl watching.within refl watching.few
    (λ spec s. (watching.each spec s).size) Possible

pub returns-then-self-len-clause-answer : goal.returns-then-self-len-clause-answer
returns-then-self-len-clause-answer g c spec s =
    let t = c.args.self.now in
    let w = g.W.World in
    explained_there (g.setup spec) spec (w.limit t.world) (w.stack t.world spec) t
    (c.requires.1.1.each spec s) c.requires.1.0 t.limits.budget
    (let n = c.len.ensures in omega (arith, t.walk.outs.ok.0))

-- more was sent
pub leave-requires : goal.leave-requires
leave-requires g c κs within =
    let t = c.args.self.now in
    let w = g.W.World in
    let watching = c.requires.1.1 in (
      within,
      (
        watching.within,
        (
          watching.room,
          (
            watching.few,
            (
              λ spec s. (watching.each spec s).suits c.requires.1.0,
              λ spec s. leaving_end (g.setup spec) spec (w.limit t.world) (w.stack t.world spec) t
                  (watching.each spec s) c.requires.1.0
                  (let n = c.len.ensures in omega (arith, t.walk.outs.ok.0)),
            ),
          ),
        ),
      ),
    )

pub returns-clause-watching : goal.returns-clause-watching
returns-clause-watching g c =
    let t = c.args.self.now in
    let w = g.W.World in
    let watching = c.requires.1.1 in
    let new = c.leave.new.self in
    if_ok c.leave.result (λ answer ok. ended_watching w.speaks w.stack w.limit w.fired g.setup t
    watching new t.given.items c.leave.ensures.keeps c.leave.ensures.others.0 c.leave.ensures.fired
    c.leave.ensures.within (same_items new t c.leave.ensures.others.1) watching.few
    (λ spec s. watch_many (g.setup spec) t.given.items new.walk.tried
    (c.leave.ensures.many spec s)) answer) c.leave.ensures.ok

pub returns-clause-spent : goal.returns-clause-spent
returns-clause-spent g c =
    let t = c.args.self.now in
    let w = g.W.World in
    let watching = c.requires.1.1 in
    let new = c.leave.new.self in
    on_err c.leave.result (spent_watching w.speaks w.stack w.limit w.fired g.setup t watching new
    t.given.items c.leave.ensures.keeps c.leave.ensures.others.0 c.leave.ensures.fired
    c.leave.ensures.within (same_items new t c.leave.ensures.others.1) watching.few
    (λ spec s. watch_many (g.setup spec) t.given.items new.walk.tried
    (c.leave.ensures.many spec s)))

pub returns-clause-given : goal.returns-clause-given
returns-clause-given g c = same_items c.leave.new.self c.args.self.now c.leave.ensures.others.1

pub returns-clause-answer : goal.returns-clause-answer
returns-clause-answer g c =
    let t = c.args.self.now in
    let w = g.W.World in
    let new = c.leave.new.self in
    if_ok c.leave.result (λ answer ok spec s. finished_by (g.setup spec) t.given.items
    t.limits.budget (w.stack new.world spec) new.walk c.leave.ensures.within answer (ok spec s))
    c.leave.ensures.ok
