use Rattle.std.proofs.Common.{◌≡◌, ◌≤◌, ◌+◌, length}
use Rattle.est_syntax.specs.declared.specification.Spec.{Spec}
use Rattle.est_meaning.specs.SituationStacks.{Keeps}
use Rattle.est_watch.specs.inside.Walk.{IsReady, work}
use Rattle.est_watch.proofs.watcher.walk_all.Given as goal

abbrev pub ghost-turn : goal.ghost-turn
ghost-turn g a = g.setup

abbrev pub invariant-walk : goal.invariant-walk
invariant-walk g l =
    let w = g.W.World in
    record {
      keeps : Keeps w.speaks w.limit l.fn.world l.world;
      fired : w.fired l.world + l.fn.walk.tried ≡ w.fired l.fn.world + l.walk.tried;
      within : l.walk.tried ≤ l.task.budget;
      ready : (spec : Spec) → w.speaks l.world spec
          → IsReady (g.setup spec) l.task.exact spec (w.limit l.world) l.task.silent l.task.given.now
          (w.stack l.world spec) l.walk;
    }

abbrev pub decreases-walk : goal.decreases-walk
decreases-walk g l = work (length l.task.given.now) l.task.budget l.walk
