use Rattle.std.proofs.Common.{◌≡◌, ◌≤◌, ◌+◌, length}
use Rattle.est_syntax.specs.declared.specification.Spec.{Spec}
use Rattle.est_meaning.specs.SituationStacks.{Keeps}
use Rattle.run_paths.specs.Bottoms.{SameBottom}
use Rattle.est_search.specs.inside.Walk.{IsReady, work}
use Rattle.est_search.proofs.explain.walk_all.Given as goal

abbrev pub ghost-turn : goal.ghost-turn
ghost-turn g a = g.setup

abbrev pub invariant-walk : goal.invariant-walk
invariant-walk g l =
    let w = g.W.World in
    record {
      keeps : Keeps w.speaks w.limit l.fn.world l.world;
      fired : w.fired l.world + l.fn.walk.tried ≡ w.fired l.fn.world + l.walk.tried;
      within : l.walk.tried ≤ l.task.budget;
      bottom : SameBottom w.speaks w.stack l.fn.world l.world;
      ready : (spec : Spec) → w.speaks l.world spec
          → IsReady (g.setup spec) spec (w.limit l.world) l.task.silent l.task.trace.now
          (w.stack l.world spec) l.walk;
    }

abbrev pub decreases-walk : goal.decreases-walk
decreases-walk g l = work (length l.task.trace.now.events) l.task.budget l.walk
