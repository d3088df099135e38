use Rattle.std.proofs.Common.{◌≡◌, ◌≤◌, ◌+◌}
use Rattle.est_syntax.specs.declared.specification.Spec.{Spec}
use Rattle.est_meaning.specs.SituationStacks.{Keeps}
use Rattle.run_paths.specs.Bottoms.{SameBottom}
use Rattle.est_ports.specs.inside.Walk.{IsReady, work}
use Rattle.est_ports.proofs.explain.walk_all.Given as goal

abbrev pub ghost-turn : goal.ghost-turn
ghost-turn g a = g.setup

abbrev pub invariant-walk : goal.invariant-walk
invariant-walk g l =
    let w = g.W.World in
    record {
      keeps : Keeps w.speaks w.limit l.fn.world l.world;
      fired : w.fired l.world + l.fn.walk.fired ≡ w.fired l.fn.world + l.walk.fired;
      grows : l.fn.walk.fired ≤ l.walk.fired;
      within : l.walk.tried ≤ l.task.budget;
      fewer : l.walk.fired ≤ l.walk.tried;
      bottom : SameBottom w.speaks w.stack l.fn.world l.world;
      ready : (spec : Spec) → w.speaks l.world spec
          → IsReady (g.setup spec) spec (w.limit l.world) l.task.silent l.task.lists.now
          (w.stack l.world spec) l.walk;
    }

abbrev pub decreases-walk : goal.decreases-walk
decreases-walk g l = work l.task.budget l.walk
