use Rattle.std.proofs.Common.{◌≤◌, ◌+◌}
use Rattle.est_syntax.specs.declared.specification.Spec.{Spec}
use Rattle.est_meaning.specs.SituationStacks.{Keeps}
use Rattle.est_meaning.specs.Task.{Suits}
use Rattle.est_explanation.specs.inside.Standing.{IsStanding}
use Rattle.est_explanation.proofs.replay.replay_moves.Given as goal

abbrev pub ghost-make : goal.ghost-make
ghost-make g a = g.setup

abbrev pub invariant-loop-index : goal.invariant-loop-index
invariant-loop-index g l =
    let w = g.W.World in
    record {
      keeps : Keeps w.speaks w.limit l.fn.world l.world;
      fired : w.fired l.world ≤ w.fired l.fn.world + l.index;
      standing : (spec : Spec) → w.speaks l.world spec
          → Suits (g.setup spec) spec (w.limit l.world) l.silent l.replaying.trace.now
          × IsStanding (g.setup spec) l.claim l.moves l.index (w.stack l.world spec).now l.at;
    }
