use Rattle.std.proofs.Common.{◌≡◌, ◌+◌, length}
use Rattle.est_syntax.specs.declared.specification.Spec.{Spec}
use Rattle.est_meaning.specs.SituationStacks.{Keeps}
use Rattle.run_paths.specs.Bottoms.{SameBottom}
use Rattle.run_paths.proofs.rewinding.rewind.Given as goal

abbrev pub invariant-loop-step : goal.invariant-loop-step
invariant-loop-step g l =
    let w = g.W.World in
    record {
      keeps : Keeps w.speaks w.limit l.fn.world l.world;
      fired : w.fired l.world ≡ w.fired l.fn.world;
      bottom : SameBottom w.speaks w.stack l.fn.world l.world;
      below : (spec : Spec) → w.speaks l.world spec
          → length (w.stack l.world spec).below + l.step ≡ l.depth;
    }
