use Rattle.std.proofs.Common.{◌≤◌, ◌*◌, length}
use Rattle.est_syntax.specs.declared.specification.Spec.{Spec}
use Rattle.est_meaning.specs.SituationStacks.{Keeps}
use Rattle.run_make.specs.Recipe.{task_of, Leads}
use Rattle.run_make.specs.inside.Standings.{standing_of}
use Rattle.run_make.proofs.Draws.{most_fired, draws_left}
use Rattle.run_make.proofs.making.make_on.Given as goal

-- the draws lead on, with room for more
abbrev pub invariant-draws : goal.invariant-draws
invariant-draws g l =
    let w = g.W.World in
    record {
      keeps : Keeps w.speaks w.limit l.fn.world l.world;
      fired : w.fired l.world ≤ most_fired l.recipe.silent (length l.making.events) l.making.idle;
      within : l.making.idle ≤ l.recipe.silent;
      clock : (spec : Spec) → w.speaks l.world spec
          → (w.stack l.world spec).now.clock ≤ 10 * length l.making.events;
      leads : (spec : Spec) → w.speaks l.world spec
          → Leads (task_of (w.limit l.fn.world) l.recipe.silent spec) l.count
          (standing_of l.fn.making (w.stack l.fn.world spec).now)
          (standing_of l.making (w.stack l.world spec).now);
    }

abbrev pub decreases-draws : goal.decreases-draws
decreases-draws g l =
    draws_left l.recipe.silent l.count (length l.making.events) l.making.idle
