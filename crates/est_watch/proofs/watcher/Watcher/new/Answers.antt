use Rattle.std.proofs.Common.{arith}
use Rattle.est_watch.specs.declared.watcher.State.TheVariants.{Open}
use Rattle.est_watch.proofs.KeptLaws.{kept_at_start, begun_over}
use Rattle.est_watch.proofs.watcher.Watcher.new.Goals as goal

pub returns-clause-watching : goal.returns-clause-watching
returns-clause-watching g c =
    let none = c.new-walk.ensures.tried in
    record {
      room = (let fired = c.requires.room in let fits = c.args.limits.budget in omega arith);
      within = omega arith;
      few = rw c.new.ensures.items (omega arith);
      each = λ spec speaks. kept_at_start spec c.args.limits.statements
          (g.W.World.limit c.args.world) (g.W.World.stack c.args.world spec) c.args.start_outs.items
          (record {
            alloc = c.args.alloc;
            world = c.args.world;
            limits = c.args.limits;
            given = c.new.result;
            walk = c.new-walk.result;
            state = Open;
          }) c.requires.limit (c.requires.bottom spec speaks) (c.requires.start spec speaks)
          c.new.ensures.items c.new-walk.ensures.path none c.new-walk.ensures.passed
          (begun_over c.new-walk.result c.args.start_outs c.new-walk.ensures.used
          c.new-walk.ensures.outs);
    }
