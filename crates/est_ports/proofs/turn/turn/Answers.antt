use Rattle.std.proofs.Math.Logic.{∥∥₁_elim}
use Rattle.est_ports.proofs.CallLaws.{never_taken}
use Rattle.est_ports.proofs.turn.turn.Goals as goal

pub unreachable-requires : goal.unreachable-requires
unreachable-requires g c = ∥∥₁_elim (g.met.W.World.spoken c.args.world.now) (λ a b. absurd a)
    (λ s. never_taken (g.setup s.0) s.0 (g.W.World.limit c.args.world.now) c.args.task.now.silent
    c.args.task.now.lists.now (g.W.World.stack c.args.world.now s.0) c.args.walk.now
    (c.requires.1.1.1.1 s.0 s.1) c.in-Taken.is)
