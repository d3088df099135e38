use Rattle.std.proofs.Common.{refl}
use Rattle.est_trace.proofs.GrowingLists.{event_grows}
use Rattle.est_trace.proofs.growing.Growing.add.Goals as goal

pub returns-clause-grown : goal.returns-clause-grown
returns-clause-grown c = λ w. event_grows c.args.port c.args.event c.args.self.now record {
  phases = c.args.self.now.phases;
  times = c.args.self.now.times;
  phase = c.keep_at.new.phase;
} refl refl (c.keep_at.ensures.kept w)
