use Rattle.est_trace.proofs.GrowingLists.{begun}
use Rattle.est_trace.proofs.growing.Growing.new.Goals as goal

pub returns-clause-grown : goal.returns-clause-grown
returns-clause-grown c = λ w. begun c.args.count record {
  phases = c.new-phases.result;
  times = c.new-times.result;
  phase = c.empty_phase-phase.result;
} c.new-phases.ensures c.new-times.ensures (c.empty_phase-phase.ensures.empty w)
