use Rattle.std.proofs.Common.{refl}
use Rattle.est_trace.proofs.GrowingLists.{grown_lists}
use Rattle.est_trace.proofs.growing.Growing.ended.Goals as goal

pub returns-clause-lists : goal.returns-clause-lists
returns-clause-lists c = λ w many es g. grown_lists many c.args.self record {
  phases = c.keep.new.items;
  times = c.args.self.times;
} es (c.keep.ensures.added w) refl g
