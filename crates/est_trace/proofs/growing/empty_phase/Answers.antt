use Rattle.std.proofs.Common.{arith}
use Rattle.text_reader.proofs.Steps.{still_here, still_on}
use Rattle.est_trace.proofs.GrowingLists.{no_lists, one_list}
use Rattle.est_trace.proofs.growing.empty_phase.Goals as goal

pub loop-made-init : goal.loop-made-init
loop-made-init c = (omega arith, still_here, λ w. no_lists c.new-phase.result c.new-phase.ensures)

pub loop-made-preserved : goal.loop-made-preserved
loop-made-preserved c = (
  omega (arith, c.loop-made-test.true),
  still_on c.loop-made.invariant.1 c.keep.ensures.still,
  one_list c.loop-made.made c.loop-made.phase c.keep.new.items c.new-list.result
      c.loop-made.invariant.2 c.new-list.ensures c.keep.ensures,
)
