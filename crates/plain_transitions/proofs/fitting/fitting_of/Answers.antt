use Rattle.plain_transitions.proofs.StateLaws.{by_states_next}
use Rattle.plain_transitions.proofs.fitting.fitting_of.Goals as goal

pub loop-index-preserved : goal.loop-index-preserved
loop-index-preserved c = by_states_next c.args.written.now c.loop-index.index
    c.index-written-index.result c.loop-index.fitting c.put.new.fitting c.loop-index-test.true
    c.index-written-index.is c.loop-index.invariant c.in_ok-put.ensures
