use Rattle.plain_transitions.proofs.KeyLaws.{none_put, put_more}
use Rattle.plain_transitions.proofs.fitting.put_states.Goals as goal

pub loop-state-init : goal.loop-state-init
loop-state-init c = none_put c.args.number c.args.named.now

pub loop-state-preserved : goal.loop-state-preserved
loop-state-preserved c = put_more c.args.number c.args.states.now c.loop-state.state-index
    c.args.named.now c.loop-state.named c.put.new.self c.loop-state-test.true
    c.loop-state.invariant c.in_ok-put.ensures
