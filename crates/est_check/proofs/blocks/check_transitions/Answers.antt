use Rattle.est_check.proofs.Turns.{transition_turn}
use Rattle.est_check.proofs.blocks.check_transitions.Goals as goal

pub loop-item-preserved : goal.loop-item-preserved
loop-item-preserved c = transition_turn c.args.outline.now _ _ _ _ _ _ _ _ c.loop-item-test.true
    c.item-item.is c.in_ok-check_transition.ensures.context c.in_ok-check_transition.ensures.faults
    c.loop-item.invariant
