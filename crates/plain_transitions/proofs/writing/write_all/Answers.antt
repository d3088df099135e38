use Rattle.plain_transitions.specs.inside.HeldClauses.{held, conditions_of}
use Rattle.plain_transitions.proofs.WritingLaws.{context_next, added_next}
use Rattle.plain_transitions.proofs.writing.write_all.Goals as goal

pub loop-transition-preserved : goal.loop-transition-preserved
loop-transition-preserved c = record {
  context = context_next (held c.args.context.now.items) (held c.loop-transition.context.items)
      (held c.write_next.new.context.items) c.args.transitions.now
      c.loop-transition.transition-index _ c.loop-transition-test.true c.transition-item.is
      c.loop-transition.invariant.context c.in_ok-write_next.ensures.context;
  written = added_next c.args.outline.now (conditions_of c.args.given.now)
      (held c.args.context.now.items) (held c.loop-transition.context.items)
      c.args.transitions.now c.loop-transition.transition-index _ c.args.into.now.items
      c.loop-transition.into.items c.write_next.new.into.items c.loop-transition-test.true
      c.transition-item.is c.loop-transition.invariant.context
      c.loop-transition.invariant.written c.in_ok-write_next.ensures.written;
}
