use Rattle.plain_transitions.proofs.WritingLaws.{none_added, added_more}
use Rattle.plain_transitions.proofs.writing.write_groups.Goals as goal

pub loop-group-init : goal.loop-group-init
loop-group-init c = none_added c.args.outline.now c.args.into.now.items

pub loop-group-preserved : goal.loop-group-preserved
loop-group-preserved c = added_more c.args.outline.now c.args.groups.now c.loop-group.group-index _
    c.args.into.now.items c.loop-group.into.items c.write_group.new.into.items
    c.loop-group-test.true c.group-item.is c.loop-group.invariant c.in_ok-write_group.ensures
