use Rattle.text_values.proofs.SetParts.{first_member, next_member, fewer_left, last_member}
use Rattle.text_values.proofs.sets.members.Goals as goal

pub loop-reader-init : goal.loop-reader-init
loop-reader-init c = (
  first_member c.args.base.now c.new-members.ensures c.member.ensures.reads,
  c.member.ensures.ascend,
)

pub loop-reader-preserved : goal.loop-reader-preserved
loop-reader-preserved c = (
  next_member c.args.base.now c.loop-reader-test.ensures c.loop-reader.invariant.0
      c.symbol.ensures c.member-in-loop-reader.ensures.reads,
  c.member-in-loop-reader.ensures.ascend,
)

pub loop-reader-smaller : goal.loop-reader-smaller
loop-reader-smaller c =
    fewer_left c.args.base.now c.loop-reader-test.ensures c.symbol.ensures
    c.member-in-loop-reader.ensures.reads

pub returns : goal.returns
returns c = last_member c.args.base.now c.loop-reader-test.ensures c.loop-reader.invariant.0
