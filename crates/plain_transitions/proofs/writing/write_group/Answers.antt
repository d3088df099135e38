use Rattle.std.proofs.Common.{ap, ◌∙◌}
use Rattle.plain_transitions.specs.inside.HeldClauses.{held, conditions_of}
use Rattle.plain_transitions.proofs.WritingLaws.{group_added}
use Rattle.plain_transitions.proofs.writing.write_group.Goals as goal

pub returns : goal.returns
returns c = group_added c.args.outline.now c.args.group.now (conditions_of c.as_slice.result.now)
    (held c.new-context.result.items) c.as_slice-transitions.result.now c.args.into.now.items
    c.write_all.new.into.items c.as_slice-transitions.ensures
    (ap conditions_of c.as_slice.ensures.value ∙ c.in_ok-given.ensures)
    (ap held c.new-context.ensures.items) c.in_ok-write_all.ensures
