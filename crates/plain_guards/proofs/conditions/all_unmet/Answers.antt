use Rattle.plain_blocks.specs.plain_operands.ExecutionSites.{view_of}
use Rattle.plain_clauses.proofs.ConditionLaws.{otherwise_met}
use Rattle.plain_guards.proofs.conditions.all_unmet.Goals as goal

pub returns : goal.returns
returns c =
    otherwise_met c.args.limit (view_of c.args.site.now c.args.working.now)
    c.args.conditions.now c.loop-i.i c.loop-i.met c.loop-i-test.false c.loop-i.invariant.holds
    c.loop-i.invariant.passes
