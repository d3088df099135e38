use Rattle.std.proofs.Common.{sym, ◌∙◌}
use Rattle.plain_blocks.specs.plain_operands.ExecutionSites.{view_of}
use Rattle.plain_clauses.proofs.PartLaws.{subscripts_end}
use Rattle.plain_guards.proofs.subscripts.subscripts_of.Goals as goal

pub returns : goal.returns
returns c =
    let v = view_of c.args.site.now c.args.working.now in
    sym (subscripts_end c.args.limit c.args.kinds.now c.args.index.now v c.loop-i.parts c.loop-i.i
    c.loop-i-test.false)
    ∙ c.loop-i.invariant
