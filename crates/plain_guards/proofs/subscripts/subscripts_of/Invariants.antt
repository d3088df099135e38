use Rattle.std.proofs.Common.{◌≡◌, ◌++◌, map, drop}
use Rattle.est_meaning.specs.GuardParts.{subscripts_of}
use Rattle.plain_blocks.specs.plain_operands.ExecutionSites.{view_of}
use Rattle.plain_clauses.specs.EvaluatedParts.{held}
use Rattle.plain_guards.proofs.subscripts.subscripts_of.Given as goal

-- the parts so far, and those that are left, are all
abbrev pub invariant-loop-i : goal.invariant-loop-i
invariant-loop-i l = l.parts ++ map held
    (subscripts_of l.limit (drop l.i l.kinds) (drop l.i l.index) (view_of l.site l.working))
    ≡ map held (subscripts_of l.limit l.kinds l.index (view_of l.site l.working))
