use Rattle.std.proofs.Common.{◌≡◌, take}
use Rattle.std.specs.List.{list_all, list_any}
use Rattle.plain_blocks.specs.plain_operands.ExecutionSites.{view_of}
use Rattle.plain_clauses.proofs.ConditionLaws.{unmet, past}
use Rattle.plain_guards.proofs.conditions.all_unmet.Given as goal

-- what the conditions so far say
abbrev pub invariant-loop-i : goal.invariant-loop-i
invariant-loop-i l = record {
  holds : l.met.holds
      ≡ list_all (unmet l.limit (view_of l.site l.working)) (take l.i l.conditions);
  passes : l.met.passes
      ≡ list_any (past l.limit (view_of l.site l.working)) (take l.i l.conditions);
}
