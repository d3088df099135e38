use Rattle.std.proofs.Common.{take}
use Rattle.std.specs.List.{flat_map}
use Rattle.est_meaning.specs.ClauseContexts.{group_transitions}
use Rattle.plain_transitions.specs.inside.AddedTransitions.{AreAdded}
use Rattle.plain_transitions.proofs.writing.write_groups.Given as goal

abbrev pub invariant-loop-group : goal.invariant-loop-group
invariant-loop-group l = AreAdded l.outline
    (flat_map group_transitions (take l.group-index l.groups)) l.fn.into.items l.into.items
