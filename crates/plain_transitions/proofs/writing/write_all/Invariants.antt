use Rattle.std.proofs.Common.{◌≡◌, take}
use Rattle.est_meaning.specs.ClauseContexts.{context_after, clauses_of}
use Rattle.plain_transitions.specs.inside.HeldClauses.{held, conditions_of}
use Rattle.plain_transitions.specs.inside.AddedTransitions.{written_after, AreAdded}
use Rattle.plain_transitions.proofs.writing.write_all.Given as goal

abbrev pub invariant-loop-transition : goal.invariant-loop-transition
invariant-loop-transition l = record {
  context : held l.context.items ≡ context_after (held l.fn.context.items)
      (clauses_of (take l.transition-index l.transitions));
  written : AreAdded l.outline (written_after (conditions_of l.given) (held l.fn.context.items)
      (take l.transition-index l.transitions)) l.fn.into.items l.into.items;
}
