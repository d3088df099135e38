use Rattle.std.proofs.Common.{ap, ◌∙◌, ◌++◌, ◌∷◌, []}
use Rattle.est_meaning.specs.ClauseContexts.{before, context_after, given_after}
use Rattle.plain_transitions.specs.inside.HeldClauses.{held, conditions_of, given_conditions}
use Rattle.plain_transitions.proofs.ContextLaws.{give_next, note_next}
use Rattle.plain_transitions.proofs.conditions.note_all.Goals as goal

pub loop-clause-preserved : goal.loop-clause-preserved
loop-clause-preserved c = record {
  context = give_next (held c.loop-clause.context.items) (held c.give.new.context.items)
      c.args.clauses.now c.loop-clause.clause-index c.clause-item.result
      (context_after (held c.args.context.now.items) c.args.clauses.now)
      c.loop-clause-test.true c.clause-item.is c.in_ok-give.ensures
      c.loop-clause.invariant.context;
  given = note_next (held c.loop-clause.context.items) (held c.give.new.context.items)
      c.args.clauses.now c.loop-clause.clause-index c.clause-item.result
      (conditions_of c.loop-clause.given.items) (conditions_of c.note.new.given.items)
      (conditions_of c.args.given.now.items
      ++ given_conditions (given_after (held c.args.context.now.items) c.args.clauses.now))
      c.loop-clause-test.true c.clause-item.is c.in_ok-give.ensures
      (c.in_ok-note.ensures
      ∙ ap (λ l. conditions_of c.loop-clause.given.items ++ given_conditions (record {
        under = before c.clause-item.result (held l);
        clause = c.clause-item.result;
      } ∷ [])) c.as_slice.ensures.value) c.loop-clause.invariant.given;
}
