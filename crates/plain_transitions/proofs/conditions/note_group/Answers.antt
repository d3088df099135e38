use Rattle.std.proofs.Common.{ap, ◌∙◌, ◌++◌}
use Rattle.est_meaning.specs.ClauseContexts.{context_after, given_after, clauses_of}
use Rattle.plain_transitions.specs.inside.HeldClauses.{held, conditions_of, given_conditions}
use Rattle.plain_transitions.proofs.ContextLaws.{group_next}
use Rattle.plain_transitions.proofs.conditions.note_group.Goals as goal

pub loop-transition-preserved : goal.loop-transition-preserved
loop-transition-preserved c =
    let now = held c.loop-transition.context.items in
    let old = conditions_of c.loop-transition.given.items in
    group_next now (held c.note_all.new.context.items) c.args.transitions.now
    c.loop-transition.transition-index _ old (conditions_of c.note_all.new.given.items)
    (conditions_of c.args.given.now.items
    ++ given_conditions (given_after (held c.args.context.now.items)
    (clauses_of c.args.transitions.now)))
    c.loop-transition-test.true c.transition-item.is
    (c.in_ok-note_all.ensures.context ∙ ap (context_after now) c.as_slice.ensures)
    (c.in_ok-note_all.ensures.given
    ∙ ap (λ l. old ++ given_conditions (given_after now l)) c.as_slice.ensures)
    c.loop-transition.invariant
