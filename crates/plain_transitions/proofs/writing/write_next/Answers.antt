use Rattle.std.proofs.Common.{ap, ◌∙◌, subst}
use Rattle.est_syntax.specs.declared.transition.Transition.{out-Transition}
use Rattle.est_meaning.specs.ClauseContexts.{context_after}
use Rattle.plain_transitions.specs.WrittenTransitions.{IsWritten}
use Rattle.plain_transitions.specs.inside.HeldClauses.{held, conditions_of, written_of}
use Rattle.plain_transitions.proofs.WritingLaws.{one_added}
use Rattle.plain_transitions.proofs.writing.write_next.Goals as goal

pub returns-clause-written : goal.returns-clause-written
returns-clause-written c =
    let x = out-Transition c.args.transition.now in
    let cs = held c.args.context.now.items in
    let gs = conditions_of c.args.given.now in
    one_added c.args.outline.now (written_of gs (context_after cs x.clauses) x.block)
    c.in_ok-written.written c.args.into.now.items c.push.new.self.items
    (subst (λ l. IsWritten c.args.outline.now (written_of gs l x.block) c.in_ok-written.written)
    (ap held c.as_slice.ensures.value ∙ c.in_ok-give_all.ensures
    ∙ ap (context_after cs) c.as_slice-clauses.ensures) c.in_ok-written.ensures)
    c.in_ok-push.ensures.items
