use Rattle.std.proofs.Common.{ap, ◌∙◌, ◌++◌, ◌∷◌, []}
use Rattle.plain_transitions.specs.inside.HeldClauses.{count_before}
use Rattle.plain_transitions.proofs.ContextLaws.{held_with}
use Rattle.plain_transitions.proofs.contexts.give.Goals as goal

pub returns : goal.returns
returns c = held_with c.args.clause c.args.context.now.items c.push.new.self.items
    c.count_before-count.result
    (c.count_before-count.ensures.count
    ∙ ap (count_before c.args.clause.now) c.as_slice.ensures.value)
    (c.in_ok-push.ensures.items ∙ ap (λ l. l ++ c.args.clause ∷ []) c.truncate.ensures.items)
