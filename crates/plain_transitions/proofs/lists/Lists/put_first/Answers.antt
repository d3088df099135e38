use Rattle.std.specs.Prelude.{nat_eq}
use Rattle.std.specs.Map.{lookup}
use Rattle.std.proofs.Common.{ap, ◌∙◌, ◌++◌, ◌∷◌, []}
use Rattle.indexmap.proofs.CallerLemmas.{insert_entry-new}
use Rattle.plain_transitions.proofs.lists.Lists.put_first.Goals as goal

pub returns : goal.returns
returns c =
    c.in_ok-insert.ensures.entries
    ∙ insert_entry-new _ c.self.inside.under c.args.key c.push.new.self
    (ap (λ es. lookup (nat_eq c.args.key) es) c.self.view_is ∙ c.requires)
    ∙ (λ i. c.self.view_is i ++ (
      c.args.key,
      (c.in_ok-push.ensures.ok ∙ ap (λ l. l ++ c.args.number ∷ []) c.new-numbers.ensures) i,
    ) ∷ [])
