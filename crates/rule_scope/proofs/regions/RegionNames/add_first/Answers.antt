use Rattle.std.specs.Prelude.{nat_eq}
use Rattle.std.specs.Map.{lookup}
use Rattle.std.proofs.Common.{ap, ◌∙◌, ◌++◌, ◌∷◌, []}
use Rattle.indexmap.proofs.CallerLemmas.{insert_entry-new}
use Rattle.rule_scope.proofs.regions.RegionNames.add_first.Goals as goal

pub returns : goal.returns
returns c =
    c.in_ok-insert.ensures.entries
    ∙ insert_entry-new _ c.self.inside.under c.args.region c.add.new.self
    (ap (λ es. lookup (nat_eq c.args.region) es) c.self.view_is ∙ c.requires)
    ∙ (λ i. c.self.view_is i
    ++ (
      c.args.region,
      (c.in_ok-add.ensures
          ∙ ap (λ l. l ++ (c.args.name.now.bytes, c.args.standing) ∷ []) c.new-names.ensures) i,
    ) ∷ [])
