use Rattle.std.specs.Map.{lookup}
use Rattle.std.proofs.Common.{ap, ◌∙◌, ◌++◌, ◌∷◌, [], nat_eq}
use Rattle.indexmap.proofs.CallerLemmas.{insert_entry-new}
use Rattle.rule_ports.proofs.known.Known.add.Goals as goal

pub returns : goal.returns
returns c =
    c.in-Ok.ensures.entries
    ∙ insert_entry-new _ c.self.inside.under c.args.channel c.args.sides
    (ap (λ es. lookup (nat_eq c.args.channel) es) c.self.view_is ∙ c.requires)
    ∙ (λ i. c.self.view_is i ++ (c.args.channel, c.args.sides) ∷ [])
