use Rattle.std.specs.Map.{lookup}
use Rattle.std.proofs.Common.{ap, ◌∙◌, sym}
use Rattle.est_syntax.specs.Names.{is_name}
use Rattle.est_meaning.proofs.of_rule_scope.Keys.{lookup-map}
use Rattle.est_trace.proofs.heads.HeadTable.get.Goals as goal

pub returns : goal.returns
returns c =
    c.get.ensures.value
    ∙ sym (lookup-map (λ k. k.items) (is_name c.args.name.now) c.self.inside.under.entries)
    ∙ ap (λ l. lookup (is_name c.args.name.now) l) c.self.view_is
