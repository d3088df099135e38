use Rattle.std.specs.Map.{lookup}
use Rattle.std.proofs.Common.{ap, ◌∙◌, sym}
use Rattle.est_syntax.specs.Names.{is_name}
use Rattle.rule_scope.proofs.Keys.{lookup-map}
use Rattle.rule_scope.proofs.names.Names.find.Goals as goal

pub returns : goal.returns
returns c =
    c.copied.ensures
    ∙ c.get.ensures.value
    ∙ ap (λ n. lookup (λ k. is_name n k.items) c.self.inside.under.entries) c.as_slice.ensures
    ∙ sym (lookup-map (λ k. k.items) (is_name c.args.name.now.bytes) c.self.inside.under.entries)
    ∙ ap (λ l. lookup (is_name c.args.name.now.bytes) l) c.self.view_is
