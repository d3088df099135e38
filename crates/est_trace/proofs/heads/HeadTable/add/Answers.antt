use Rattle.std.specs.Map.{lookup}
use Rattle.std.proofs.Common.{ap, ◌∙◌, sym, ◌++◌, ◌∷◌, [], List, ℕ}
use Rattle.std.specs.Prelude.{map}
use Rattle.est_syntax.specs.Names.{is_name}
use Rattle.est_meaning.proofs.of_rule_scope.Keys.{lookup-map, map-push}
use Rattle.indexmap.proofs.CallerLemmas.{insert_entry-new}
use Rattle.est_trace.specs.declared.heads.Head.{Head}
use Rattle.est_trace.proofs.heads.HeadTable.add.Goals as goal

pub returns : goal.returns
returns c =
    let key_is = c.in_ok-key.ensures.items in
    ap (map {B = List ℕ × Head} (λ e. (e.0.items, e.1))) (c.in-Ok.ensures.entries
    ∙ insert_entry-new _ c.self.inside.under c.in_ok-key.key c.args.head
    (sym (lookup-map (λ k. k.items) (is_name c.in_ok-key.key.items) c.self.inside.under.entries)
    ∙ ap (λ l. lookup (is_name c.in_ok-key.key.items) l) c.self.view_is
    ∙ ap (λ n. lookup (is_name n) c.args.self.now) key_is ∙ c.requires))
    ∙ map-push (λ k. k.items) c.self.inside.under.entries c.in_ok-key.key c.args.head
    ∙ (λ i. c.self.view_is i ++ (key_is i, c.args.head) ∷ [])
