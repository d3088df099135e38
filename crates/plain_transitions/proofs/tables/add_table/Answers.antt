use Rattle.std.proofs.Common.{sym, ap, ◌∙◌, ◌++◌, ◌∷◌, []}
use Rattle.indexmap.proofs.CallerLemmas.{insert_entry-new}
use Rattle.est_syntax.specs.declared.body.Body.{out-Body}
use Rattle.plain_transitions.proofs.TableLaws.{copied_none, table_kept, table_put}
use Rattle.plain_transitions.proofs.tables.add_table.Goals as goal

pub returns-then-is_some : goal.returns-then-is_some
returns-then-is_some c = table_kept c.args.text.now c.args.tables.now.entries c.args.body.now
    c.get.result c.get.ensures.value (sym c.is_some.ensures ∙ c.if-is_some.true)

pub returns : goal.returns
returns c =
    let place = (out-Body c.args.body.now).name.place in
    let none = sym c.get.ensures.value
    ∙ copied_none c.get.result (sym c.is_some.ensures ∙ c.if-is_some.false)
    in table_put c.args.text.now c.args.tables.now.entries c.insert.new.self.entries
    c.args.body.now (c.in_ok-insert.ensures.entries
    ∙ insert_entry-new _ c.args.tables.now place c.in_ok-table.table none
    ∙ ap (λ x. c.args.tables.now.entries ++ (place, x) ∷ []) c.in_ok-table.ensures)
