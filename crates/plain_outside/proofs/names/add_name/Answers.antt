use Rattle.std.proofs.Common.{sym, ◌∙◌}
use Rattle.indexmap.proofs.CallerLemmas.{insert_entry-new}
use Rattle.plain_outside.proofs.FirstNames.{copied_none, kept_there, put_last}
use Rattle.plain_outside.proofs.names.add_name.Goals as goal

pub returns-then-is_some : goal.returns-then-is_some
returns-then-is_some c = kept_there c.args.names.now.entries c.args.place c.args.bytes.now
    c.get.result c.get.ensures.value (sym c.is_some.ensures ∙ c.if-is_some.true)

pub returns : goal.returns
returns c =
    let none = sym c.get.ensures.value
    ∙ copied_none c.get.result (sym c.is_some.ensures ∙ c.if-is_some.false)
    in put_last c.args.names.now.entries c.insert.new.self.entries c.args.place
    c.in_ok-name.name c.args.bytes.now c.in_ok-name.ensures (c.in_ok-insert.ensures.entries
    ∙ insert_entry-new _ c.args.names.now c.args.place c.in_ok-name.name none)
