use Rattle.std.proofs.Common.{ap, ◌∙◌, subst, ◌-◌, slice_get}
use Rattle.plain_transitions.specs.inside.BodyTables.{Sited, IsTable}
use Rattle.plain_transitions.proofs.TableLaws.{held_at}
use Rattle.plain_transitions.proofs.table.Table.transition.Goals as goal

pub returns : goal.returns
returns c =
    let ws = c.self.inside.written.items in
    let f = c.self.inside.fitting in
    let b = c.self.inside.timed in
    let t : IsTable c.args.self.now ws f b =
    subst (λ (x : Sited). IsTable x ws f b) c.self.view_is c.self.invariant in
    held_at c.args.self.now.text c.args.self.now.place ws t.written c.args.number
    c.item_at.result c.if-number-eq0.false
    (c.item_at.ensures ∙ ap (λ l. slice_get l (c.args.number - 1)) c.as_slice.ensures.value)
