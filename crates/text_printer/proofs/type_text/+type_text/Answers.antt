use Rattle.std.proofs.Common.{refl, sym, ◌∙◌}
use Rattle.text_printer.proofs.Printing.{take, take_sure, last, then, begun, skipped, then_closed}
use Rattle.text_printer.proofs.Printing.{here_prints, in_first, in_second, deep, rule_prints, part}
use Rattle.text_printer.proofs.Lists.{one_turn, all_items, list_prints, closed_prints, all_closed}
use Rattle.text_printer.specs.Turns.{no_turn}
use Rattle.text_printer.proofs.Told.{short_named, short_range}
use Rattle.text_productions.proofs.Made as made
use Rattle.text_productions.specs.Nodes as view
use Rattle.text_printer.proofs.type_text.+type_text.Goals as goal

pub recordtype-returns : goal.recordtype-returns
recordtype-returns t c = rule_prints (deep (take_sure refl c.word.ensures (then_closed
    c.fields.ensures (last refl c.word-2.ensures))))

pub settype-returns : goal.settype-returns
settype-returns t c = rule_prints (deep (take refl c.word.ensures (take refl c.word-2.ensures
    c.typetext.ensures)))

pub field-returns : goal.field-returns
field-returns t c = part refl refl (then c.idents.ensures (take refl c.symbol.ensures
    c.typetext.ensures))

pub typetext-returns-in-Names : goal.typetext-returns-in-Names
typetext-returns-in-Names t c = part (rw c.in-Names.is (sym (made.names_made _ _))) (rw
    c.in-Names.is (sym (made.names_made _ _))) (rule_prints (in_second (in_first
    c.enumeration.ensures)))

pub typetext-returns-in-Array : goal.typetext-returns-in-Array
typetext-returns-in-Array t c = part (rw (c.in-Array.is, c.get.ensures) (sym (made.array_made _ _
    _))) (rw (c.in-Array.is, c.get.ensures) (sym (made.array_made _ _ _))) (rule_prints (in_second
    (in_second (here_prints (begun (skipped (in_first (rule_prints (deep (take refl c.word.ensures
    (take refl c.symbol.ensures (then c.typetexts.ensures (take refl c.symbol-in-Array.ensures
    (take refl c.word-in-Array.ensures c.typetext.ensures)))))))))) c.in-Array.place))))

pub typetext-returns-in-Fields : goal.typetext-returns-in-Fields
typetext-returns-in-Fields t c = part (rw c.in-Fields.is (sym (made.fields_made _ _))) (rw
    c.in-Fields.is (sym (made.fields_made _ _))) (rule_prints (in_second (in_second (here_prints
    (begun (skipped (in_second (in_first c.recordtype.ensures)))) c.in-Fields.place))))

pub typetext-returns-in-Set : goal.typetext-returns-in-Set
typetext-returns-in-Set t c = part (rw (c.in-Set.is, c.get-in-Set.ensures) (sym (made.set_made _
    _))) (rw (c.in-Set.is, c.get-in-Set.ensures) (sym (made.set_made _ _))) (rule_prints
    (in_second (in_second (here_prints (begun (skipped (in_second (in_second c.settype.ensures))))
    c.in-Set.place))))

pub typetext-returns-in-Named : goal.typetext-returns-in-Named
typetext-returns-in-Named t c = part (rw c.in-Named.is (short_named _)) (rw c.in-Named.is
    (short_named _)) (rule_prints (in_first c.shorttype.ensures))

pub typetext-returns-in-Range : goal.typetext-returns-in-Range
typetext-returns-in-Range t c = part (rw c.in-Range.is (short_range _ _)) (rw c.in-Range.is
    (short_range _ _)) (rule_prints (in_first c.shorttype-in-Range.ensures))

pub typetexts-loop-next-init : goal.typetexts-loop-next-init
typetexts-loop-next-init t c = no_turn

pub typetexts-loop-next-preserved : goal.typetexts-loop-next-preserved
typetexts-loop-next-preserved t c = one_turn view.a_type c.in-Some.rest.now c.loop-next.next-index
    c.next-item.result c.loop-next-test.true (sym c.next-item.is) c.loop-next.invariant (take refl
    c.symbol.ensures c.typetext-in-loop-next.ensures)

pub typetexts-returns-after-loop-next : goal.typetexts-returns-after-loop-next
typetexts-returns-after-loop-next t c = list_prints view.a_type c.args.items.now
    c.in-Some.rest.now c.in-Some.first.now (sym c.as_slice.ensures ∙ c.in-Some.ensures.cases.0)
    c.typetext.ensures (all_items view.a_type c.in-Some.rest.now c.in-Some.rest.now
    c.loop-next.next-index refl c.loop-next-test.false c.loop-next.invariant)

pub fields-loop-next-init : goal.fields-loop-next-init
fields-loop-next-init t c = no_turn

pub fields-loop-next-preserved : goal.fields-loop-next-preserved
fields-loop-next-preserved t c = one_turn view.a_field c.in-Some.rest.now c.loop-next.next-index
    c.next-item.result c.loop-next-test.true (sym c.next-item.is) c.loop-next.invariant (take refl
    c.symbol.ensures c.field-in-loop-next.ensures)

pub fields-returns-after-loop-next : goal.fields-returns-after-loop-next
fields-returns-after-loop-next t c = closed_prints view.a_field c.args.items.now
    c.in-Some.rest.now c.in-Some.first.now (sym c.as_slice.ensures ∙ c.in-Some.ensures.cases.0)
    c.field.ensures (all_closed view.a_field c.in-Some.rest.now c.in-Some.rest.now
    c.loop-next.next-index refl c.loop-next-test.false c.loop-next.invariant)
