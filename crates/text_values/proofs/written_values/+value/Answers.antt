use Rattle.std.proofs.Common.{◌∙◌, ap, arith, length, replicate}
use Rattle.std.proofs.lemmas.List.{length-replicate}
use Rattle.est_values.specs.declared.value.Value.{out-Value}
use Rattle.est_values.specs.declared.value.Value.TheVariants as value
use Rattle.text_values.specs.WrittenValues.{value_text, field_kinds, set_text}
use Rattle.text_values.proofs.Listed.{pair_turned, all_left}
use Rattle.text_values.proofs.Listed.{all_right}
use Rattle.text_values.proofs.ValueTexts.{undefined_text, ordinal_is, set_is, group_is}
use Rattle.text_values.proofs.ValueTexts.{added, added_as, element_kind, field_kind}
use Rattle.text_values.proofs.ValueTexts.{field_count}
use Rattle.text_values.proofs.written_values.+value.Goals as goal

pub append_elements-loop-i-preserved : goal.append_elements-loop-i-preserved
append_elements-loop-i-preserved t c =
    let parts = c.args.parts.now in
    let kinds = replicate (length parts) c.args.of.now in
    pair_turned value_text kinds parts c.loop-i.i c.args.text.now.items c.loop-i.text.items
    c.loop-i.invariant c.args.of.now c.in-Some.part.now c.append_item.new.text.items
    (element_kind c.args.of.now parts c.loop-i.i c.in-Some.part.now c.in-Some.ensures)
    c.in-Some.ensures c.in_ok-append_item-in-Some.ensures

pub append_elements-returns : goal.append_elements-returns
append_elements-returns t c =
    let parts = c.args.parts.now in
    let kinds = replicate (length parts) c.args.of.now in
    all_left value_text kinds parts c.loop-i.i c.args.text.now.items c.loop-i.text.items
    c.loop-i.invariant
    (omega (
      arith,
      length-replicate (length parts) c.args.of.now,
      c.loop-i-test.false,
      c.len-i-end.ensures,
    ))

pub append_fields-returns-in-None : goal.append_fields-returns-in-None
append_fields-returns-in-None t c =
    all_right value_text (field_kinds c.args.fields.now) c.args.parts.now c.loop-i.i
    c.args.text.now.items c.loop-i.text.items c.loop-i.invariant c.in-None.ensures

pub append_fields-loop-i-preserved : goal.append_fields-loop-i-preserved
append_fields-loop-i-preserved t c =
    let fields = c.args.fields.now in
    pair_turned value_text (field_kinds fields) c.args.parts.now c.loop-i.i
    c.args.text.now.items c.loop-i.text.items c.loop-i.invariant _ c.in-Some.part.now
    c.append_item.new.text.items
    (field_kind fields c.loop-i.i c.index-fields-i.result c.loop-i-test.true)
    c.in-Some.ensures c.in_ok-append_item-in-Some.ensures

pub append_fields-returns : goal.append_fields-returns
append_fields-returns t c =
    let fields = c.args.fields.now in
    all_left value_text (field_kinds fields) c.args.parts.now c.loop-i.i c.args.text.now.items
    c.loop-i.text.items c.loop-i.invariant
    (omega (arith, field_count fields, c.loop-i-test.false))

pub append_value-returns-in-Undefined : goal.append_value-returns-in-Undefined
append_value-returns-in-Undefined t c =
    added _ _ _ _ _ c.extend_from_slice.ensures.items (undefined_text c.args.kind.now
    c.args.value.now (ap out-Value c.in-Undefined.is ∙ value.outs-Undefined))

pub append_value-returns-in-Ordinal : goal.append_value-returns-in-Ordinal
append_value-returns-in-Ordinal t c =
    added_as _ _ _ _ _ c.append_defined.ensures (ordinal_is c.args.kind.now c.args.value.now
    c.in-Ordinal.ordinal (ap out-Value c.in-Ordinal.is ∙ value.outs-Ordinal _))

pub append_value-returns-in-Set : goal.append_value-returns-in-Set
append_value-returns-in-Set t c =
    added_as _ _ _ _ _ c.append_set.ensures (ap (λ zs. set_text c.base_of.result.now zs)
    (c.as_slice.ensures ∙ c.get.ensures) ∙ ap (λ k. set_text k c.in-Set.members)
    c.base_of.ensures ∙ set_is c.args.kind.now c.args.value.now
    c.in-Set.members (ap out-Value c.in-Set.is ∙ value.outs-Set _))

pub append_value-returns-in-Group : goal.append_value-returns-in-Group
append_value-returns-in-Group t c =
    added_as _ _ _ _ _ c.append_group.ensures (group_is c.args.kind.now c.args.value.now
    c.in-Group.parts (ap out-Value c.in-Group.is ∙ value.outs-Group _))
