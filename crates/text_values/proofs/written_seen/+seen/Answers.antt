use Rattle.std.proofs.Common.{◌∙◌, ap, arith, length}
use Rattle.est_syntax.specs.declared.kind.Kind.{out-Kind}
use Rattle.est_seen.specs.declared.seen.Seen.{out-Seen}
use Rattle.est_seen.specs.declared.seen.Seen.TheVariants as seen
use Rattle.text_values.specs.WrittenSeen.{seen_text}
use Rattle.text_values.specs.WrittenValues.{set_text, kinds_by}
use Rattle.text_values.proofs.Listed.{pair_turned, all_gone, all_past, all_right}
use Rattle.text_values.proofs.SeenTexts.{any_text, undefined_seen, ordinal_seen, set_seen}
use Rattle.text_values.proofs.SeenTexts.{group_seen}
use Rattle.text_values.proofs.ValueTexts.{added, added_as}
use Rattle.text_values.proofs.written_seen.+seen.Goals as goal

pub append_parts-returns-in_default : goal.append_parts-returns-in_default
append_parts-returns-in_default t c =
    let parts = c.args.parts.now in
    let n = length parts in
    all_gone seen_text (kinds_by (out-Kind c.args.kind.now) n) parts c.loop-i.i
    c.args.text.now.items c.loop-i.text.items c.loop-i.invariant
    (c.in_default.ensures n (omega (arith, c.loop-i-test.true, c.len-i-end.ensures)))

pub append_parts-returns-in_default-get : goal.append_parts-returns-in_default-get
append_parts-returns-in_default-get t c =
    let parts = c.args.parts.now in
    all_right seen_text (kinds_by (out-Kind c.args.kind.now) (length parts)) parts c.loop-i.i
    c.args.text.now.items c.loop-i.text.items c.loop-i.invariant c.in_default-get.ensures

pub append_parts-loop-i-preserved : goal.append_parts-loop-i-preserved
append_parts-loop-i-preserved t c =
    let parts = c.args.parts.now in
    let n = length parts in
    pair_turned seen_text (kinds_by (out-Kind c.args.kind.now) n) parts c.loop-i.i
    c.args.text.now.items c.loop-i.text.items c.loop-i.invariant c.in-Some.of.now
    c.in-Some-get.part.now c.append_item.new.text.items
    (c.in-Some.ensures n (omega (arith, c.loop-i-test.true, c.len-i-end.ensures)))
    c.in-Some-get.ensures c.in_ok-append_item.ensures

pub append_parts-returns : goal.append_parts-returns
append_parts-returns t c =
    let parts = c.args.parts.now in
    all_past seen_text (kinds_by (out-Kind c.args.kind.now) (length parts)) parts c.loop-i.i
    c.args.text.now.items c.loop-i.text.items c.loop-i.invariant
    (omega (arith, c.loop-i-test.false, c.len-i-end.ensures))

pub append_seen-returns-in-Any : goal.append_seen-returns-in-Any
append_seen-returns-in-Any t c =
    added _ _ _ _ _ c.extend_from_slice.ensures.items (any_text c.args.kind.now
    c.args.seen.now (ap out-Seen c.in-Any.is ∙ seen.outs-Any))

pub append_seen-returns-in-Undefined : goal.append_seen-returns-in-Undefined
append_seen-returns-in-Undefined t c =
    added _ _ _ _ _ c.extend_from_slice-in-Undefined.ensures.items (undefined_seen
    c.args.kind.now c.args.seen.now (ap out-Seen c.in-Undefined.is ∙ seen.outs-Undefined))

pub append_seen-returns-in-Ordinal : goal.append_seen-returns-in-Ordinal
append_seen-returns-in-Ordinal t c =
    added_as _ _ _ _ _ c.append_defined.ensures (ordinal_seen c.args.kind.now c.args.seen.now
    c.in-Ordinal.ordinal (ap out-Seen c.in-Ordinal.is ∙ seen.outs-Ordinal _))

pub append_seen-returns-in-Set : goal.append_seen-returns-in-Set
append_seen-returns-in-Set t c =
    added_as _ _ _ _ _ c.append_set.ensures (ap (λ zs. set_text c.base_of.result.now zs)
    c.as_slice.ensures ∙ ap (λ k. set_text k c.in-Set.members) c.base_of.ensures
    ∙ set_seen c.args.kind.now c.args.seen.now c.in-Set.members
    (ap out-Seen c.in-Set.is ∙ seen.outs-Set _))

pub append_seen-returns-in-Group : goal.append_seen-returns-in-Group
append_seen-returns-in-Group t c =
    added_as _ _ _ _ _ c.append_group.ensures (group_seen c.args.kind.now c.args.seen.now
    c.in-Group.parts (ap out-Seen c.in-Group.is ∙ seen.outs-Group _))
