use Rattle.std.proofs.Common.{◌<◌, ◌∙◌, sym, ap, pos, Some, length, arith}
use Rattle.std.proofs.lemmas.Option.{slice_get-get_or}
use Rattle.text_values.specs.WrittenOrdinals.{ordinal_text}
use Rattle.text_values.proofs.Listed.{pair_turned, all_left, all_past}
use Rattle.est_trace.proofs.written_ports.append_ordinals.Goals as goal

pub loop-i-preserved : goal.loop-i-preserved
loop-i-preserved c =
    let inside : c.loop-i.i < length c.args.index.now = omega (arith, c.if-index-i.false) in
    pair_turned ordinal_text c.args.kinds.now c.args.index.now c.loop-i.i c.args.text.now.items
    c.loop-i.text.items c.loop-i.invariant c.index-kinds-i.result _
    c.append_item.new.text.items
    (slice_get-get_or c.args.kinds.now c.loop-i.i c.index-kinds-i.result c.loop-i-test.true
    ∙ ap Some (sym c.index-kinds-i.is))
    (sym (slice_get-get_or c.args.index.now c.loop-i.i (pos 0) inside))
    c.in_ok-append_item.ensures

pub returns-then-index-i : goal.returns-then-index-i
returns-then-index-i c =
    all_past ordinal_text c.args.kinds.now c.args.index.now c.loop-i.i c.args.text.now.items
    c.loop-i.text.items c.loop-i.invariant (omega (arith, c.if-index-i.true))

pub returns : goal.returns
returns c =
    all_left ordinal_text c.args.kinds.now c.args.index.now c.loop-i.i c.args.text.now.items
    c.loop-i.text.items c.loop-i.invariant (omega (arith, c.loop-i-test.false))
