use Rattle.std.proofs.Common.{◌∙◌, sym, ap, Some, arith}
use Rattle.std.proofs.lemmas.Option.{slice_get-get_or}
use Rattle.text_values.specs.WrittenSeen.{seen_text}
use Rattle.text_values.proofs.Listed.{pair_turned, all_left, all_right}
use Rattle.text_values.proofs.written_seen.append_parameters.Goals as goal

pub returns-in-None : goal.returns-in-None
returns-in-None c =
    all_right seen_text c.args.kinds.now c.args.seens.now c.loop-i.i c.args.text.now.items
    c.loop-i.text.items c.loop-i.invariant c.in-None.ensures

pub loop-i-preserved : goal.loop-i-preserved
loop-i-preserved c =
    pair_turned seen_text c.args.kinds.now c.args.seens.now c.loop-i.i c.args.text.now.items
    c.loop-i.text.items c.loop-i.invariant c.index-kinds-i.result c.in-Some.seen.now
    c.append_item.new.text.items
    (slice_get-get_or c.args.kinds.now c.loop-i.i c.index-kinds-i.result c.loop-i-test.true
    ∙ ap Some (sym c.index-kinds-i.is))
    c.in-Some.ensures c.in_ok-append_item-in-Some.ensures

pub returns : goal.returns
returns c =
    all_left seen_text c.args.kinds.now c.args.seens.now c.loop-i.i c.args.text.now.items
    c.loop-i.text.items c.loop-i.invariant (omega (arith, c.loop-i-test.false))
