use Rattle.std.proofs.Common.{◌≡◌, ◌<◌, ◌∙◌, ◌++◌, sym, ap, length, codes}
use Rattle.std.proofs.lemmas.Bool.{eqb-true}
use Rattle.std.proofs.lemmas.List.{append-nil}
use Rattle.text_values.specs.WrittenOrdinals.{ordinal_text}
use Rattle.text_values.proofs.Listed.{none_right, some_listed, enclosed_added, above_zero}
use Rattle.est_trace.proofs.written_ports.append_subscripts.Goals as goal

pub returns-then-is_empty-2 : goal.returns-then-is_empty-2
returns-then-is_empty-2 c =
    let old = c.args.text.now.items in
    let empty : length c.args.index.now ≡ 0 =
    eqb-true (length c.args.index.now) 0 (sym c.is_empty-2.ensures ∙ c.if-is_empty-2.true) in
    sym (append-nil old) ∙ ap (λ t. old ++ t)
    (none_right (codes "[") (codes "]") ordinal_text c.args.kinds.now c.args.index.now empty)

pub returns : goal.returns
returns c =
    let kinds : 0 < length c.args.kinds.now =
    above_zero (length c.args.kinds.now) (sym c.is_empty.ensures ∙ c.if-is_empty.false) in
    let index : 0 < length c.args.index.now =
    above_zero (length c.args.index.now) (sym c.is_empty-2.ensures ∙ c.if-is_empty-2.false) in
    enclosed_added _ _ _ _ _ _ _ _ _ c.in_ok-extend_from_slice.ensures.items
    c.in_ok-append_ordinals.ensures c.extend_from_slice-2.ensures.items
    (some_listed (codes "[") (codes "]") ordinal_text c.args.kinds.now c.args.index.now kinds
    index)
