use Rattle.std.proofs.Common.{◌≡◌, ◌<◌, ◌∙◌, ◌++◌, sym, ap, length, arith, codes}
use Rattle.std.proofs.lemmas.List.{append-nil}
use Rattle.text_values.specs.WrittenSeen.{seen_text}
use Rattle.text_values.proofs.Listed.{none_right, some_listed, enclosed_added, above_zero}
use Rattle.text_values.proofs.written_seen.append_seens.Goals as goal

pub returns-then-len-eq0 : goal.returns-then-len-eq0
returns-then-len-eq0 c =
    let old = c.args.text.now.items in
    let empty : length c.args.seens.now ≡ 0 = sym c.len.ensures ∙ c.if-len-eq0.true in
    sym (append-nil old) ∙ ap (λ t. old ++ t)
    (none_right (codes "(") (codes ")") seen_text c.args.kinds.now c.args.seens.now empty)

pub returns : goal.returns
returns c =
    let kinds : 0 < length c.args.kinds.now =
    above_zero (length c.args.kinds.now) (sym c.is_empty.ensures ∙ c.if-is_empty.false) in
    let seens : 0 < length c.args.seens.now =
    omega (arith, c.len.ensures, c.if-len-eq0.false) in
    enclosed_added _ _ _ _ _ _ _ _ _ c.in_ok-extend_from_slice.ensures.items
    c.in_ok-append_parameters.ensures c.extend_from_slice-2.ensures.items
    (some_listed (codes "(") (codes ")") seen_text c.args.kinds.now c.args.seens.now kinds
    seens)
