use Rattle.std.proofs.Common.{sym, ◌∙◌}
use Rattle.est_trace.proofs.WholeLines.{sees_first}
use Rattle.est_trace.proofs.lines.is_end.Goals as goal

pub returns : goal.returns
returns c =
    let at = sees_first c.new-reader.ensures c.sees_word.ensures in
    (λ e. (sym c.count.ensures ∙ c.if-count-ne1.false, at ∙ e), λ h. sym at ∙ h.1)
