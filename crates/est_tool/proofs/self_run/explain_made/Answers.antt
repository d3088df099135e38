use Rattle.std.proofs.Common.{◌∙◌, length, ap, refl, sym}
use Rattle.call_files.specs.est_trace.WrittenTraces.{trace_text}
use Rattle.est_tool.proofs.SelfRunLaws.{written_ends}
use Rattle.est_tool.proofs.WorkLaws.{made_then}
use Rattle.est_tool.proofs.self_run.explain_made.Goals as goal

pub returns : goal.returns
returns c = made_then c.explain_text.result
    (written_ends c.args.checked.now c.args.trace.now c.args.run.now c.as_slice.result.now _
    (c.as_slice.ensures.value ∙ (c.in_ok-text.ensures
    ∙ ap (λ ps. trace_text ps c.args.trace.now) c.ports.ensures))
    (c.len.ensures ∙ ap length c.events.ensures) (c.len-2.ensures ∙ sym c.as_slice.ensures.len) refl) c.explain_text.ensures
