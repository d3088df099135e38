use Rattle.call_files.proofs.ReadLaws.{stop_then, stops_for}
use Rattle.est_tool.specs.inside.Work.{IsMade}
use Rattle.est_tool.specs.inside.SelfRunning.{EndsWritten, IsSearchedFor, at_text, at_trace}
use Rattle.est_tool.proofs.WorkLaws.{given}
use Rattle.est_tool.proofs.self_run.explain_text.Goals as goal

pub returns-in_err-trace : goal.returns-in_err-trace
returns-in_err-trace c =
    stops_for (IsMade (EndsWritten c.args.sizes c.args.checked.now c.args.text.now))
    c.from_residual.result _ c.from_residual.ensures
    (stop_then {Q = EndsWritten c.args.sizes c.args.checked.now c.args.text.now} _
    (λ end at. at_text end at) c.in_err-trace.ensures.takes.ended)

pub returns : goal.returns
returns c = given (IsSearchedFor c.args.sizes c.args.checked.now c.in_ok-trace.trace)
    (EndsWritten c.args.sizes c.args.checked.now c.args.text.now) c.explain_read.result
    (λ status report found. at_trace _ status report c.in_ok-trace.ensures.takes.good found)
    c.explain_read.ensures
