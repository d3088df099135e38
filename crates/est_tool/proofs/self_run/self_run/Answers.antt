use Rattle.est_tool.specs.SelfRuns.{MadeEnds}
use Rattle.est_tool.specs.inside.SelfRunning.{EndsMaking}
use Rattle.est_tool.proofs.SelfRunLaws.{ready_for}
use Rattle.est_tool.proofs.WorkLaws.{made_then}
use Rattle.est_tool.proofs.self_run.self_run.Goals as goal

pub report_made-requires : goal.report_made-requires
report_made-requires c = ready_for c.args.checked.now c.args.seed c.args.count _
    c.in_ok-made.ensures.made

pub returns : goal.returns
returns c = made_then {P = MadeEnds c.args.checked.now c.in_ok-made.made}
    {Q = EndsMaking c.args.seed c.args.count c.args.checked.now} c.report_made.result
    (λ end at. (c.in_ok-made.made, c.in_ok-made.ensures.made, at)) c.report_made.ensures
