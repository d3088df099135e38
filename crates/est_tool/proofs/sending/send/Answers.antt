use Rattle.est_tool.proofs.ResultLaws.{sends_whole, sends_part}
use Rattle.est_tool.proofs.sending.send.Goals as goal

pub returns-in-Ok : goal.returns-in-Ok
returns-in-Ok g c = sends_whole c.args.report _ c.as_slice.result.now c.as_slice.ensures.value
    c.requires c.in-Ok.ensures.ok c.in-Ok.ensures.quiet

pub returns : goal.returns
returns g c = sends_part c.args.report _ c.as_slice.result.now c.in-Err.ensures.err.0
    c.as_slice.ensures.value c.in-Err.ensures.err.1 c.in-Err.ensures.err.2 c.in-Err.ensures.failed
