use Rattle.est_tool.proofs.TraceLaws.{work_reportable, trace_result}
use Rattle.est_tool.proofs.made_trace.write_made.Goals as goal

pub deliver-requires : goal.deliver-requires
deliver-requires g c = work_reportable _ _ _ _ c.made_report.result c.made_report.ensures

pub returns-in-Some : goal.returns-in-Some
returns-in-Some g c =
    trace_result _ _ _ _ _ _ c.made_report.result c.deliver.result c.in-Some.ensures
    c.made_report.ensures c.deliver.ensures
