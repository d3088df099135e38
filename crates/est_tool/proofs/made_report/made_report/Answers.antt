use Rattle.est_tool.proofs.TraceLaws.{stops, goes_on}
use Rattle.est_tool.proofs.made_report.made_report.Goals as goal

pub returns-in_err-checked : goal.returns-in_err-checked
returns-in_err-checked g c =
    stops c.args.asked.now.specification.now c.args.asked.now.seed c.args.asked.now.count _
    c.from_residual.result _ c.from_residual.ensures c.in_err-checked.ensures

pub returns : goal.returns
returns g c =
    goes_on c.args.asked.now.specification.now c.args.asked.now.seed c.args.asked.now.count _ _
    c.report_of.result c.in_ok-checked.ensures c.report_of.ensures
