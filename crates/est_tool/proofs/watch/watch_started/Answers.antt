use Rattle.call_files.specs.SearchReports.{no_start_line, over_start_line}
use Rattle.call_files.specs.declared.status.Status.TheVariants.{NoStart, OverBudget}
use Rattle.est_tool.specs.inside.Watching.{unready_faults, unready_passes}
use Rattle.est_tool.proofs.WatchLaws.{unready_same}
use Rattle.est_tool.proofs.watch.watch_started.Goals as goal

pub returns-in-Fault : goal.returns-in-Fault
returns-in-Fault g c =
    let is = rw c.in-Fault.is at c.requires.started in
    unready_same c.args.checked.now _ _ _ _ _ _ NoStart (no_start_line c.in-Fault.fault)
    c.not_started.result _ (unready_faults c.in-Fault.fault is) tt c.not_started.ensures
    c.deliver.ensures

pub returns-in-Limit : goal.returns-in-Limit
returns-in-Limit g c =
    let is = rw c.in-Limit.is at c.requires.started in
    unready_same c.args.checked.now _ _ _ _ _ _ OverBudget
    (over_start_line c.args.limits.now.statements) c.start_over.result _ (unready_passes is) tt
    c.start_over.ensures c.deliver-in-Limit.ensures
