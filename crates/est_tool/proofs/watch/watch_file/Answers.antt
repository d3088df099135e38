use Rattle.est_tool.proofs.WatchLaws.{stopped_at_file, watched_whole}
use Rattle.est_tool.proofs.watch.watch_file.Goals as goal

pub returns-in-Ok : goal.returns-in-Ok
returns-in-Ok g c =
    watched_whole _ _ _ _ _ _ _ _ _ c.in-Ok.checked _ c.in-Ok.ensures c.watch_checked.ensures

pub returns-in-Err : goal.returns-in-Err
returns-in-Err g c =
    stopped_at_file _ _ _ _ _ _ _ c.in-Err.stop _ c.in-Err.ensures c.deliver.ensures
