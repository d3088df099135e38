use Rattle.std.proofs.Common.{ap, sym, ◌∙◌}
use Rattle.est_meaning.specs.mean_blocks.TextByPlace.{Text}
use Rattle.est_tool.proofs.WatchLaws.{speaks_alone, spent_same}
use Rattle.est_tool.proofs.watch.watch_checked.Goals as goal

pub watch_started-requires-clause-alone : goal.watch_started-requires-clause-alone
watch_started-requires-clause-alone g c =
    speaks_alone _ _ _ _ _ c.args.checked.now c.in-Ok.started
    (λ world a b one other. ap (λ (t : Text). t.spec) (sym one ∙ other)) c.in-Ok.ensures

pub returns-in-Err : goal.returns-in-Err
returns-in-Err g c = spent_same c.args.checked.now _ _ _ _ _ _ _
