use Rattle.call_files.specs.FileTexts.{OfTrace, RefusesTrace}
use Rattle.std.proofs.Common.{[], ◌∷◌}
use Rattle.est_tool.specs.Ends.{ends_at_trace}
use Rattle.est_tool.specs.Started.{both}
use Rattle.est_tool.proofs.WorkLaws.{stops_at, ends_work, search_reports}
use Rattle.est_tool.proofs.commands.explain_trace.Goals as goal

pub returns-in_err-trace : goal.returns-in_err-trace
returns-in_err-trace g c =
    stops_at (OfTrace c.args.checked.now) (RefusesTrace c.args.checked.now) (_ ∷ []) _ _
    c.from_residual.result _ c.from_residual.ensures c.in_err-trace.ensures.reads
    (both _ c.requires)
    (λ end at. ends_at_trace _ end c.requires at)

pub returns : goal.returns
returns g c =
    ends_work (OfTrace c.args.checked.now) (RefusesTrace c.args.checked.now) (_ ∷ []) _ _ _
    c.explained.result _ c.in_ok-trace.ensures.reads c.explained.ensures
    (both _ c.requires)
    (search_reports _ _ _ c.args.limits.now _ _ c.requires
    c.in_ok-trace.ensures.reads.good)
