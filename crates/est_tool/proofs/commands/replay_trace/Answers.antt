use Rattle.call_files.specs.FileTexts.{OfTrace, RefusesTrace}
use Rattle.std.proofs.Common.{[], ◌∷◌}
use Rattle.est_tool.specs.Ends.{at_trace}
use Rattle.est_tool.specs.Started.{two}
use Rattle.est_tool.proofs.WorkLaws.{stops_at, goes_on}
use Rattle.est_tool.proofs.commands.replay_trace.Goals as goal

pub returns-in_err-trace : goal.returns-in_err-trace
returns-in_err-trace g c =
    stops_at (OfTrace c.args.checked.now) (RefusesTrace c.args.checked.now) (_ ∷ []) _ _
    c.from_residual.result _ c.from_residual.ensures c.in_err-trace.ensures.reads
    (two _ c.requires)
    (λ end at. at_trace _ end c.requires at)

pub returns : goal.returns
returns g c = goes_on (OfTrace c.args.checked.now) (RefusesTrace c.args.checked.now) (_ ∷ []) _ _ _
    _ _ c.replay_explanation.result c.in_ok-trace.ensures.reads c.replay_explanation.ensures
