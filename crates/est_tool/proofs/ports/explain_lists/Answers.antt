use Rattle.call_files.specs.FileTexts.{OfLists, RefusesLists}
use Rattle.std.proofs.Common.{[], ◌∷◌}
use Rattle.est_tool.specs.PortsEnds.{refused_at_lists}
use Rattle.est_tool.specs.Started.{both}
use Rattle.est_tool.proofs.WorkLaws.{stops_at, ends_work, lists_reports}
use Rattle.est_tool.proofs.ports.explain_lists.Goals as goal

pub returns-in_err-lists : goal.returns-in_err-lists
returns-in_err-lists g c =
    stops_at (OfLists c.args.checked.now) (RefusesLists c.args.checked.now) (_ ∷ []) _ _
    c.from_residual.result _ c.from_residual.ensures c.in_err-lists.ensures.reads
    (both _ c.requires)
    (λ end at. refused_at_lists _ end c.requires at)

pub returns : goal.returns
returns g c =
    ends_work (OfLists c.args.checked.now) (RefusesLists c.args.checked.now) (_ ∷ []) _ _ _
    c.explained.result _ c.in_ok-lists.ensures.reads c.explained.ensures
    (both _ c.requires)
    (lists_reports _ _ _ c.args.limits.now _ _ c.requires
    c.in_ok-lists.ensures.reads.good)
