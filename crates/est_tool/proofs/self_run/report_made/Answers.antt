use Rattle.std.proofs.Common.{◌∙◌, ap, sym, subst}
use Rattle.run_make.specs.declared.made.Made.TheVariants as made
use Rattle.est_tool.specs.inside.Work.{IsMade}
use Rattle.est_tool.specs.SelfRuns.{MadeEnds, faults, start_passes, passes}
use Rattle.est_tool.proofs.WorkLaws.{given_one}
use Rattle.est_tool.proofs.self_run.report_made.Goals as goal

pub returns-in-Trace : goal.returns-in-Trace
returns-in-Trace c =
    subst (λ m. IsMade (MadeEnds c.args.checked.now m) c.explain_made.result)
    (ap (λ run. made.Trace c.in-Trace.trace run) c.as_slice.ensures ∙ sym c.in-Trace.is)
    c.explain_made.ensures

pub returns-in-NoStart : goal.returns-in-NoStart
returns-in-NoStart c =
    subst (λ m. IsMade (MadeEnds c.args.checked.now m) c.not_started.result) (sym c.in-NoStart.is)
    (given_one (MadeEnds c.args.checked.now (made.NoStart c.in-NoStart.fault)) _ _
    c.not_started.result (faults _) c.not_started.ensures)

pub returns-in-StartLimit : goal.returns-in-StartLimit
returns-in-StartLimit c =
    subst (λ m. IsMade (MadeEnds c.args.checked.now m) c.start_over.result)
    (sym c.in-StartLimit.is)
    (given_one (MadeEnds c.args.checked.now made.StartLimit) _ _ c.start_over.result start_passes
    c.start_over.ensures)

pub returns-in-Limit : goal.returns-in-Limit
returns-in-Limit c =
    subst (λ m. IsMade (MadeEnds c.args.checked.now m) c.over_limit.result)
    (ap (λ run. made.Limit run) c.as_slice-in-Limit.ensures ∙ sym c.in-Limit.is)
    (given_one (MadeEnds c.args.checked.now (made.Limit c.as_slice-in-Limit.result.now)) _ _
    c.over_limit.result (passes _) c.over_limit.ensures)
