use Rattle.call_files.specs.FileTexts.{OfSpecification, RefusesSpecification}
use Rattle.std.proofs.Common.{refl, []}
use Rattle.est_tool.specs.SelfRuns.{stops_at_its_file, makes}
use Rattle.est_tool.specs.inside.SelfRunning.{EndsMaking}
use Rattle.est_tool.proofs.WorkLaws.{stops_at, ends_made}
use Rattle.est_tool.proofs.self_run.self_run_file.Goals as goal

pub returns-in_err-checked : goal.returns-in_err-checked
returns-in_err-checked g c =
    stops_at OfSpecification RefusesSpecification [] _ _ c.from_residual.result _
    c.from_residual.ensures c.in_err-checked.ensures refl (λ end at. stops_at_its_file end at)

pub returns : goal.returns
returns g c =
    ends_made OfSpecification RefusesSpecification [] _ _ _ c.self_run.result
    (EndsMaking c.args.seed c.args.count c.in_ok-checked.checked)
    c.in_ok-checked.ensures c.self_run.ensures refl
    (λ end (made : EndsMaking c.args.seed c.args.count c.in_ok-checked.checked end).
    makes _ made.0 end c.in_ok-checked.ensures.good made.1 made.2)
