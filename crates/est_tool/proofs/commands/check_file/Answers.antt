use Rattle.call_files.specs.FileTexts.{OfSpecification, RefusesSpecification}
use Rattle.std.proofs.Common.{refl, []}
use Rattle.est_tool.specs.Ends.{TellsCounts, at_its_file}
use Rattle.est_tool.proofs.WorkLaws.{stops_at, ends_work, check_reports}
use Rattle.est_tool.proofs.commands.check_file.Goals as goal

pub returns-in_err-checked : goal.returns-in_err-checked
returns-in_err-checked g c =
    stops_at OfSpecification RefusesSpecification [] _ _ c.from_residual.result _
    c.from_residual.ensures c.in_err-checked.ensures refl (λ end at. at_its_file end at)

pub returns : goal.returns
returns g c =
    ends_work OfSpecification RefusesSpecification [] _ _ _ c.counted.result _
    c.in_ok-checked.ensures c.counted.ensures refl
    (check_reports TellsCounts _ _ _ c.in_ok-checked.ensures.good)
