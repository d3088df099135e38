use Rattle.call_files.specs.declared.file.File.TheVariants as file
use Rattle.call_files.specs.FileTexts.{OfSpecification, RefusesSpecification}
use Rattle.std.proofs.Common.{[]}
use Rattle.est_tool.specs.PortsEnds.{refused_at_specification}
use Rattle.est_tool.specs.Started.{first_alone}
use Rattle.est_tool.proofs.WorkLaws.{stops_at, goes_on, holds_after}
use Rattle.est_tool.proofs.ports.ports_files.Goals as goal

pub returns-in_err-checked : goal.returns-in_err-checked
returns-in_err-checked g c =
    stops_at OfSpecification RefusesSpecification [] _ _ c.from_residual.result _
    c.from_residual.ensures c.in_err-checked.ensures first_alone
    (λ end at. refused_at_specification end at)

pub returns : goal.returns
returns g c = goes_on OfSpecification RefusesSpecification [] _ _ _ _ _
    c.explain_lists.result c.in_ok-checked.ensures c.explain_lists.ensures

pub explain_lists-requires : goal.explain_lists-requires
explain_lists-requires g c =
    holds_after file.Specification (OfSpecification c.in_ok-checked.checked)
    (c.in_ok-checked.ensures.touches.told c.args.files.now.specification.now)
    c.in_ok-checked.ensures.good
