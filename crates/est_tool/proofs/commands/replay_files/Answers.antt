use Rattle.call_files.specs.declared.file.File.TheVariants as file
use Rattle.call_files.specs.FileTexts.{OfSpecification, RefusesSpecification}
use Rattle.std.proofs.Common.{[]}
use Rattle.est_tool.specs.Ends.{at_specification}
use Rattle.est_tool.specs.Started.{one}
use Rattle.est_tool.proofs.WorkLaws.{stops_at, goes_on, holds_after}
use Rattle.est_tool.proofs.commands.replay_files.Goals as goal

pub returns-in_err-checked : goal.returns-in_err-checked
returns-in_err-checked g c =
    stops_at OfSpecification RefusesSpecification [] _ _ c.from_residual.result _
    c.from_residual.ensures c.in_err-checked.ensures one (λ end at. at_specification end at)

pub returns : goal.returns
returns g c = goes_on OfSpecification RefusesSpecification [] _ _ _ _ _
    c.replay_trace.result c.in_ok-checked.ensures c.replay_trace.ensures

pub replay_trace-requires : goal.replay_trace-requires
replay_trace-requires g c =
    holds_after file.Specification (OfSpecification c.in_ok-checked.checked)
    (c.in_ok-checked.ensures.touches.told c.args.files.now.specification.now)
    c.in_ok-checked.ensures.good
