use Rattle.call_files.specs.FileTexts.{OfSpecification, RefusesSpecification}
use Rattle.call_files.proofs.ReadLaws.{reads_nothing, reads_text}
use Rattle.call_files.proofs.specification.specification_in.Goals as goal

pub returns-in_err-text : goal.returns-in_err-text
returns-in_err-text g c =
    reads_nothing RefusesSpecification OfSpecification c.from_residual.result _
    c.from_residual.ensures c.in_err-text.ensures

pub returns : goal.returns
returns g c =
    reads_text RefusesSpecification OfSpecification c.specification_of.result c.in_ok-text.text
    c.as_slice.result.now c.as_slice.ensures.value c.in_ok-text.ensures
    c.specification_of.ensures
