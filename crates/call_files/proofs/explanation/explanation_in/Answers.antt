use Rattle.call_files.specs.FileTexts.{OfExplanation, RefusesExplanation}
use Rattle.call_files.proofs.ReadLaws.{reads_nothing, reads_text}
use Rattle.call_files.proofs.explanation.explanation_in.Goals as goal

pub returns-in_err-text-clause-reads : goal.returns-in_err-text-clause-reads
returns-in_err-text-clause-reads g c =
    reads_nothing RefusesExplanation OfExplanation c.from_residual.result _ c.from_residual.ensures
    c.in_err-text.ensures

pub returns-clause-reads : goal.returns-clause-reads
returns-clause-reads g c =
    reads_text RefusesExplanation OfExplanation c.explanation_of.result c.in_ok-text.text
    c.as_slice.result.now c.as_slice.ensures.value c.in_ok-text.ensures
    c.explanation_of.ensures.reads
