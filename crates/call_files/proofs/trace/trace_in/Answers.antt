use Rattle.call_files.specs.FileTexts.{OfTrace, RefusesTrace}
use Rattle.call_files.proofs.ReadLaws.{reads_nothing, reads_text}
use Rattle.call_files.proofs.trace.trace_in.Goals as goal

pub returns-in_err-text-clause-reads : goal.returns-in_err-text-clause-reads
returns-in_err-text-clause-reads g c =
    reads_nothing (RefusesTrace c.args.checked.now) (OfTrace c.args.checked.now)
    c.from_residual.result _ c.from_residual.ensures c.in_err-text.ensures

pub returns-clause-reads : goal.returns-clause-reads
returns-clause-reads g c =
    reads_text (RefusesTrace c.args.checked.now) (OfTrace c.args.checked.now) c.trace_of.result
    c.in_ok-text.text c.as_slice.result.now c.as_slice.ensures.value c.in_ok-text.ensures
    c.trace_of.ensures.reads
