use Rattle.call_files.specs.FileTexts.{OfLists, RefusesLists}
use Rattle.call_files.proofs.ReadLaws.{reads_nothing, reads_text}
use Rattle.call_files.proofs.lists.lists_in.Goals as goal

pub returns-in_err-text-clause-reads : goal.returns-in_err-text-clause-reads
returns-in_err-text-clause-reads g c =
    reads_nothing (RefusesLists c.args.checked.now) (OfLists c.args.checked.now)
    c.from_residual.result _ c.from_residual.ensures c.in_err-text.ensures

pub returns-clause-reads : goal.returns-clause-reads
returns-clause-reads g c =
    reads_text (RefusesLists c.args.checked.now) (OfLists c.args.checked.now) c.lists_of.result
    c.in_ok-text.text c.as_slice.result.now c.as_slice.ensures.value c.in_ok-text.ensures
    c.lists_of.ensures.reads
