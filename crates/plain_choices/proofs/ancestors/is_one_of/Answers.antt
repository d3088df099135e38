use Rattle.std.proofs.lemmas.List.Sorted.{searched}
use Rattle.plain_choices.proofs.Findings.{one_of_sorted}
use Rattle.plain_choices.proofs.ancestors.is_one_of.Goals as goal

pub returns : goal.returns
returns c = one_of_sorted c.args.numbers.now c.args.number c.binary_search.result c.is_ok.result
    (searched c.args.numbers.now c.args.number c.binary_search.result
    c.binary_search.ensures.position c.requires) c.is_ok.ensures.value
