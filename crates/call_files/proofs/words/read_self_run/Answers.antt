use Rattle.call_files.proofs.WordLaws.{named, unnamed, is_self_run, is_self_run_of}
use Rattle.call_files.proofs.words.read_self_run.Goals as goal

pub returns-in-Some-clause-asked : goal.returns-in-Some-clause-asked
returns-in-Some-clause-asked c =
    is_self_run _ c.specification-item.result c.seed-item.result c.count-item.result _ _
    c.requires c.in-len4.len_at_least c.in-len4.len_below
    c.specification-item.is c.seed-item.is c.count-item.is
    (named c.specification-item.result _ c.is_empty.ensures c.if-not-is_empty.true)
    (rw c.as_str-in-len4.ensures.value at (rw c.as_str.ensures.value at c.in-Some.ensures))

pub returns-in-None-clause-refused : goal.returns-in-None-clause-refused
returns-in-None-clause-refused c = λ request asked.
    let of : _ = is_self_run_of _ c.requires request asked in
    (rw c.as_str-in-len4.ensures.value at (rw c.as_str.ensures.value at c.in-None.ensures))
    of.seed of.count (of.recipe _ _ c.seed-item.is c.count-item.is)

pub returns-in_default-2-clause-refused : goal.returns-in_default-2-clause-refused
returns-in_default-2-clause-refused c = λ request asked.
    (is_self_run_of _ c.requires request asked).named c.specification-item.result
    c.specification-item.is
    (unnamed c.specification-item.result _ c.is_empty.ensures c.if-not-is_empty.false)
