use Rattle.call_files.proofs.WordLaws.{named, unnamed, is_watch, is_watch_of}
use Rattle.call_files.proofs.words.read_watch.Goals as goal

pub returns-in-Some-clause-asked : goal.returns-in-Some-clause-asked
returns-in-Some-clause-asked c =
    is_watch _ c.specification-item.result c.in-Some.limits c.requires c.in-len2-up.len_at_least
    c.specification-item.is
    (named c.specification-item.result _ c.is_empty.ensures c.if-not-is_empty.true)
    c.in-Some.ensures

pub returns-in-None-clause-refused : goal.returns-in-None-clause-refused
returns-in-None-clause-refused c = λ request asked.
    let of : _ = is_watch_of _ c.requires request asked in
    c.in-None.ensures of.silent of.budget of.statements of.limits

pub returns-in_default-2-clause-refused : goal.returns-in_default-2-clause-refused
returns-in_default-2-clause-refused c = λ request asked.
    (is_watch_of _ c.requires request asked).named c.specification-item.result
    c.specification-item.is
    (unnamed c.specification-item.result _ c.is_empty.ensures c.if-not-is_empty.false)
