use Rattle.call_files.proofs.WordLaws.{named, unnamed, search_read, is_of_search}
use Rattle.call_files.proofs.words.read_search.Goals as goal

pub returns-in-len3-up : goal.returns-in-len3-up
returns-in-len3-up c =
    search_read _ c.specification-item.result c.searched-item.result c.read_search_limits.result
    c.in-len3-up.len_at_least c.specification-item.is c.searched-item.is
    (named c.specification-item.result _ c.is_empty.ensures c.if-not-is_empty.true)
    (named c.searched-item.result _ c.is_empty-then-not-is_empty.ensures c.if-not-is_empty-2.true)
    c.read_search_limits.ensures

pub returns-in_default-2 : goal.returns-in_default-2
returns-in_default-2 c = λ n b m are.
    (is_of_search _ n b m are).searched c.searched-item.result c.searched-item.is
    (unnamed c.searched-item.result _ c.is_empty-then-not-is_empty.ensures c.if-not-is_empty-2.false)

pub returns-in_default-3 : goal.returns-in_default-3
returns-in_default-3 c = λ n b m are.
    (is_of_search _ n b m are).named c.specification-item.result c.specification-item.is
    (unnamed c.specification-item.result _ c.is_empty.ensures c.if-not-is_empty.false)
