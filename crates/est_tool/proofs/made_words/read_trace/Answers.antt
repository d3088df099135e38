use Rattle.call_files.proofs.WordLaws.{named}
use Rattle.est_tool.proofs.WordLaws.{is_trace, asks_so, is_trace_of}
use Rattle.est_tool.proofs.made_words.read_trace.Goals as goal

pub returns-in-Some : goal.returns-in-Some
returns-in-Some c =
    asks_so c.as_str-in-Some.ensures.value
    (is_trace _ c.specification-item.result c.seed-item.result c.count-item.result _ _
    c.requires c.in-len4.len_at_least c.in-len4.len_below
    c.specification-item.is c.seed-item.is c.count-item.is
    (named c.specification-item.result _ c.is_empty.ensures c.if-not-is_empty.true)
    (rw c.as_str-in-len4.ensures.value at (rw c.as_str.ensures.value at c.in-Some.ensures)))

pub returns-in-None : goal.returns-in-None
returns-in-None c = λ s n m asked.
    let of : _ = is_trace_of _ s n m asked in
    (rw c.as_str-in-len4.ensures.value at (rw c.as_str.ensures.value at c.in-None.ensures))
    of.seed of.count (of.recipe _ _ c.seed-item.is c.count-item.is)
