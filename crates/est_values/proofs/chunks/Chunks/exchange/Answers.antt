use Rattle.std.proofs.Common.{rules}
use Rattle.est_values.proofs.LaidLaws.{read_full, get_read, get_past, set_at, full_kept}
use Rattle.est_values.proofs.LaidLaws.{set_behind_full, place_behind, count_kept, count_last}
use Rattle.est_values.proofs.chunks.Chunks.exchange.Goals as goal

pub exchange_in-requires : goal.exchange_in-requires
exchange_in-requires g c = search (rules, read_full)

pub exchange_in-requires-else-at-count : goal.exchange_in-requires-else-at-count
exchange_in-requires-else-at-count g c = search (rules, place_behind)

pub invariant_of-self-then-at-count : goal.invariant_of-self-then-at-count
invariant_of-self-then-at-count g c =
    (search (rules, full_kept), search (rules, count_kept))

pub invariant_of-self-else-at-count : goal.invariant_of-self-else-at-count
invariant_of-self-else-at-count g c = (search rules, search (rules, count_last))

pub returns-in_ok-old-clause-old : goal.returns-in_ok-old-clause-old
returns-in_ok-old-clause-old g c = search (rules, get_read)

pub returns-in_ok-old-clause-ok : goal.returns-in_ok-old-clause-ok
returns-in_ok-old-clause-ok g c = search (rules, set_at)

pub returns-in_ok-old-2-clause-old : goal.returns-in_ok-old-2-clause-old
returns-in_ok-old-2-clause-old g c = search (rules, get_past)

pub returns-in_ok-old-2-clause-ok : goal.returns-in_ok-old-2-clause-ok
returns-in_ok-old-2-clause-ok g c = search (rules, set_behind_full)
