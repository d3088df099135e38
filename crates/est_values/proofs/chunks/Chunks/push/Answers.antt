use Rattle.std.proofs.Common.{rules}
use Rattle.est_values.proofs.LaidLaws.{full_more, count_moved, count_append, laid_moved}
use Rattle.est_values.proofs.LaidLaws.{laid_append}
use Rattle.est_values.proofs.chunks.Chunks.push.Goals as goal

pub invariant_of-self-then-len-eq-WIDTH : goal.invariant_of-self-then-len-eq-WIDTH
invariant_of-self-then-len-eq-WIDTH g c =
    (search (rules, full_more), search (rules, count_moved))

pub invariant_of-self-else-len-eq-WIDTH : goal.invariant_of-self-else-len-eq-WIDTH
invariant_of-self-else-len-eq-WIDTH g c = (search rules, search (rules, count_append))

pub returns-in_ok-join-clause-ok : goal.returns-in_ok-join-clause-ok
returns-in_ok-join-clause-ok g c = search (rules, laid_moved)

pub returns-in_ok-push-clause-ok : goal.returns-in_ok-push-clause-ok
returns-in_ok-push-clause-ok g c = search (rules, laid_append)
