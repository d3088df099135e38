use Rattle.std.proofs.Common.{rules}
use Rattle.est_values.proofs.LaidLaws.{full_drop, count_there, count_drop, laid_drop}
use Rattle.est_values.proofs.LaidLaws.{items_there, last_there, count_last_drop}
use Rattle.est_values.proofs.chunks.Chunks.cut.Goals as goal

pub overflow_sub-self : goal.overflow_sub-self
overflow_sub-self g c =
    last_there
    c.self.inside.count
    c.self.inside.full
    c.self.inside.last
    c.args.before
    (search rules)
    (search rules)
    (search rules)

pub overflow_sub-self-2 : goal.overflow_sub-self-2
overflow_sub-self-2 g c = search (rules, count_there)

pub invariant_of-self : goal.invariant_of-self
invariant_of-self g c = (search rules, search (rules, count_last_drop))

pub invariant_of-self-2 : goal.invariant_of-self-2
invariant_of-self-2 g c = (search (rules, full_drop), search (rules, count_drop))

pub returns-clause-there : goal.returns-clause-there
returns-clause-there g c = search (rules, items_there)

pub returns-clause-ok : goal.returns-clause-ok
returns-clause-ok g c = search (rules, laid_drop)
