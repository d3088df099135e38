use Rattle.std.proofs.Common.{◌≡◌, drop}
use Rattle.est_check.specs.Clauses.{names_choices}
use Rattle.est_check.proofs.clauses.names_choices.Given as goal

abbrev pub invariant-loop-used : goal.invariant-loop-used
invariant-loop-used l = names_choices l.outline l.choices l.product (drop l.used-index l.names)
    ≡ names_choices l.outline l.choices l.number l.names
