use Rattle.std.proofs.Common.{◌≡◌, ◌++◌, map, drop}
use Rattle.est_syntax.specs.declared.name.Used.{Used}
use Rattle.rule_kinds.proofs.composed.copy_names.Given as goal

abbrev pub invariant-loop-used : goal.invariant-loop-used
invariant-loop-used l = l.copies ++ map (λ (u : Used). u.name) (drop l.used-index l.names)
    ≡ map (λ (u : Used). u.name) l.names
