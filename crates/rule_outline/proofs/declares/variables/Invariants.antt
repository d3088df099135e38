use Rattle.std.proofs.Common.{◌≡◌, drop}
use Rattle.rule_declares.specs.rule_scope.declared.declaration.Sort.TheVariants as sort
use Rattle.rule_declares.specs.Declares.{names_declare}
use Rattle.rule_declares.specs.Entries.{plain}
use Rattle.rule_outline.proofs.declares.variables.Given as goal

abbrev pub invariant-loop-used : goal.invariant-loop-used
invariant-loop-used l =
    names_declare l.within (drop l.used-index l.names) l.last (plain l.within sort.Variable)
    l.outline
    ≡ names_declare l.within l.names l.last (plain l.within sort.Variable) l.fn.outline
