use Rattle.std.proofs.Common.{◌≡◌, drop}
use Rattle.rule_declares.specs.Lasts.{vars_last}
use Rattle.rule_outline.proofs.lasts.+last.Given as goal

abbrev pub invariant-vars_last-loop-var : goal.invariant-vars_last-loop-var
invariant-vars_last-loop-var l = vars_last (drop l.var-index l.vars) l.last ≡ vars_last l.vars
    l.fn.last
