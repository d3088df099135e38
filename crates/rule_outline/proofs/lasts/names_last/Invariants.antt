use Rattle.std.proofs.Common.{◌≡◌, drop}
use Rattle.rule_declares.specs.Lasts.{names_last}
use Rattle.rule_outline.proofs.lasts.names_last.Given as goal

abbrev pub invariant-loop-used : goal.invariant-loop-used
invariant-loop-used l = names_last (drop l.used-index l.names) l.last ≡ names_last l.names l.fn.last
