use Rattle.std.proofs.Common.{◌≡◌, drop}
use Rattle.rule_declares.specs.Lasts.{by_last}
use Rattle.rule_outline.proofs.lasts.by_last.Given as goal

abbrev pub invariant-loop-part : goal.invariant-loop-part
invariant-loop-part l = by_last (drop l.part-index l.by) l.last ≡ by_last l.by l.fn.last
