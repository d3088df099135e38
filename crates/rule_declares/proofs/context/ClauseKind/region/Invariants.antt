use Rattle.std.proofs.Common.{◌≡◌, drop}
use Rattle.rule_declares.specs.Contexts.{region_of}
use Rattle.rule_declares.proofs.context.ClauseKind.region.Given as goal

abbrev pub invariant-loop-given : goal.invariant-loop-given
invariant-loop-given l = region_of l.self (drop l.given-index l.context) ≡ region_of l.self
    l.context
