use Rattle.std.proofs.Common.{◌≡◌, ◌++◌, take, drop}
use Rattle.rule_declares.specs.Contexts.{dropped}
use Rattle.rule_declares.proofs.context.ClauseKind.position.Given as goal

abbrev pub invariant-loop-given : goal.invariant-loop-given
invariant-loop-given l =
    (l.count ≡ l.given-index)
    × (take l.given-index l.context ++ dropped l.self (drop l.given-index l.context)
    ≡ dropped l.self l.context)
