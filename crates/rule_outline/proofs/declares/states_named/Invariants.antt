use Rattle.std.proofs.Common.{◌≡◌, ◌++◌, drop}
use Rattle.rule_declares.specs.Declares.{states_named}
use Rattle.rule_outline.proofs.declares.states_named.Given as goal

abbrev pub invariant-loop-used : goal.invariant-loop-used
invariant-loop-used l =
    l.places ++ states_named l.outline (drop l.used-index l.names)
    ≡ states_named l.outline l.names
