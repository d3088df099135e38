use Rattle.std.proofs.Common.{◌≡◌, ◌++◌, take, drop}
use Rattle.rule_declares.specs.Declares.{before, after}
use Rattle.rule_outline.proofs.modules.count_before.Given as goal

abbrev pub invariant-loop-export : goal.invariant-loop-export
invariant-loop-export l =
    (l.count ≡ l.export-index)
    × (take l.export-index l.exports ++ before (drop l.export-index l.exports) l.place
    ≡ before l.exports l.place)
    × (after (drop l.export-index l.exports) l.place ≡ after l.exports l.place)
