use Rattle.std.proofs.Common.{◌≡◌, drop}
use Rattle.rule_scope.specs.Outline.{found}
use Rattle.rule_scope.proofs.outline.Outline.found.Given as goal

abbrev pub invariant-loop-region : goal.invariant-loop-region
invariant-loop-region l = found l.self (drop l.region-index l.regions) l.name.bytes l.place
    ≡ found l.self l.regions l.name.bytes l.place
