use Rattle.std.proofs.Common.{◌≡◌, drop}
use Rattle.rule_uses.specs.Closed.{all_free}
use Rattle.rule_uses.specs.NamesInTexts.{constants_names}
use Rattle.rule_uses.proofs.text.constants.Given as goal

abbrev pub invariant-loop-one : goal.invariant-loop-one
invariant-loop-one l =
    all_free l.outline l.routine (constants_names (drop l.one-index l.constants))
    ≡ all_free l.outline l.routine (constants_names l.constants)
