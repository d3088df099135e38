use Rattle.std.proofs.Common.{◌≡◌, drop}
use Rattle.rule_declares.specs.Declares.{kinds_given}
use Rattle.rule_outline.proofs.texts.kinds_given.Given as goal

abbrev pub invariant-loop-used : goal.invariant-loop-used
invariant-loop-used l = kinds_given (drop l.used-index l.names) l.kind l.outline
    ≡ kinds_given l.names l.kind l.fn.outline
