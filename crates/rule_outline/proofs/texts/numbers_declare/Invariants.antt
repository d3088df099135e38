use Rattle.std.proofs.Common.{◌≡◌, drop}
use Rattle.rule_declares.specs.Declares.{numbers_declare}
use Rattle.rule_outline.proofs.texts.numbers_declare.Given as goal

abbrev pub invariant-loop-number : goal.invariant-loop-number
invariant-loop-number l = numbers_declare l.within (drop l.number l.names) l.last l.number l.outline
    ≡ numbers_declare l.within l.names l.last 0 l.fn.outline
