use Rattle.std.proofs.Common.{◌≡◌, drop}
use Rattle.rule_declares.specs.Declares.{states_declare}
use Rattle.rule_outline.proofs.declares.states.Given as goal

abbrev pub invariant-loop-used : goal.invariant-loop-used
invariant-loop-used l = states_declare l.within (drop l.used-index l.names) l.outline
    ≡ states_declare l.within l.names l.fn.outline
