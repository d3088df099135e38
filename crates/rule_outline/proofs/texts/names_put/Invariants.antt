use Rattle.std.proofs.Common.{◌≡◌, drop}
use Rattle.rule_declares.specs.Declares.{names_put}
use Rattle.rule_outline.proofs.texts.names_put.Given as goal

abbrev pub invariant-loop-used : goal.invariant-loop-used
invariant-loop-used l = names_put l.region (drop l.used-index l.names) l.member l.outline
    ≡ names_put l.region l.names l.member l.fn.outline
