use Rattle.std.proofs.Common.{drop}
use Rattle.text_values.specs.TraceGrammar.{a_seen}
use Rattle.text_values.specs.SeenShapes.{ShowsSeen}
use Rattle.text_values.proofs.Lists.{Halfway}
use Rattle.text_values.proofs.seens.seens.Given as goal

-- so many items have been read
abbrev pub invariant-loop-i : goal.invariant-loop-i
invariant-loop-i l =
    Halfway a_seen ShowsSeen l.kinds l.initial.reader l.i (drop l.i l.kinds) l.reader l.seens
