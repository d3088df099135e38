use Rattle.std.proofs.Common.{drop}
use Rattle.text_values.specs.TraceGrammar.{ordinal}
use Rattle.text_values.specs.ValueShapes.{ShowsOrdinal}
use Rattle.text_values.proofs.Lists.{Halfway}
use Rattle.text_values.proofs.values.subscripts.Given as goal

-- so many items have been read
abbrev pub invariant-loop-i : goal.invariant-loop-i
invariant-loop-i l =
    Halfway ordinal ShowsOrdinal l.kinds l.initial.reader l.i (drop l.i l.kinds) l.reader l.index
