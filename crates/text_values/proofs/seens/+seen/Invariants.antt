use Rattle.std.proofs.Common.{◌-◌, drop, replicate}
use Rattle.text_values.specs.TraceGrammar.{a_seen, field_kinds}
use Rattle.text_values.specs.SeenShapes.{ShowsSeen}
use Rattle.text_values.proofs.Lists.{Halfway}
use Rattle.text_values.proofs.seens.+seen.Given as goal

-- so many values have been read
abbrev pub invariant-elements-loop-i : goal.invariant-elements-loop-i
invariant-elements-loop-i l =
    Halfway a_seen ShowsSeen (replicate l.count l.of) l.initial.reader l.i
    (replicate (l.count - l.i) l.of) l.reader l.seens

abbrev pub invariant-components-loop-i : goal.invariant-components-loop-i
invariant-components-loop-i l =
    Halfway a_seen ShowsSeen (field_kinds l.fields) l.initial.reader l.i
    (drop l.i (field_kinds l.fields)) l.reader l.seens
