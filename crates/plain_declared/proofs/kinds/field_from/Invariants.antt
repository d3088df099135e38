use Rattle.std.proofs.Common.{◌≡◌, drop}
use Rattle.mean_blocks.specs.NamesInRuns.{field_from}
use Rattle.plain_declared.proofs.kinds.field_from.Given as goal

abbrev pub invariant-loop-number : goal.invariant-loop-number
invariant-loop-number l = field_from l.number (drop l.number l.fields) l.name.bytes
    ≡ field_from 0 l.fields l.name.bytes
