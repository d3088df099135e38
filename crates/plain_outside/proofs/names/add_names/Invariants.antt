use Rattle.std.proofs.Common.{take}
use Rattle.plain_outside.specs.inside.NamedPlaces.{AreFirst}
use Rattle.plain_outside.proofs.names.add_names.Given as goal

-- the names before this number are kept
abbrev pub invariant-loop-number : goal.invariant-loop-number
invariant-loop-number l = AreFirst (take l.number l.region) l.names.entries
