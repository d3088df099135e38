use Rattle.std.proofs.Common.{◌≡◌, ◌++◌, length, map}
use Rattle.std.specs.Vec.Iter.{into_iter_items, into_iter_len}
use Rattle.est_meaning.specs.declared.trace.Expected.TheVariants.{Known}
use Rattle.est_trace.proofs.lines.known_events.Given as goal

-- so many events were taken out
abbrev pub invariant-loop-one : goal.invariant-loop-one
invariant-loop-one l = (map Known l.events ++ into_iter_items l.one-iterator ≡ l.fn.expected)
    × (into_iter_len l.one-iterator ≡ length (into_iter_items l.one-iterator))
