use Rattle.text_values.specs.inside.Gathering.{IsAscending}
use Rattle.text_reader.proofs.Steps.{left_of}
use Rattle.text_values.proofs.SetParts.{Gathered}
use Rattle.text_values.proofs.sets.members.Given as goal

-- the members so far
abbrev pub invariant-loop-reader : goal.invariant-loop-reader
invariant-loop-reader l =
    Gathered l.base l.fn.reader l.reader l.members × IsAscending l.members

abbrev pub decreases-loop-reader : goal.decreases-loop-reader
decreases-loop-reader l = left_of l.reader
