use Rattle.std.proofs.Common.{◌≡◌, ◌++◌, take}
use Rattle.text_values.specs.WrittenOrdinals.{ordinal_text}
use Rattle.text_values.proofs.Listed.{joined}
use Rattle.text_values.proofs.written_sets.append_members.Given as goal

-- so many members were added
abbrev pub invariant-loop-i : goal.invariant-loop-i
invariant-loop-i l = l.text.items
    ≡ l.fn.text.items ++ joined (ordinal_text l.base) (take l.i l.members)
