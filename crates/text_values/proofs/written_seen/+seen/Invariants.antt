use Rattle.std.proofs.Common.{◌≡◌, ◌++◌, List, ℕ, take}
use Rattle.text_values.specs.WrittenSeen.{seen_part_texts}
use Rattle.text_values.proofs.Listed.{joined}
use Rattle.text_values.proofs.written_seen.+seen.Given as goal

-- so many parts were added
abbrev pub invariant-append_parts-loop-i : goal.invariant-append_parts-loop-i
invariant-append_parts-loop-i l = l.text.items ≡ l.fn.text.items
    ++ joined (λ (t : List ℕ). t) (take l.i (seen_part_texts l.kind l.parts))
