use Rattle.std.proofs.Common.{◌≡◌, ◌++◌, List, ℕ, take}
use Rattle.text_values.specs.WrittenSeen.{seen_texts}
use Rattle.text_values.proofs.Listed.{joined}
use Rattle.text_values.proofs.written_seen.append_parameters.Given as goal

-- so many were added
abbrev pub invariant-loop-i : goal.invariant-loop-i
invariant-loop-i l = l.text.items
    ≡ l.fn.text.items ++ joined (λ (t : List ℕ). t) (take l.i (seen_texts l.kinds l.seens))
