use Rattle.std.proofs.Common.{◌≡◌, ◌++◌, List, ℕ, take}
use Rattle.text_values.proofs.Listed.{joined}
use Rattle.est_trace.specs.WrittenTraces.{ordinal_texts}
use Rattle.est_trace.proofs.written_ports.append_ordinals.Given as goal

-- so many ordinals were added
abbrev pub invariant-loop-i : goal.invariant-loop-i
invariant-loop-i l = l.text.items
    ≡ l.fn.text.items ++ joined (λ (t : List ℕ). t) (take l.i (ordinal_texts l.kinds l.index))
