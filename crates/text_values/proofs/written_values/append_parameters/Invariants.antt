use Rattle.std.proofs.Common.{◌≡◌, ◌++◌, List, ℕ, take}
use Rattle.text_values.specs.WrittenValues.{value_texts}
use Rattle.text_values.proofs.Listed.{joined}
use Rattle.text_values.proofs.written_values.append_parameters.Given as goal

-- so many values were added
abbrev pub invariant-loop-i : goal.invariant-loop-i
invariant-loop-i l = l.text.items
    ≡ l.fn.text.items ++ joined (λ (t : List ℕ). t) (take l.i (value_texts l.kinds l.values))
