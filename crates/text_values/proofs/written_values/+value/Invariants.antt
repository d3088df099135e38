use Rattle.std.proofs.Common.{◌≡◌, ◌++◌, List, ℕ, take, length, replicate}
use Rattle.text_values.specs.WrittenValues.{value_texts, field_kinds}
use Rattle.text_values.proofs.Listed.{joined}
use Rattle.text_values.proofs.written_values.+value.Given as goal

-- so many elements were added
abbrev pub invariant-append_elements-loop-i : goal.invariant-append_elements-loop-i
invariant-append_elements-loop-i l = l.text.items ≡ l.fn.text.items
    ++ joined (λ (t : List ℕ). t) (take l.i (value_texts (replicate (length l.parts) l.of) l.parts))

-- so many fields were added
abbrev pub invariant-append_fields-loop-i : goal.invariant-append_fields-loop-i
invariant-append_fields-loop-i l = l.text.items ≡ l.fn.text.items
    ++ joined (λ (t : List ℕ). t) (take l.i (value_texts (field_kinds l.fields) l.parts))
