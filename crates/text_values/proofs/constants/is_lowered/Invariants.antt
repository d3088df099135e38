use Rattle.std.proofs.Common.{◌≡◌, ◌<◌, ℕ, get_or}
use Rattle.std.specs.Char.{to_ascii_lowercase}
use Rattle.text_values.proofs.constants.is_lowered.Given as goal

-- the bytes before the place are those of the name
abbrev pub invariant-loop-i : goal.invariant-loop-i
invariant-loop-i l = (j : ℕ) → j < l.i → get_or l.name j 0 ≡ to_ascii_lowercase (get_or l.bytes j 0)
