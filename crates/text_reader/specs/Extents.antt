-- Where the places that a tree keeps lie, and how many tokens it keeps.
use Rattle.std.specs.Prelude.{ℕ, ◌+◌, ◌≤◌}
use Rattle.text_reader.specs.Grammar.{Shape, nothing, leaf, placed, both, left, right, some}

-- how many tokens a shape keeps
abbrev pub leaves : {V : Type 0} → Shape V → ℕ
leaves nothing = 0
leaves (leaf v) = 1
leaves (placed p t) = leaves t
leaves (both t u) = leaves t + leaves u
leaves (left t) = leaves t
leaves (right t) = leaves t
leaves (some t) = leaves t

-- each place in a shape lies from place a on, and with the tokens that are kept after it no later
-- than place b
abbrev pub IsPlacedWithin : {V : Type 0} → ℕ → ℕ → Shape V → Type 0
IsPlacedWithin a b nothing = Unit {0}
IsPlacedWithin a b (leaf v) = Unit {0}
IsPlacedWithin a b (placed p t) = (a ≤ p) × (p + leaves t ≤ b) × IsPlacedWithin a b t
IsPlacedWithin a b (both t u) = IsPlacedWithin a b t × IsPlacedWithin a b u
IsPlacedWithin a b (left t) = IsPlacedWithin a b t
IsPlacedWithin a b (right t) = IsPlacedWithin a b t
IsPlacedWithin a b (some t) = IsPlacedWithin a b t
