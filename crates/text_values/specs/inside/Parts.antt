-- The kinds of the parts of a group.
use Rattle.std.specs.Prelude.{◌≡◌, ◌<◌, ℕ, Option, slice_get}
use Rattle.est_syntax.specs.declared.kind.Kind.{Kind, out-Kind}
use Rattle.text_values.specs.WrittenValues.{kinds_by}

-- the kind of the part of this number, in a group of a kind with more parts than stand before it
abbrev pub IsPartKind : Kind → ℕ → Option Kind → Type 0
IsPartKind k i part = (n : ℕ) → i < n → slice_get (kinds_by (out-Kind k) n) i ≡ part
