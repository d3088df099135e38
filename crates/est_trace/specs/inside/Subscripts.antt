-- Which subscripts a port has.
use Rattle.std.specs.Prelude.{◌≡◌, ℕ, ℤ, List, Some, slice_get}
use Rattle.est_syntax.specs.declared.ports.Port.{Port}

-- these are the subscripts of the port of this number, if there is one
abbrev pub AreSubscripts : List Port → ℕ → List ℤ → Type 0
AreSubscripts ports n index = (p : Port) → slice_get ports n ≡ Some p → p.index ≡ index
