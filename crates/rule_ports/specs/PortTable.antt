-- Interaction points with their numbers of ports, and the ports that they stand for.
use Rattle.std.specs.Prelude.{◌≡◌, ℕ, suc, ◌-◌, ◌<◌, ◌≤◌, ◌^◌, min, ℤ, List, take, map, flat_map}
use Rattle.std.specs.Prelude.{length, Option, Some, None, slice_get}
use Rattle.est_syntax.specs.declared.ports.Port.{Port}
use Rattle.rule_declares.specs.Differing.{HaveDifferentNames}
use Rattle.rule_ports.specs.declared.table.Elements.{Elements}
use Rattle.rule_declares.specs.OrdinalValues.{tuples_of}
use Rattle.rule_declares.specs.PortList.{element}

-- interaction points by their names
abbrev pub Points : Type 0
Points = List (List ℕ × Elements)

-- the ports of an interaction point, and those of several
abbrev pub ports_at : List ℕ × Elements → List Port
ports_at p = map (element p.0 p.1.kinds p.1.signals) (tuples_of p.1.kinds)

abbrev pub listed : Points → List Port
listed ps = flat_map ports_at ps

-- a number, as far as 64 bits go
abbrev pub capped : ℕ → ℕ
capped n = min n (2 ^ 64 - 1)

-- each tells how many ports there are up to its last one
abbrev pub AreTotals : Points → Type 0
AreTotals ps = (g : ℕ) (p : List ℕ × Elements) → slice_get ps g ≡ Some p
    → p.1.until ≡ capped (length (listed (take (suc g) ps)))

-- and no two have one name
pub record IsTable (ps : Points) : Type 0 where
  pub totals : AreTotals ps
  pub different : HaveDifferentNames (λ (p : List ℕ × Elements). p.0) ps

-- those before one place come to their last port before a port of this number, and those from
-- another place on do not
pub record IsSplit (ps : Points) (number low high : ℕ) : Type 0 where
  pub below : (g : ℕ) (p : List ℕ × Elements) → g < low → slice_get ps g ≡ Some p
      → p.1.until ≤ number
  pub above : (g : ℕ) (p : List ℕ × Elements) → high ≤ g → slice_get ps g ≡ Some p
      → number < p.1.until
  pub order : low ≤ high
  pub within : high ≤ length ps

-- the number of the interaction point of a name, or none where there is no such
abbrev pub IsNumberOf : List ℕ → Points → Option ℕ → Type 0
IsNumberOf name ps (Some g) = (e : Elements) × (slice_get ps g ≡ Some (name, e))
IsNumberOf name ps None = (g : ℕ) (e : Elements) → slice_get ps g ≡ Some (name, e) → ⊥

-- the number of the port of a name with these subscripts, or none where none has it that 32 bits
-- can tell
abbrev pub IsPortNumber : List ℕ → List ℤ → List Port → Option ℕ → Type 0
IsPortNumber name index ports (Some n) =
    (p : Port) × (slice_get ports n ≡ Some p) × (p.name.bytes ≡ name) × (p.index ≡ index)
IsPortNumber name index ports None = (n : ℕ) (p : Port) → n < 2 ^ 32 → slice_get ports n ≡ Some p
    → p.name.bytes ≡ name → p.index ≡ index → ⊥
