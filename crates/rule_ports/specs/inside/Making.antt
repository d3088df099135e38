-- How the table of interaction points grows.
use Rattle.std.specs.Prelude.{◌≡◌, ℕ, ℤ, List, [], ◌∷◌, ◌++◌, drop, Option, Some, None}
use Rattle.std.specs.Prelude.{slice_get, pos, ◌+ℤ◌, ◌<ℤ◌}
use Rattle.std.specs.Map.{lookup}
use Rattle.est_syntax.specs.Names.{is_name}
use Rattle.est_syntax.specs.declared.kind.Kind.{Kind}
use Rattle.est_syntax.specs.declared.ports.Port.{Port}
use Rattle.rule_scope.specs.Outline.{Outline, Region}
use Rattle.rule_declares.specs.OrdinalValues.{values_of, tuples_of}
use Rattle.rule_declares.specs.PortList.{ports_in}
use Rattle.rule_ports.specs.PortTable.{Points, listed, capped, IsTable}
use Rattle.rule_ports.specs.inside.KnownSides.{AreKnown}
use Rattle.rule_ports.specs.declared.known.Sides.{Sides}

-- no interaction point has one of these names yet
abbrev pub AreNew : Region → Points → Type 0
AreNew [] ps = Unit {0}
AreNew (n ∷ ns) ps = (lookup (is_name n.0) ps ≡ None) × AreNew ns ps

-- these ports were added, with no interaction point but of this name
pub record IsWith (name : List ℕ) (ports : List Port) (old new : Points) : Type 0 where
  pub table : IsTable new
  pub ports_are : listed new ≡ listed old ++ ports
  pub no_other : (other : List ℕ) → (other ≡ name → ⊥) → lookup (is_name other) old ≡ None
      → lookup (is_name other) new ≡ None

-- these are the ports of interaction points
pub record AreMade (ports : List Port) (ps : Points) : Type 0 where
  pub table : IsTable ps
  pub ports_are : listed ps ≡ ports

-- interaction points of the names before this number were added
pub record AreMadeTo (o : Outline) (names : Region) (i : ℕ) (ps : Points)
    (known : List (ℕ × Sides)) : Type 0 where
  pub table : IsTable ps
  pub ports_are : listed ps ++ ports_in o (drop i names) ≡ ports_in o names
  pub are_new : AreNew (drop i names) ps
  pub are_known : AreKnown o known

-- an ordinal lies so far above another, or it lies below it
abbrev pub IsDistance : ℤ → ℤ → Option ℕ → Type 0
IsDistance low z (Some n) = z ≡ low +ℤ pos n
IsDistance low z None = z <ℤ low

-- the number of an ordinal among the values of a kind, or none where it is not one of them
abbrev pub IsOffset : Kind → ℤ → Option ℕ → Type 0
IsOffset k z (Some n) = slice_get (values_of k) n ≡ Some z
IsOffset k z None = (n : ℕ) → slice_get (values_of k) n ≡ Some z → ⊥

-- the number of a tuple, as far as 64 bits go, or none where it is no tuple of these kinds
abbrev pub IsRank : List Kind → List ℤ → Option ℕ → Type 0
IsRank ks t (Some r) = (n : ℕ) × (slice_get (tuples_of ks) n ≡ Some t) × (r ≡ capped n)
IsRank ks t None = (n : ℕ) → slice_get (tuples_of ks) n ≡ Some t → ⊥
