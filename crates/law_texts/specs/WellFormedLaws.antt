-- The kinds that a sentence declares, and those of its ports, are well formed.
use Rattle.std.specs.Prelude.{◌≡◌, ℕ, IsTrue, List, Some, slice_get}
use Rattle.est_syntax.specs.Kinds.{IsWellFormed, is_ordinal}
use Rattle.est_syntax.specs.declared.kind.Kind.{Kind}
use Rattle.est_syntax.specs.declared.ports.Port.{Port}
use Rattle.est_syntax.specs.declared.ports.Signal.{Signal}
use Rattle.est_syntax.specs.declared.specification.Spec.{Spec}
use Rattle.rule_declares.specs.Bodies.{outline_of}
use Rattle.rule_declares.specs.PortList.{ports_of}
use Rattle.est_types.specs.Table.{kind_of, dims_at}
use Rattle.est_check.specs.SentenceOf.{IsSentence}

-- Kinds of subscripts: each of them is ordinal and well formed.
pub record AreKindsOfSubscripts (ks : List Kind) : Type 0 where
  pub ordinal : (i : ℕ) (k : Kind) → slice_get ks i ≡ Some k → IsTrue (is_ordinal k)
  pub well_formed : (i : ℕ) (k : Kind) → slice_get ks i ≡ Some k → IsWellFormed k

-- A port of such subscripts, where the kinds of the parameters of each signal are well formed.
pub record HasWellFormedKinds (port : Port) : Type 0 where
  pub subscripts : AreKindsOfSubscripts port.index_kinds
  pub parameters : (i j : ℕ) (signal : Signal) (k : Kind) → slice_get port.signals i ≡ Some signal
      → slice_get signal.kinds j ≡ Some k → IsWellFormed k

-- the kind of what a sentence declares at any place
abbrev pub DeclaredKindsAreWellFormed : Type 0
DeclaredKindsAreWellFormed = (spec : Spec) (place : ℕ) (k : Kind) → IsSentence spec
    → kind_of (outline_of spec) place ≡ Some k → IsWellFormed k

-- those of the subscripts of an interaction point or module variable
abbrev pub DeclaredSubscriptsAreWellFormed : Type 0
DeclaredSubscriptsAreWellFormed = (spec : Spec) (place : ℕ) (ks : List Kind) → IsSentence spec
    → dims_at (outline_of spec) place ≡ Some ks → AreKindsOfSubscripts ks

-- and those of each of its ports
abbrev pub PortKindsAreWellFormed : Type 0
PortKindsAreWellFormed = (spec : Spec) (i : ℕ) (port : Port) → IsSentence spec
    → slice_get (ports_of spec) i ≡ Some port → HasWellFormedKinds port
