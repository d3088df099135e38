-- Kinds whose values are read as they are written.
use Rattle.std.specs.Prelude.{◌≡◌, ℕ, IsTrue, List, Some, slice_get}
use Rattle.est_syntax.specs.Kinds.{IsWellFormed, is_ordinal}
use Rattle.est_syntax.specs.declared.name.Name.{Name}
use Rattle.est_syntax.specs.declared.kind.Kind.{Kind, out-Kind}
use Rattle.est_syntax.specs.declared.kind.Kind.TheOpen as kinds
use Rattle.est_syntax.specs.declared.kind.FieldKind.{FieldKind}
use Rattle.rule_declares.specs.Differing.{HaveDifferentNames}
use Rattle.est_values.specs.FittingValues.{KindLayer}
use Rattle.text_values.specs.TraceGrammar.{host_by}
use Rattle.law_texts.specs.PlainNames.{IsPlainName}

-- Each of these names is plain, and no two are one.
pub record ArePlainNames (names : List Name) : Type 0 where
  pub each : (i : ℕ) (name : Name) → slice_get names i ≡ Some name → IsPlainName name.bytes
  pub differ : HaveDifferentNames {N = List ℕ} (λ (n : Name). n.bytes) names

-- the constants of a kind of this form, if it is an enumeration, have plain names
abbrev pub HasPlainConstants : KindLayer → Type 0
HasPlainConstants (kinds.Enumeration declared names) = ArePlainNames names
HasPlainConstants _ = Unit {0}

-- An ordinal kind: where it is a part of another, that one holds its bounds, and the constants have
-- plain names.
pub record IsReadableOrdinal (k : Kind) : Type 0 where
  pub ordinal : IsTrue (is_ordinal k)
  pub well_formed : IsWellFormed k
  pub constants : HasPlainConstants (out-Kind (host_by (out-Kind k) k))

-- A kind all of whose ordinals are of such kinds.
pub data IsReadable : Kind → Type 0 where
  ordinals : {k : Kind} → IsReadableOrdinal k → IsReadable k
  sets : {k : Kind} (base : Kind) → out-Kind k ≡ kinds.SetOf base → IsReadableOrdinal base
      → IsReadable k
  arrays : {k : Kind} (index of : Kind) → out-Kind k ≡ kinds.ArrayOf index of
      → IsReadableOrdinal index → IsReadable of → IsReadable k
  records : {k : Kind} (fields : List FieldKind) → out-Kind k ≡ kinds.Fields fields
      → ((i : ℕ) (field : FieldKind) → slice_get fields i ≡ Some field → IsReadable field.kind)
      → IsReadable k
