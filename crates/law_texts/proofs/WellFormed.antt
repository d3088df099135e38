-- Readable kinds are well formed, and so are those of an outline in which all declarations are
-- sound.
use Rattle.std.specs.Option.{option_map, option_and_then}
use Rattle.std.proofs.Common.{◌≡◌, refl, subst, ℕ, List, Option, Some, None}
use Rattle.std.proofs.lemmas.Option.{same_Some, none-some}
use Rattle.est_syntax.specs.Kinds as formed
use Rattle.est_syntax.specs.Kinds.{IsWellFormed}
use Rattle.est_syntax.specs.declared.kind.Kind.{Kind}
use Rattle.est_syntax.specs.declared.ports.Port.{Port}
use Rattle.rule_scope.specs.declared.declaration.Entry.{Entry}
use Rattle.rule_scope.specs.declared.declaration.Measured.{Measured}
use Rattle.rule_scope.specs.Outline.{Outline, entry_at}
use Rattle.est_types.specs.Table.{kind_of, dims_at}
use Rattle.law_places.specs.Said.{Each}
use Rattle.law_texts.specs.ReadableKinds.{IsReadable, ordinals, sets, arrays, records}
use Rattle.law_texts.specs.ReadablePorts.{IsReadablePort}
use Rattle.law_texts.specs.WellFormedLaws.{AreKindsOfSubscripts, HasWellFormedKinds}
use Rattle.law_texts.proofs.SoundKinds.{IsSoundOrdinal, IsSoundKind}
use Rattle.law_texts.proofs.SoundTexts.{each_at}
use Rattle.law_texts.proofs.SoundNames.{IsSoundInTheEnd}

pub readable_is_well_formed : (k : Kind) → IsReadable k → IsWellFormed k
readable_is_well_formed k (ordinals r) = r.well_formed
readable_is_well_formed k (sets base e r) = formed.sets base e r.ordinal r.well_formed
readable_is_well_formed k (arrays index of e i r) =
    formed.arrays index of e i.ordinal i.well_formed (readable_is_well_formed of r)
readable_is_well_formed k (records fields e r) =
    formed.records fields e (λ i field at. readable_is_well_formed field.kind (r i field at))

pub readable_port : (port : Port) → IsReadablePort port → HasWellFormedKinds port
readable_port port readable = record {
  subscripts = record {
    ordinal = λ i k at. (readable.index_kinds i k at).ordinal;
    well_formed = λ i k at. (readable.index_kinds i k at).well_formed;
  };
  parameters = λ i j signal k s at.
      readable_is_well_formed k ((readable.signals i signal s).kinds j k at);
}

sound_subscripts : (ks : List Kind) → Each IsSoundOrdinal ks → AreKindsOfSubscripts ks
sound_subscripts ks sound = record {
  ordinal = λ i k at. (each_at IsSoundOrdinal ks i k sound at).readable.ordinal;
  well_formed = λ i k at. (each_at IsSoundOrdinal ks i k sound at).readable.well_formed;
}

module _ (o : Outline)
    (sound : (place : ℕ) (e : Entry) → entry_at o place ≡ Some e → IsSoundInTheEnd o e) where
  pub kinds_formed : (place : ℕ) (k : Kind) → kind_of o place ≡ Some k → IsWellFormed k
  kinds_formed place k h = by (entry_at o place) refl h
    where
      measured : (m : Option Measured)
          → ((j : Measured) → m ≡ Some j → IsSoundKind j.kind)
          → option_map (λ (j : Measured). j.kind) m ≡ Some k → IsWellFormed k
      measured None kinds q = absurd (none-some k q)
      measured (Some j) kinds q = subst IsWellFormed (same_Some j.kind k q)
          (readable_is_well_formed j.kind (kinds j refl).readable)

      by : (x : Option Entry) → entry_at o place ≡ x
          → option_map (λ (m : Measured). m.kind) (option_and_then (λ (e : Entry). e.kind) x)
          ≡ Some k → IsWellFormed k
      by None is q = absurd (none-some k q)
      by (Some e) is q = measured e.kind (sound place e is).0 q

  pub subscripts_formed : (place : ℕ) (ks : List Kind) → dims_at o place ≡ Some ks
      → AreKindsOfSubscripts ks
  subscripts_formed place ks h = by (entry_at o place) refl h
    where
      by : (x : Option Entry) → entry_at o place ≡ x
          → option_and_then (λ (e : Entry). e.dims) x ≡ Some ks → AreKindsOfSubscripts ks
      by None is q = absurd (none-some ks q)
      by (Some e) is q = sound_subscripts ks ((sound place e is).1 ks q)
