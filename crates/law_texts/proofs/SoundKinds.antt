-- Sound kinds: their values are read as they are written, and an enumeration has no more constants
-- than there are integers.
use Rattle.std.proofs.Common.{◌≡◌, refl, sym, subst, true≢false, ℕ, suc, ◌<◌, ◌≤◌, ℤ}
use Rattle.std.proofs.Common.{◌≤ℤ◌, true, false, List, length, Some, slice_get}
use Rattle.est_syntax.specs.Kinds.{maxint, Holds, is_ordinal, integers, booleans, characters}
use Rattle.est_syntax.specs.Kinds.{constants, part}
use Rattle.est_syntax.specs.declared.name.Name.{Name}
use Rattle.est_syntax.specs.declared.kind.Kind.{Kind, out-Kind}
use Rattle.est_syntax.specs.declared.kind.Kind.TheOpen as kinds
use Rattle.est_syntax.specs.declared.kind.Kind.TheVariants as kind
use Rattle.est_syntax.specs.declared.kind.FieldKind.{FieldKind}
use Rattle.est_values.specs.FittingValues.{KindLayer}
use Rattle.text_values.specs.TraceGrammar.{host_by}
use Rattle.law_texts.specs.ReadableKinds.{ArePlainNames, HasPlainConstants, IsReadableOrdinal}
use Rattle.law_texts.specs.ReadableKinds.{IsReadable, ordinals, sets, arrays, records}
use Rattle.law_texts.proofs.Scalars.{IsHeld}

-- no more constants than there are integers from 0 on
abbrev pub HasFew : KindLayer → Type 0
HasFew (kinds.Enumeration declared names) = length names ≤ suc maxint
HasFew _ = Unit {0}

pub record IsSoundOrdinal (k : Kind) : Type 0 where
  pub readable : IsReadableOrdinal k
  pub few : HasFew (out-Kind k)

pub record IsSoundKind (k : Kind) : Type 0 where
  pub readable : IsReadable k
  pub few : HasFew (out-Kind k)

-- what a kind holds, by its form
pub held_as : (host : Kind) (z : ℤ) → Holds host z → IsHeld (out-Kind host) z
held_as host z h = by (out-Kind host) refl h
  where
    by : (l : KindLayer) → out-Kind host ≡ l → Holds host z → IsHeld l z
    by kinds.Integer e h = rw e at h
    by kinds.Boolean e h = rw e at h
    by kinds.Char e h = rw e at h
    by (kinds.Enumeration place names) e h = rw e at h
    by (kinds.Part of low high) e h = rw e at h
    by (kinds.SetOf base) e h = rw e at h
    by (kinds.ArrayOf index of) e h = rw e at h
    by (kinds.Fields fields) e h = rw e at h

pub holds_as : (host : Kind) (z : ℤ) (l : KindLayer) → out-Kind host ≡ l → IsHeld l z
    → Holds host z
holds_as host z kinds.Integer e h = rw e h
holds_as host z kinds.Boolean e h = rw e h
holds_as host z kinds.Char e h = rw e h
holds_as host z (kinds.Enumeration place names) e h = rw e h
holds_as host z (kinds.Part of low high) e h = absurd h
holds_as host z (kinds.SetOf base) e h = absurd h
holds_as host z (kinds.ArrayOf index of) e h = absurd h
holds_as host z (kinds.Fields fields) e h = absurd h

-- a kind that holds something is its own host
host_alone : (host : Kind) (z : ℤ) → Holds host z → host_by (out-Kind host) host ≡ host
host_alone host z h = by (out-Kind host) (held_as host z h)
  where
    by : (l : KindLayer) → IsHeld l z → host_by l host ≡ host
    by kinds.Integer h = refl
    by kinds.Boolean h = refl
    by kinds.Char h = refl
    by (kinds.Enumeration place names) h = refl
    by (kinds.Part of low high) h = absurd h
    by (kinds.SetOf base) h = refl
    by (kinds.ArrayOf index of) h = refl
    by (kinds.Fields fields) h = refl

-- ORDINAL KINDS

pub integer_sound : IsSoundOrdinal kind.Integer
unfolding out-Kind denote.Hole.Carrier.out
integer_sound = record {
  readable = record { ordinal = refl; well_formed = integers refl; constants = tt };
  few = tt;
}

pub boolean_sound : IsSoundOrdinal kind.Boolean
unfolding out-Kind denote.Hole.Carrier.out
boolean_sound = record {
  readable = record { ordinal = refl; well_formed = booleans refl; constants = tt };
  few = tt;
}

pub char_sound : IsSoundOrdinal kind.Char
unfolding out-Kind denote.Hole.Carrier.out
char_sound = record {
  readable = record { ordinal = refl; well_formed = characters refl; constants = tt };
  few = tt;
}

pub enumeration_sound : (place : ℕ) (names : List Name) → 0 < length names
    → length names ≤ suc maxint → ArePlainNames names
    → IsSoundOrdinal (kind.Enumeration place names)
unfolding out-Kind denote.Hole.Carrier.out
enumeration_sound place names some few plain = record {
  readable = record {
    ordinal = refl;
    well_formed = constants place names refl some;
    constants = plain;
  };
  few = few;
}

pub part_sound : (host : Kind) (low high : ℤ) → IsSoundOrdinal host → Holds host low
    → Holds host high → low ≤ℤ high → IsSoundOrdinal (kind.Part host low high)
part_sound host low high sound l h order =
    let k = kind.Part host low high in
    let e = kind.outs-Part host low high in
    let alone = subst (λ (j : Kind). HasPlainConstants (out-Kind j)) (host_alone host low l)
    sound.readable.constants in
    record {
      readable = record {
        ordinal = rw e refl;
        well_formed = part host low high e l h order;
        constants = subst (λ (m : KindLayer). HasPlainConstants (out-Kind (host_by m k))) (sym e)
            alone;
      };
      few = subst HasFew (sym e) tt;
    }

-- ALL KINDS

pub sound_kind : (k : Kind) → IsSoundOrdinal k → IsSoundKind k
sound_kind k sound = record { readable = ordinals sound.readable; few = sound.few }

pub sound_ordinal : (k : Kind) → is_ordinal k ≡ true → IsSoundKind k → IsSoundOrdinal k
sound_ordinal k is sound = record { readable = by sound.readable; few = sound.few }
  where
    by : IsReadable k → IsReadableOrdinal k
    by (ordinals r) = r
    by (sets base e r) = let no : false ≡ true = rw e at is in absurd (true≢false (sym no))
    by (arrays index of e i r) =
        let no : false ≡ true = rw e at is in absurd (true≢false (sym no))
    by (records fields e r) = let no : false ≡ true = rw e at is in absurd (true≢false (sym no))

pub array_sound : (index of : Kind) → IsSoundOrdinal index → IsSoundKind of
    → IsSoundKind (kind.ArrayOf index of)
array_sound index of subscript sound =
    let e = kind.outs-ArrayOf index of in
    record {
      readable = arrays index of e subscript.readable sound.readable;
      few = subst HasFew (sym e) tt;
    }

pub set_sound : (base : Kind) → IsSoundOrdinal base → IsSoundKind (kind.SetOf base)
set_sound base sound =
    let e = kind.outs-SetOf base in
    record { readable = sets base e sound.readable; few = subst HasFew (sym e) tt }

pub record_sound : (fields : List FieldKind)
    → ((i : ℕ) (field : FieldKind) → slice_get fields i ≡ Some field → IsSoundKind field.kind)
    → IsSoundKind (kind.Fields fields)
record_sound fields each =
    let e = kind.outs-Fields fields in
    record {
      readable = records fields e (λ i field h. (each i field h).readable);
      few = subst HasFew (sym e) tt;
    }
