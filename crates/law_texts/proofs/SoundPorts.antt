-- The ports of a specification are readable, where the names of its outline are plain and what is
-- declared in it is sound.
use Rattle.std.specs.Prelude.{if◌then◌else◌, flat_map, option_to_list}
use Rattle.std.specs.List.{AllZip}
use Rattle.std.specs.Option.{option_map}
use Rattle.std.proofs.Common.{◌≡◌, refl, sym, ◌∙◌, true≢false, ℕ, suc, ◌<◌, min}
use Rattle.std.proofs.Common.{ℤ, pos, negsuc, ◌+ℤ◌, ◌-ℤ◌, ◌≤ℤ◌, Bool, true, false, List, []}
use Rattle.std.proofs.Common.{◌∷◌, map, length, Option, Some, None, slice_get, arith}
use Rattle.std.proofs.lemmas.Int.{ints}
use Rattle.std.proofs.lemmas.Option.{same_Some, none-some}
use Rattle.est_syntax.specs.Kinds.{is_ordinal}
use Rattle.est_syntax.specs.declared.channel.Role.{Role}
use Rattle.est_syntax.specs.declared.kind.Kind.{Kind, out-Kind}
use Rattle.est_syntax.specs.declared.kind.Kind.TheOpen as kinds
use Rattle.est_syntax.specs.declared.ports.Signal.{Signal}
use Rattle.est_values.specs.FittingValues.{KindLayer, first_of, last_of, IsOrdinalOf}
use Rattle.rule_scope.specs.declared.declaration.Entry.{Entry}
use Rattle.rule_scope.specs.declared.declaration.Measured.{Measured}
use Rattle.rule_scope.specs.declared.declaration.Member.{Member}
use Rattle.rule_scope.specs.declared.declaration.Member.TheVariants as member
use Rattle.rule_scope.specs.declared.declaration.Side.{Side}
use Rattle.rule_scope.specs.declared.declaration.Sort.TheVariants as sort
use Rattle.rule_scope.specs.declared.declaration.Standing.{Standing}
use Rattle.rule_scope.specs.Outline.{Outline, Region, names_of, entry_at, member_at}
use Rattle.rule_scope.specs.Uses.{same_sort}
use Rattle.rule_kinds.specs.TypeTexts.{count, counted}
use Rattle.law_places.specs.Said.{Each}
use Rattle.rule_declares.specs.OrdinalValues.{first_value, values_of, tuples_of}
use Rattle.rule_declares.specs.PortList.{kind_by, kinds_in, signal_by, signals_of, element}
use Rattle.rule_declares.specs.PortList.{elements_with, elements_by, ports_in, header_ports}
use Rattle.rule_ports.proofs.Listing.{within}
use Rattle.rule_ports.proofs.Ranks.{offset_is}
use Rattle.rule_ports.proofs.Tuples.{values_number}
use Rattle.law_texts.specs.PlainNames.{IsPlainName}
use Rattle.law_texts.specs.ReadableKinds.{IsReadable}
use Rattle.law_texts.specs.ReadablePorts.{IsReadableSignal, IsReadablePort, AreReadablePorts}
use Rattle.law_texts.proofs.SoundKinds.{HasFew, IsSoundOrdinal}
use Rattle.law_texts.proofs.SoundTexts.{each_at}
use Rattle.law_texts.proofs.SpeltParts.{joined}
use Rattle.law_texts.proofs.SoundNames.{IsSoundInTheEnd}
use Rattle.law_texts.proofs.PlainOutlines.{ArePlain}

-- LISTS

each_by : {A : Type 0} (P : A → Type 0) (xs : List A)
    → ((i : ℕ) (x : A) → slice_get xs i ≡ Some x → P x) → Each P xs
each_by P [] h = tt
each_by P (x ∷ xs) h = (h 0 x refl, each_by P xs (λ i. h (suc i)))

each_map : {A B : Type 0} (f : A → B) (P : A → Type 0) (Q : B → Type 0)
    → ((x : A) → P x → Q (f x)) → (xs : List A) → Each P xs → Each Q (map f xs)
each_map f P Q g [] h = tt
each_map f P Q g (x ∷ xs) h = (g x h.0, each_map f P Q g xs h.1)

each_flat : {A B : Type 0} (f : A → List B) (P : A → Type 0) (Q : B → Type 0)
    → ((x : A) → P x → Each Q (f x)) → (xs : List A) → Each P xs → Each Q (flat_map f xs)
each_flat f P Q g [] h = tt
each_flat f P Q g (x ∷ xs) h =
    joined Q (f x) (flat_map f xs) (g x h.0) (each_flat f P Q g xs h.1)

each_flat_all : {A B : Type 0} (f : A → List B) (Q : B → Type 0) → ((x : A) → Each Q (f x))
    → (xs : List A) → Each Q (flat_map f xs)
each_flat_all f Q g [] = tt
each_flat_all f Q g (x ∷ xs) =
    joined Q (f x) (flat_map f xs) (g x) (each_flat_all f Q g xs)

-- SUBSCRIPTS

part_within : (low high z : ℤ) (n : ℕ) → n < counted (high -ℤ low) → z ≡ low +ℤ pos n
    → z ≤ℤ high
part_within low high z n l e = by (high -ℤ low) refl l
  where
    by : (d : ℤ) → high -ℤ low ≡ d → n < counted d → z ≤ℤ high
    by (pos m) q l = omega (arith, ints, q, e, l)
    by (negsuc m) q l = absurd (omega (arith, l))

-- a value of an ordinal kind is one of its ordinals
value_by : (k : Kind) (n : ℕ) (z : ℤ) (l : KindLayer) → out-Kind k ≡ l → is_ordinal k ≡ true
    → HasFew l → n < count k → z ≡ first_value k +ℤ pos n
    → (first_of l ≤ℤ z) × (z ≤ℤ last_of l)
value_by k n z kinds.Integer e is few lt same =
    let c : n < 4294967295 = rw e at lt in
    let v : z ≡ negsuc 2147483646 +ℤ pos n = rw e at same in
    (omega (arith, ints, c, v), omega (arith, ints, c, v))
value_by k n z kinds.Boolean e is few lt same =
    let c : n < 2 = rw e at lt in
    let v : z ≡ pos 0 +ℤ pos n = rw e at same in
    (omega (arith, ints, c, v), omega (arith, ints, c, v))
value_by k n z kinds.Char e is few lt same =
    let c : n < 128 = rw e at lt in
    let v : z ≡ pos 0 +ℤ pos n = rw e at same in
    (omega (arith, ints, c, v), omega (arith, ints, c, v))
value_by k n z (kinds.Enumeration place names) e is few lt same =
    let c : n < length names = rw e at lt in
    let v : z ≡ pos 0 +ℤ pos n = rw e at same in
    let m : min (length names) 2147483648 ≡ length names = omega (arith, few) in
    (omega (arith, ints, c, v), omega (arith, ints, c, v, m))
value_by k n z (kinds.Part host low high) e is few lt same =
    let c : n < counted (high -ℤ low) = rw e at lt in
    let v : z ≡ low +ℤ pos n = rw e at same in
    (omega (arith, ints, v), part_within low high z n c v)
value_by k n z (kinds.SetOf base) e is few lt same =
    let no : false ≡ true = rw e at is in absurd (true≢false (sym no))
value_by k n z (kinds.ArrayOf index of) e is few lt same =
    let no : false ≡ true = rw e at is in absurd (true≢false (sym no))
value_by k n z (kinds.Fields fields) e is few lt same =
    let no : false ≡ true = rw e at is in absurd (true≢false (sym no))

value_in : (k : Kind) → IsSoundOrdinal k → (n : ℕ) (z : ℤ) → slice_get (values_of k) n ≡ Some z
    → IsOrdinalOf k z
value_in k sound n z e =
    let w = within (values_of k) n z e in
    let c = values_number k in
    let lt : n < count k = omega (arith, w, c) in
    let there = offset_is k (first_value k +ℤ pos n) n lt refl in
    value_by k n z (out-Kind k) refl sound.readable.ordinal sound.few lt
    (same_Some z (first_value k +ℤ pos n) (sym e ∙ there))

tuples_in : (ks : List Kind) → Each IsSoundOrdinal ks → Each (AllZip IsOrdinalOf ks) (tuples_of ks)
tuples_in [] sound = (tt, tt)
tuples_in (k ∷ ks) sound =
    each_flat (λ (z : ℤ). map (λ (t : List ℤ). z ∷ t) (tuples_of ks)) (IsOrdinalOf k)
    (AllZip IsOrdinalOf (k ∷ ks))
    (λ z h. each_map (λ (t : List ℤ). z ∷ t) (AllZip IsOrdinalOf ks)
    (AllZip IsOrdinalOf (k ∷ ks)) (λ t g. (h, g)) (tuples_of ks) (tuples_in ks sound.1))
    (values_of k) (each_by (IsOrdinalOf k) (values_of k) (value_in k sound.0))

module _ (o : Outline) (plain : (region : ℕ) → ArePlain (names_of o region))
    (sound : (place : ℕ) (e : Entry) → entry_at o place ≡ Some e → IsSoundInTheEnd o e) where
  -- PARAMETERS

  kinds_by : (x : Option Entry) → ((e : Entry) → x ≡ Some e → IsSoundInTheEnd o e)
      → Each IsReadable (kind_by x)
  kinds_by None g = tt
  kinds_by (Some e) g = by (same_sort sort.Variable e.declared.sort) e.kind refl
    where
      by : (b : Bool) (m : Option Measured) → e.kind ≡ m → Each IsReadable
          (if b then option_to_list (option_map (λ (m : Measured). m.kind) m) else [])
      by true (Some m) q = (((g e refl).0 m q).readable, tt)
      by true None q = tt
      by false m q = tt

  kinds_readable : (names : Region) → Each IsReadable (kinds_in o names)
  kinds_readable names = each_flat_all
      (λ (n : List ℕ × Standing). kind_by (entry_at o n.1.place)) IsReadable
      (λ n. kinds_by (entry_at o n.1.place) (sound n.1.place)) names

  -- SIGNALS

  signal_readable : (r : Role) (n : List ℕ × Standing) (m : Option Member) → IsPlainName n.0
      → Each IsReadableSignal (signal_by o r n m)
  signal_readable r n None p = tt
  signal_readable r n (Some (member.Role x)) p = tt
  signal_readable r n (Some member.Field) p = tt
  signal_readable r n (Some (member.Interaction s)) p = (
    record {
      name = p;
      kinds = λ i k e. each_at IsReadable (kinds_in o (names_of o n.1.place)) i k
          (kinds_readable (names_of o n.1.place)) e;
    },
    tt,
  )

  signals_readable : (x : Option Side) → Each IsReadableSignal (signals_of o x)
  signals_readable None = tt
  signals_readable (Some side) = each_flat
      (λ (n : List ℕ × Standing). signal_by o side.role n (member_at o n.1.place))
      (λ n. IsPlainName n.0) IsReadableSignal
      (λ n p. signal_readable side.role n (member_at o n.1.place) p) (names_of o side.channel)
      (plain side.channel)

  -- PORTS

  elements_readable : (name : List ℕ) (signals : List Signal) (ks : List Kind) → IsPlainName name
      → Each IsReadableSignal signals → Each IsSoundOrdinal ks
      → Each IsReadablePort (elements_with name signals (Some ks))
  elements_readable name signals ks p s g =
      each_map (element name ks signals) (AllZip IsOrdinalOf ks) IsReadablePort
      (λ t z. record {
        name = p;
        index_kinds = λ i k e. (each_at IsSoundOrdinal ks i k g e).readable;
        index = z;
        signals = λ i x e. each_at IsReadableSignal signals i x s e;
      }) (tuples_of ks) (tuples_in ks g)

  point_readable : (name : List ℕ) (x : Option Entry) → IsPlainName name
      → ((e : Entry) → x ≡ Some e → IsSoundInTheEnd o e)
      → Each IsReadablePort (elements_by o name x)
  point_readable name None p g = tt
  point_readable name (Some e) p g =
      by (same_sort sort.Point e.declared.sort) e.dims refl
    where
      by : (b : Bool) (d : Option (List Kind)) → e.dims ≡ d → Each IsReadablePort
          (if b then elements_with name (signals_of o e.side) d else [])
      by true (Some ks) q = elements_readable name (signals_of o e.side) ks p
          (signals_readable e.side) ((g e refl).1 ks q)
      by true None q = tt
      by false d q = tt

  ports_readable : (names : Region) → ArePlain names → Each IsReadablePort (ports_in o names)
  ports_readable names p = each_flat
      (λ (n : List ℕ × Standing). elements_by o n.0 (entry_at o n.1.place))
      (λ n. IsPlainName n.0) IsReadablePort
      (λ n q. point_readable n.0 (entry_at o n.1.place) q (sound n.1.place)) names p

  pub header_readable : (x : Option ℕ) → AreReadablePorts (header_ports o x)
  header_readable None i port e = absurd (none-some port e)
  header_readable (Some header) i port e = each_at IsReadablePort (ports_in o (names_of o header))
      i port (ports_readable (names_of o header) (plain header)) e
