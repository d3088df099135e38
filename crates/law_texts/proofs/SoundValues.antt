-- The values of constants are sound: they are held by their hosts, which are sound kinds.
use Rattle.std.specs.Prelude.{if◌then◌else◌, nat_eq, nat_le}
use Rattle.std.proofs.Common.{◌≡◌, refl, sym, subst, ap, ◌∙◌, true≢false, ℕ, suc, ◌≤◌, ℤ, pos}
use Rattle.std.proofs.Common.{neg_ℤ, ◌≤ℤ◌, ◌-ℤ◌, int_lt, Bool, true, false, List, Option, Some}
use Rattle.std.proofs.Common.{None, arith}
use Rattle.std.proofs.lemmas.Bool.Decides.{nat_tests, Decides-eqb}
use Rattle.std.proofs.lemmas.Int.{ints}
use Rattle.std.proofs.lemmas.Option.{same_Some, none-some}
use Rattle.est_syntax.specs.Signs.{is_minus}
use Rattle.est_syntax.specs.declared.constant.Sign.{Sign}
use Rattle.est_syntax.specs.declared.constant.Sign.TheVariants.{Plus, Minus}
use Rattle.est_syntax.specs.Kinds.{maxint, Holds}
use Rattle.est_syntax.specs.declared.constant.Constant.{Constant}
use Rattle.est_syntax.specs.declared.constant.Constant.TheVariants as constant
use Rattle.est_syntax.specs.declared.kind.Kind.{Kind, out-Kind}
use Rattle.est_syntax.specs.declared.kind.Kind.TheOpen as kinds
use Rattle.est_syntax.specs.declared.kind.Kind.TheVariants as kind
use Rattle.est_syntax.specs.declared.name.Used.{Used}
use Rattle.rule_scope.specs.declared.declaration.Entry.{Entry}
use Rattle.rule_scope.specs.declared.declaration.Meant.{Meant}
use Rattle.rule_scope.specs.declared.declaration.Meant.TheVariants as meant
use Rattle.rule_scope.specs.declared.declaration.Sort.{Sort}
use Rattle.rule_scope.specs.declared.declaration.Sort.TheVariants as sort
use Rattle.rule_scope.specs.declared.predeclared.PredeclaredName.{PredeclaredName}
use Rattle.rule_scope.specs.declared.predeclared.PredeclaredName.TheVariants as known
use Rattle.rule_scope.specs.declared.declaration.Measured.{Measured}
use Rattle.rule_scope.specs.Outline.{Outline, entry_at}
use Rattle.rule_scope.specs.Uses.{meaning, same_sort}
use Rattle.rule_kinds.specs.declared.value.Valued.{Valued}
use Rattle.rule_kinds.specs.Constants.{valued, predeclared_constant, is_integer, negated, with_sign}
use Rattle.rule_kinds.specs.Constants.{signed_value, value_with, value_by, value_meant}
use Rattle.rule_kinds.specs.Constants.{number_value, named_value, constant_value}
use Rattle.rule_kinds.specs.TypeTexts.{scalar, same_host}
use Rattle.est_values.specs.FittingValues.{KindLayer}
use Rattle.law_sentences.specs.WrittenExpressions.{OfConstant}
use Rattle.law_texts.proofs.Scalars.{IsHeld}
use Rattle.law_texts.proofs.SoundKinds.{IsSoundOrdinal, IsSoundKind, held_as, holds_as}
use Rattle.law_texts.proofs.SoundKinds.{integer_sound, boolean_sound, char_sound}
use Rattle.law_texts.proofs.Spelt.{CodeFits}

module _ (o : Outline) where
  -- the first constant of an enumeration, which stands right after the place of the enumeration, is
  -- of that kind
  abbrev pub IsKnown : KindLayer → Kind → Type 0
  IsKnown (kinds.Enumeration place names) k =
      (e : Entry) × (entry_at o (suc place) ≡ Some e) × (e.kind ≡ Some (scalar k))
  IsKnown _ k = Unit {0}

  -- A value that its host holds, where the values of the host are read.
  pub record IsSoundValue (v : Valued) : Type 0 where
    pub holds : Holds v.host v.ordinal
    pub host : IsSoundOrdinal v.host
    pub known : IsKnown (out-Kind v.host) v.host

  -- what is known of a constant, and of a type
  abbrev pub IsSoundConstant : Entry → Type 0
  IsSoundConstant e = (v : Valued) → value_with e.kind e.ordinal ≡ Some v → IsSoundValue v

  abbrev pub HasSoundKind : Entry → Type 0
  HasSoundKind e = (m : Measured) → e.kind ≡ Some m → IsSoundKind m.kind

  abbrev pub IsSoundFor : Sort → Entry → Type 0
  IsSoundFor sort.Constant e = IsSoundConstant e
  IsSoundFor sort.TypeName e = HasSoundKind e
  IsSoundFor _ e = Unit {0}

  -- what a name means is so, where it is a constant or a type
  abbrev pub IsSoundAt : Used → Type 0
  IsSoundAt u = (place : ℕ) (e : Entry) → meaning o u ≡ meant.Seen place
      → entry_at o place ≡ Some e → IsSoundFor e.declared.sort e

  -- ONE HOST

  same_enumeration : (a b : Valued) (p q : ℕ) (ns ms : List _) → IsSoundValue a → IsSoundValue b
      → out-Kind a.host ≡ kinds.Enumeration p ns → out-Kind b.host ≡ kinds.Enumeration q ms
      → p ≡ q → a.host ≡ b.host
  same_enumeration a b p q ns ms sound other e f same =
      let x : IsKnown (kinds.Enumeration p ns) a.host =
      subst (λ (l : KindLayer). IsKnown l a.host) e sound.known in
      let y : IsKnown (kinds.Enumeration q ms) b.host =
      subst (λ (l : KindLayer). IsKnown l b.host) f other.known in
      let one : x.0 ≡ y.0 =
      same_Some x.0 y.0 (sym x.1 ∙ ap (λ (n : ℕ). entry_at o (suc n)) same ∙ y.1) in
      let kind_is : scalar a.host ≡ scalar b.host =
      same_Some (scalar a.host) (scalar b.host)
      (sym x.2 ∙ ap (λ (t : Entry). t.kind) one ∙ y.2) in
      ap (λ (m : Measured). m.kind) kind_is

  pub one_host : (a b : Valued) → IsSoundValue a → IsSoundValue b → same_host a.host b.host ≡ true
      → Holds a.host b.ordinal
  one_host a b sound other h = by (out-Kind a.host) (out-Kind b.host) refl refl h
      (held_as a.host a.ordinal sound.holds) (held_as b.host b.ordinal other.holds)
    where
      by : (x y : KindLayer) → out-Kind a.host ≡ x → out-Kind b.host ≡ y
          → same_host a.host b.host ≡ true → IsHeld x a.ordinal → IsHeld y b.ordinal
          → Holds a.host b.ordinal
      by kinds.Integer kinds.Integer e f h k l = holds_as a.host b.ordinal kinds.Integer e l
      by kinds.Boolean kinds.Boolean e f h k l = holds_as a.host b.ordinal kinds.Boolean e l
      by kinds.Char kinds.Char e f h k l = holds_as a.host b.ordinal kinds.Char e l
      by (kinds.Enumeration p ns) (kinds.Enumeration q ms) e f h k l =
          let t : nat_eq p q ≡ true = rw (e, f) at h in
          subst (λ (j : Kind). Holds j b.ordinal)
          (sym (same_enumeration a b p q ns ms sound other e f ((Decides-eqb p q).0 t))) other.holds
      by kinds.Integer kinds.Boolean e f h k l =
          let no : false ≡ true = rw (e, f) at h in absurd (true≢false (sym no))
      by kinds.Integer kinds.Char e f h k l =
          let no : false ≡ true = rw (e, f) at h in absurd (true≢false (sym no))
      by kinds.Integer (kinds.Enumeration q ms) e f h k l =
          let no : false ≡ true = rw (e, f) at h in absurd (true≢false (sym no))
      by kinds.Boolean kinds.Integer e f h k l =
          let no : false ≡ true = rw (e, f) at h in absurd (true≢false (sym no))
      by kinds.Boolean kinds.Char e f h k l =
          let no : false ≡ true = rw (e, f) at h in absurd (true≢false (sym no))
      by kinds.Boolean (kinds.Enumeration q ms) e f h k l =
          let no : false ≡ true = rw (e, f) at h in absurd (true≢false (sym no))
      by kinds.Char kinds.Integer e f h k l =
          let no : false ≡ true = rw (e, f) at h in absurd (true≢false (sym no))
      by kinds.Char kinds.Boolean e f h k l =
          let no : false ≡ true = rw (e, f) at h in absurd (true≢false (sym no))
      by kinds.Char (kinds.Enumeration q ms) e f h k l =
          let no : false ≡ true = rw (e, f) at h in absurd (true≢false (sym no))
      by (kinds.Enumeration p ns) kinds.Integer e f h k l =
          let no : false ≡ true = rw (e, f) at h in absurd (true≢false (sym no))
      by (kinds.Enumeration p ns) kinds.Boolean e f h k l =
          let no : false ≡ true = rw (e, f) at h in absurd (true≢false (sym no))
      by (kinds.Enumeration p ns) kinds.Char e f h k l =
          let no : false ≡ true = rw (e, f) at h in absurd (true≢false (sym no))
      by x (kinds.Part of low high) e f h k l = absurd l
      by x (kinds.SetOf base) e f h k l = absurd l
      by x (kinds.ArrayOf index of) e f h k l = absurd l
      by x (kinds.Fields fields) e f h k l = absurd l
      by (kinds.Part of low high) y e f h k l = absurd k
      by (kinds.SetOf base) y e f h k l = absurd k
      by (kinds.ArrayOf index of) y e f h k l = absurd k
      by (kinds.Fields fields) y e f h k l = absurd k

  -- VALUES

  integer_value : (z : ℤ) → neg_ℤ (pos maxint) ≤ℤ z → z ≤ℤ pos maxint
      → IsSoundValue (valued kind.Integer z)
  unfolding out-Kind denote.Hole.Carrier.out
  integer_value z l h = record { holds = (l, h); host = integer_sound; known = tt }

  boolean_value : (z : ℤ) → pos 0 ≤ℤ z → z ≤ℤ pos 1 → IsSoundValue (valued kind.Boolean z)
  unfolding out-Kind denote.Hole.Carrier.out
  boolean_value z l h = record { holds = (l, h); host = boolean_sound; known = tt }

  char_value : (n : ℕ) → n ≤ 127 → IsSoundValue (valued kind.Char (pos n))
  unfolding out-Kind denote.Hole.Carrier.out
  char_value n h = record {
    holds = (omega (arith, ints), omega (arith, ints, h));
    host = char_sound;
    known = tt;
  }

  is_value : (v w : Valued) → ◌≡◌ {A = Option Valued} (Some v) (Some w) → IsSoundValue v
      → IsSoundValue w
  is_value v w e sound = subst IsSoundValue (same_Some v w e) sound

  predeclared_sound : (n : PredeclaredName) (v : Valued) → predeclared_constant n ≡ Some v
      → IsSoundValue v
  predeclared_sound known.False v h =
      is_value (valued kind.Boolean (pos 0)) v h
      (boolean_value (pos 0) (omega (arith, ints)) (omega (arith, ints)))
  predeclared_sound known.True v h =
      is_value (valued kind.Boolean (pos 1)) v h
      (boolean_value (pos 1) (omega (arith, ints)) (omega (arith, ints)))
  predeclared_sound known.Maxint v h =
      is_value (valued kind.Integer (pos maxint)) v h
      (integer_value (pos maxint) (omega (arith, ints)) (omega (arith, ints)))
  predeclared_sound _ v h = absurd (none-some v h)

  -- numbers
  at_most : (n m : ℕ) → nat_le n m ≡ true → n ≤ m
  at_most n m h = grind (arith, nat_tests)

  number_of : (minus : Bool) (n : ℕ) → n ≤ maxint
      → IsSoundValue (valued kind.Integer (if minus then pos 0 -ℤ pos n else pos n))
  number_of true n h =
      integer_value (pos 0 -ℤ pos n) (omega (arith, ints, h)) (omega (arith, ints, h))
  number_of false n h = integer_value (pos n) (omega (arith, ints, h)) (omega (arith, ints, h))

  number_sound : (sign : Option Sign) (n : ℕ) (v : Valued) → number_value sign n ≡ Some v
      → IsSoundValue v
  number_sound sign n v h = by (nat_le n maxint) refl h
    where
      by : (b : Bool) → nat_le n maxint ≡ b
          → (if b
          then Some (valued kind.Integer (if is_minus sign then pos 0 -ℤ pos n else pos n))
          else None)
          ≡ Some v → IsSoundValue v
      by true e q = is_value _ v q (number_of (is_minus sign) n (at_most n maxint e))
      by false e q = absurd (none-some v q)

  -- signs
  is_an_integer : (k : Kind) → is_integer k ≡ true → out-Kind k ≡ kinds.Integer
  is_an_integer k h = by (out-Kind k) refl h
    where
      by : (l : KindLayer) → out-Kind k ≡ l → is_integer k ≡ true → out-Kind k ≡ kinds.Integer
      by kinds.Integer e h = e
      by kinds.Boolean e h =
          let no : false ≡ true = rw e at h in absurd (true≢false (sym no))
      by kinds.Char e h = let no : false ≡ true = rw e at h in absurd (true≢false (sym no))
      by (kinds.Enumeration place names) e h =
          let no : false ≡ true = rw e at h in absurd (true≢false (sym no))
      by (kinds.Part of low high) e h =
          let no : false ≡ true = rw e at h in absurd (true≢false (sym no))
      by (kinds.SetOf base) e h =
          let no : false ≡ true = rw e at h in absurd (true≢false (sym no))
      by (kinds.ArrayOf index of) e h =
          let no : false ≡ true = rw e at h in absurd (true≢false (sym no))
      by (kinds.Fields fields) e h =
          let no : false ≡ true = rw e at h in absurd (true≢false (sym no))

  opposite : (z : ℤ) → IsHeld kinds.Integer z → IsHeld kinds.Integer (pos 0 -ℤ z)
  opposite z h = (omega (arith, ints, h.0, h.1), omega (arith, ints, h.0, h.1))

  negated_sound : (v : Valued) → is_integer v.host ≡ true → IsSoundValue v
      → IsSoundValue (valued v.host (pos 0 -ℤ v.ordinal))
  negated_sound v is sound =
      let e = is_an_integer v.host is in
      let held : IsHeld kinds.Integer v.ordinal =
      subst (λ (l : KindLayer). IsHeld l v.ordinal) e (held_as v.host v.ordinal sound.holds) in
      record {
        holds = holds_as v.host (pos 0 -ℤ v.ordinal) kinds.Integer e (opposite v.ordinal held);
        host = sound.host;
        known = sound.known;
      }

  minus_sound : (v w : Valued) → is_integer v.host ≡ true → IsSoundValue v → negated v ≡ Some w
      → IsSoundValue w
  minus_sound v w is sound h = by (int_lt (pos maxint) (pos 0 -ℤ v.ordinal)) h
    where
      by : (b : Bool) → (if b then None else Some (valued v.host (pos 0 -ℤ v.ordinal))) ≡ Some w
          → IsSoundValue w
      by true q = absurd (none-some w q)
      by false q = is_value _ w q (negated_sound v is sound)

  with_sound : (sign : Sign) (v w : Valued) → IsSoundValue v → with_sign sign v ≡ Some w
      → IsSoundValue w
  with_sound sign v w sound h = by sign (is_integer v.host) refl h
    where
      by : (sign : Sign) (b : Bool) → is_integer v.host ≡ b → with_sign sign v ≡ Some w
          → IsSoundValue w
      by Plus true e q =
          is_value v w (ap (λ x. if x then Some v else None) (sym e) ∙ q) sound
      by Minus true e q =
          minus_sound v w e sound (ap (λ x. if x then negated v else None) (sym e) ∙ q)
      by Plus false e q =
          absurd (none-some w (ap (λ x. if x then Some v else None) (sym e) ∙ q))
      by Minus false e q =
          absurd (none-some w (ap (λ x. if x then negated v else None) (sym e) ∙ q))

  signed_sound : (sign : Option Sign) (k : Option Valued) (w : Valued)
      → ((v : Valued) → k ≡ Some v → IsSoundValue v) → signed_value sign k ≡ Some w
      → IsSoundValue w
  signed_sound sign None w sound h = absurd (none-some w h)
  signed_sound None (Some v) w sound h = is_value v w h (sound v refl)
  signed_sound (Some sign) (Some v) w sound h = with_sound sign v w (sound v refl) h

  -- names
  for_constant : (s : Sort) (e : Entry) → same_sort sort.Constant s ≡ true → IsSoundFor s e
      → IsSoundConstant e
  for_constant sort.Constant e h sound = sound
  for_constant _ e h sound = absurd (true≢false (sym h))

  entry_sound : (x : Option Entry) (v : Valued)
      → ((e : Entry) → x ≡ Some e → IsSoundFor e.declared.sort e) → value_by x ≡ Some v
      → IsSoundValue v
  entry_sound None v sound h = absurd (none-some v h)
  entry_sound (Some e) v sound h = by (same_sort sort.Constant e.declared.sort) refl h
    where
      by : (b : Bool) → same_sort sort.Constant e.declared.sort ≡ b
          → (if b then value_with e.kind e.ordinal else None) ≡ Some v → IsSoundValue v
      by true s q = for_constant e.declared.sort e s (sound e refl) v q
      by false s q = absurd (none-some v q)

  meant_sound : (u : Used) (m : Meant) (v : Valued) → meaning o u ≡ m → IsSoundAt u
      → value_meant o m ≡ Some v → IsSoundValue v
  meant_sound u meant.Nothing v is sound h = absurd (none-some v h)
  meant_sound u (meant.Predeclared n) v is sound h = predeclared_sound n v h
  meant_sound u (meant.Unseen p) v is sound h = absurd (none-some v h)
  meant_sound u (meant.Seen p) v is sound h =
      entry_sound (entry_at o p) v (λ e there. sound p e is there) h

  pub value_sound : (c : Constant) (v : Valued) → OfConstant IsSoundAt c → CodeFits c
      → constant_value o c ≡ Some v → IsSoundValue v
  value_sound (constant.Number sign n place) v sound code h = number_sound sign n v h
  value_sound (constant.Named sign u place) v sound code h =
      signed_sound sign (named_value o u) v
      (λ w e. meant_sound u (meaning o u) w refl sound e) h
  value_sound (constant.Character code place) v sound fits h =
      is_value (valued kind.Char (pos code)) v h (char_value code fits)
