-- The choices of the variables that an `any` declares are no more than the rules count.
use Rattle.std.proofs.Common.{◌≡◌, refl, sym, ap, subst, ◌∙◌, arith, ℕ, zero, suc, ◌+◌, ◌*◌, ◌-◌}
use Rattle.std.proofs.Common.{◌^◌, ◌<◌, ◌≤◌, min, Bool, true, false, List, [], ◌∷◌, ◌++◌, length}
use Rattle.std.proofs.Common.{map, Option, Some, None, is_some, ℤ, pos, negsuc, inl, inr}
use Rattle.std.specs.Prelude.{◌⊎◌, if◌then◌else◌, nat_lt, ◌+ℤ◌, ◌-ℤ◌}
use Rattle.std.specs.Int.{int_gap}
use Rattle.std.proofs.lemmas.Bool.{cases_lt, ltb-false}
use Rattle.std.proofs.lemmas.Int.{ints}
use Rattle.std.proofs.lemmas.List.{length-map}
use Rattle.std.proofs.lemmas.List.FromFn.{length-map-range_with_len}
use Rattle.std.proofs.Math.Nat.{min-le_left, min-eq_left, min-eq_right, mul_assoc}
use Rattle.std.proofs.Math.Nat.{mul-le-mul_left, mul-le-mul_right, le-mul_of_pos_right}
use Rattle.est_syntax.specs.Kinds.{maxint, is_ordinal}
use Rattle.est_syntax.specs.declared.kind.Kind.{Kind, out-Kind}
use Rattle.est_syntax.specs.declared.kind.Kind.TheOpen as kind
use Rattle.est_syntax.specs.declared.name.Used.{Used}
use Rattle.est_syntax.specs.declared.rule.Rule.TheVariants.{TooLarge}
use Rattle.est_syntax.specs.declared.type_text.VarDef.{VarDef}
use Rattle.est_values.specs.FittingValues.{KindLayer, first_ordinal, ordinal_count}
use Rattle.est_values.specs.OrdinalTuples.{ordinal_tuples}
use Rattle.est_values.proofs.Gaps.{gap_counted, gap_none}
use Rattle.rule_scope.specs.Outline.{Outline, entry_at}
use Rattle.rule_scope.specs.declared.declaration.Measured.{Measured}
use Rattle.rule_kinds.specs.TypeTexts.{count, counted, multiplied, text_type}
use Rattle.rule_ports.proofs.Tuples.{flat_number}
use Rattle.est_check.specs.Clauses.{most_tuples, choices_by, names_choices}
use Rattle.est_check.specs.Clauses.{choices_with, tuples, tuples_faults}
use Rattle.law_sentences.specs.WholeBodies.{AreDomains}
use Rattle.law_sentences.proofs.NoFaults.{unbroken_if}

-- KINDS

-- one less and one more
pos_back : (m : ℕ) → (pos m -ℤ pos 1) +ℤ pos 1 ≡ pos m
pos_back m = omega (arith, ints)

constants_counted : (n m : ℕ) → m ≤ n → int_gap (pos 0) ((pos m -ℤ pos 1) +ℤ pos 1) ≤ n
constants_counted n m l = subst (λ z. int_gap (pos 0) z ≤ n) (sym (pos_back m)) (omega (arith, l))

part_counted : (low high d : ℤ) → high -ℤ low ≡ d → int_gap low (high +ℤ pos 1) ≤ counted d
part_counted low high (pos n) e =
    let g = gap_counted low high n (sym e) in omega (arith, g)
part_counted low high (negsuc n) e =
    let g = gap_none low high (omega (arith, ints, e)) in omega (arith, g)

-- a kind has no more ordinals than the rules count
count_most : (k : Kind) → ordinal_count k ≤ count k
count_most k = by (out-Kind k) refl
  where
    by : (l : KindLayer) → out-Kind k ≡ l → ordinal_count k ≤ count k
    by kind.Integer e = rw e (omega arith)
    by kind.Boolean e = rw e (omega arith)
    by kind.Char e = rw e (omega arith)
    by (kind.Enumeration place names) e =
        rw e (constants_counted (length names) (min (length names) (maxint + 1))
        (min-le_left (length names) (maxint + 1)))
    by (kind.Part host low high) e = rw e (part_counted low high (high -ℤ low) refl)
    by (kind.SetOf base) e = rw e (omega arith)
    by (kind.ArrayOf index of) e = rw e (omega arith)
    by (kind.Fields fields) e = rw e (omega arith)

-- the kinds of those of some names of one type that are declared
abbrev pub kinds_with : Option Measured → List Kind → List Kind
kinds_with None ks = ks
kinds_with (Some m) ks = m.kind ∷ ks

abbrev pub named_kinds : Outline → Option Measured → List Used → List Kind
named_kinds o m [] = []
named_kinds o m (u ∷ us) =
    if is_some (entry_at o u.place) then kinds_with m (named_kinds o m us) else named_kinds o m us

-- the same among the names of the text of an `any`
abbrev pub written_kinds : Outline → List VarDef → List Kind
written_kinds o [] = []
written_kinds o (v ∷ vs) = named_kinds o (text_type o v.text) v.names ++ written_kinds o vs

-- TUPLES

-- the product of the numbers of ordinals
abbrev product : List Kind → ℕ
product [] = 1
product (k ∷ ks) = ordinal_count k * product ks

product_joined : (ks js : List Kind) → product (ks ++ js) ≡ product ks * product js
product_joined [] js = omega arith
product_joined (k ∷ ks) js =
    ap (λ n. ordinal_count k * n) (product_joined ks js)
    ∙ sym (mul_assoc (ordinal_count k) (product ks) (product js))

tuples_number : (ks : List Kind) → length (ordinal_tuples ks) ≡ product ks
tuples_number [] = refl
tuples_number (k ∷ ks) =
    flat_number (λ (z : ℤ). map (λ (t : List ℤ). z ∷ t) (ordinal_tuples ks)) (product ks)
    (λ z. length-map (ordinal_tuples ks) (λ (t : List ℤ). z ∷ t) ∙ tuples_number ks) _
    ∙ ap (λ n. n * product ks)
    (length-map-range_with_len (λ (i : ℕ). first_ordinal k +ℤ pos i) 0 (ordinal_count k))

-- COUNTING

-- the greatest number that is counted
abbrev most : ℕ
most = 2 ^ 64 - 1

-- so many are counted as n at least, or as many as can be
abbrev AreCounted : ℕ → ℕ → Type 0
AreCounted many n = (many ≤ n) ⊎ (most ≤ n)

counted_more : (many n k c : ℕ) → k ≤ c → AreCounted many n
    → AreCounted (many * k) (multiplied n c)
counted_more many n k c l (inl h) = one (cases_lt (n * c) most)
  where
    all : many * k ≤ n * c
    all = let a = mul-le-mul_left many l in
        let b = mul-le-mul_right c h in omega (arith, a, b)

    one : ((n * c) < most) ⊎ (most ≤ n * c) → AreCounted (many * k) (multiplied n c)
    one (inl g) = inl (subst (λ m. many * k ≤ m)
        (sym (min-eq_left {n = n * c} {m = most} (omega (arith, g)))) all)
    one (inr g) = inr (subst (λ m. most ≤ m) (sym (min-eq_right {n = most} {m = n * c} g))
        (omega arith))
counted_more many n k zero l (inr h) =
    inl (subst (λ m. many * m ≤ multiplied n zero) (let e : 0 ≡ k = omega (arith, l) in e)
    (omega arith))
counted_more many n k (suc c) l (inr h) =
    let g = le-mul_of_pos_right {m = suc c} n (omega arith) in
    inr (subst (λ m. most ≤ m)
    (sym (min-eq_right {n = most} {m = n * suc c} (omega (arith, g, h)))) (omega arith))

module _ (o : Outline) where
  -- the names of one type
  names_counted : (m : Measured) (us : List Used) (many n : ℕ) → AreCounted many n
      → AreCounted (many * product (named_kinds o (Some m) us))
      (names_choices o (count m.kind) n us)
  names_counted m [] many n h = subst (λ x. AreCounted x n) (let e : many ≡ many * 1 = omega arith
      in e) h
  names_counted m (u ∷ us) many n h = one (is_some (entry_at o u.place))
      (λ a b g. names_counted m us a b g)
    where
      ks : List Kind
      ks = named_kinds o (Some m) us

      c : ℕ
      c = count m.kind

      one : (b : Bool)
          → ((a d : ℕ) → AreCounted a d → AreCounted (a * product ks) (names_choices o c d us))
          → AreCounted (many * product (if b then kinds_with (Some m) ks else ks))
          (names_choices o c (if b then multiplied n c else n) us)
      one true rest = subst (λ x. AreCounted x (names_choices o c (multiplied n c) us))
          (mul_assoc many (ordinal_count m.kind) (product ks))
          (rest (many * ordinal_count m.kind) (multiplied n c)
          (counted_more many n (ordinal_count m.kind) c (count_most m.kind) h))
      one false rest = rest many n h

  -- the choices of names that have an ordinal type
  ordinal_choices : (m : Measured) (t : Option Measured) → t ≡ Some m → is_ordinal m.kind ≡ true
      → choices_by t ≡ Some (count m.kind)
  ordinal_choices m t e h =
      ap choices_by e ∙ ap (λ b. if b then Some (count m.kind) else None) h

  -- the variables of an `any`, whose types are ordinal
  counted_all : (vs : List VarDef) (many n : ℕ) → AreDomains o vs → AreCounted many n
      → (r : ℕ) × (tuples o (Some n) vs ≡ Some r)
      × AreCounted (many * product (written_kinds o vs)) r
  counted_all [] many n d h =
      (n, refl, subst (λ x. AreCounted x n) (let e : many ≡ many * 1 = omega arith in e) h)
  counted_all (v ∷ vs) many n d h =
      let m = d.0.0 in
      let us = v.names in
      let more = names_choices o (count m.kind) n us in
      let own = product (named_kinds o (Some m) us) in
      let rest = counted_all vs (many * own) more d.1 (names_counted m us many n h) in (
        rest.0,
        ap (λ c. tuples o (choices_with o (Some n) us c) vs)
            (ordinal_choices m (text_type o v.text) d.0.1 d.0.2) ∙ rest.1,
        subst (λ x. AreCounted x rest.0) (
            mul_assoc many own (product (written_kinds o vs))
            ∙ ap (λ x. many * x) (
            sym (product_joined (named_kinds o (Some m) us) (written_kinds o vs))
            ∙ ap (λ t. product (named_kinds o t us ++ written_kinds o vs)) (sym d.0.1))
            ) rest.2,
      )

  -- where the rules find no more than they allow, there are no more
  pub few_tuples : (vs : List VarDef) (place : ℕ) → AreDomains o vs
      → tuples_faults (tuples o (Some 1) vs) place ≡ []
      → length (ordinal_tuples (written_kinds o vs)) ≤ most_tuples
  few_tuples vs place d none =
      let a = counted_all vs 1 1 d (inl (omega arith)) in
      let n = ltb-false most_tuples a.0 (unbroken_if (nat_lt most_tuples a.0) place TooLarge
      (subst (λ x. tuples_faults x place ≡ []) a.1 none)) in
      one a.0 n a.2
    where
      one : (r : ℕ) → r ≤ most_tuples → AreCounted (1 * product (written_kinds o vs)) r
          → length (ordinal_tuples (written_kinds o vs)) ≤ most_tuples
      one r l (inl h) = omega (arith, l, h, tuples_number (written_kinds o vs))
      one r l (inr h) = absurd (omega (arith, l, h))
