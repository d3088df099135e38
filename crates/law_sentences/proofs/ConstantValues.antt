-- A constant that breaks no rule has a value.
use Rattle.std.specs.Prelude.{if◌then◌else◌, nat_le, is_none}
use Rattle.std.proofs.Common.{◌≡◌, refl, sym, ap, subst, ◌∙◌, true≢false, ℕ, ◌≤◌}
use Rattle.std.proofs.Common.{ℤ, pos, ◌-ℤ◌, int_lt, Bool, true, false, [], Option, Some, None}
use Rattle.std.proofs.Common.{arith}
use Rattle.std.proofs.lemmas.Int.{ints}
use Rattle.std.proofs.lemmas.Bool.Decides.{nat_tests}
use Rattle.est_syntax.specs.Kinds.{maxint}
use Rattle.est_syntax.specs.Signs.{is_minus}
use Rattle.est_syntax.specs.declared.constant.Sign.{Sign}
use Rattle.est_syntax.specs.declared.constant.Sign.TheVariants.{Plus, Minus}
use Rattle.est_syntax.specs.declared.constant.Constant.{Constant}
use Rattle.est_syntax.specs.declared.constant.Constant.TheVariants as constants
use Rattle.est_syntax.specs.declared.kind.Kind.{out-Kind}
use Rattle.est_syntax.specs.declared.kind.Kind.TheVariants as kind
use Rattle.est_syntax.specs.declared.name.Used.{Used}
use Rattle.est_syntax.specs.declared.rule.Rule.TheVariants.{WrongSort, NumberTooLarge}
use Rattle.rule_scope.specs.declared.declaration.Meant.{Meant}
use Rattle.rule_scope.specs.declared.declaration.Meant.TheVariants as meant
use Rattle.rule_scope.specs.declared.declaration.Sort.TheVariants as sort
use Rattle.rule_scope.specs.declared.predeclared.PredeclaredName.{PredeclaredName}
use Rattle.rule_scope.specs.declared.predeclared.PredeclaredName.TheVariants as known
use Rattle.rule_scope.specs.Outline.{Outline}
use Rattle.rule_scope.specs.Uses.{meaning}
use Rattle.rule_kinds.specs.declared.value.Valued.{Valued}
use Rattle.rule_kinds.specs.Constants.{valued, predeclared_constant, is_integer, negated}
use Rattle.rule_kinds.specs.Constants.{with_sign, signed_value, value_with, value_by}
use Rattle.rule_kinds.specs.Constants.{value_meant, named_value, constant_value, number_place}
use Rattle.rule_kinds.specs.Constants.{constant_used, sign_faults, constant_faults}
use Rattle.law_sentences.specs.Full.{IsOfProfile, MayBeNegated, IsFullAt}
use Rattle.law_sentences.specs.WrittenExpressions.{OfConstant}
use Rattle.law_sentences.specs.FullDeclarations.{HasValue}
use Rattle.law_sentences.proofs.NoFaults.{parted, unbroken, unbroken_if}
use Rattle.law_sentences.proofs.SeenUses.{right_sort, full_constant}

-- integers of the profile
natural_fits : (n : ℕ) → n ≤ maxint → IsOfProfile (pos n)
natural_fits n h = (grind (arith, ints), grind (arith, ints))

twice_negated : (z : ℤ) → pos 0 -ℤ (pos 0 -ℤ z) ≡ z
twice_negated z = omega (arith, ints)

negated_fits : (z : ℤ) → IsOfProfile z → IsOfProfile (pos 0 -ℤ z)
negated_fits z h = (h.1, ap (int_lt (pos maxint)) (twice_negated z) ∙ h.0)

number_fits : (minus : Bool) (n : ℕ) → n ≤ maxint
    → IsOfProfile (if minus then pos 0 -ℤ pos n else pos n)
number_fits true n h = negated_fits (pos n) (natural_fits n h)
number_fits false n h = natural_fits n h

-- what is predeclared
predeclared_fits : (n : PredeclaredName) → is_none (predeclared_constant n) ≡ false
    → HasValue (predeclared_constant n)
predeclared_fits known.False h = (valued kind.Boolean (pos 0), refl, λ j. (refl, refl))
predeclared_fits known.True h = (valued kind.Boolean (pos 1), refl, λ j. (refl, refl))
predeclared_fits known.Maxint h = (valued kind.Integer (pos maxint), refl, λ j. (refl, refl))
predeclared_fits _ h = absurd (true≢false h)

-- the name of a constant
used_fits : (o : Outline) (u : Used) (m : Meant) → IsFullAt o u → meaning o u ≡ m
    → constant_used o u m ≡ [] → HasValue (value_meant o m)
used_fits o u meant.Nothing full is h = cc
used_fits o u (meant.Predeclared n) full is h =
    predeclared_fits n (unbroken_if (is_none (predeclared_constant n)) u.place WrongSort h)
used_fits o u (meant.Unseen p) full is h = cc
used_fits o u (meant.Seen p) full is h =
    let s = right_sort o sort.Constant u.place p h in
    let f = full_constant s.0.declared.sort s.0 s.2 (full p s.0 is s.1) in (
      valued f.0.0.kind f.1.0,
      ap value_by s.1 ∙ ap (λ x. if x then value_with s.0.kind s.0.ordinal else None) s.2
          ∙ (λ i. value_with (f.0.1 i) (f.1.1 i)),
      f.1.2,
    )

-- its sign
with_fits : (sign : Sign) (v : Valued) → is_integer v.host ≡ true
    → MayBeNegated v.host v.ordinal → HasValue (with_sign sign v)
with_fits Plus v i n = (v, ap (λ x. if x then Some v else None) i, n)
with_fits Minus v i n =
    let w = valued v.host (pos 0 -ℤ v.ordinal) in (
      w,
      ap (λ x. if x then negated v else None) i ∙ ap (λ x. if x then None else Some w) (n i).1,
      λ j. negated_fits v.ordinal (n i),
    )

sign_fits : (sign : Option Sign) (v : Valued) (place : ℕ) → MayBeNegated v.host v.ordinal
    → sign_faults sign place (Some v) ≡ [] → HasValue (signed_value sign (Some v))
sign_fits None v place n h = (v, refl, n)
sign_fits (Some sign) v place n h =
    with_fits sign v (unbroken (is_integer v.host) place WrongSort h) n

signed_fits : (sign : Option Sign) (k : Option Valued) (place : ℕ) → HasValue k
    → sign_faults sign place k ≡ [] → HasValue (signed_value sign k)
signed_fits sign k place n h =
    let f = sign_fits sign n.0 place n.2
    (subst (λ x. sign_faults sign place x ≡ []) n.1 h) in
    (f.0, ap (signed_value sign) n.1 ∙ f.1, f.2)

no_integer : is_integer kind.Char ≡ false
unfolding out-Kind denote.Hole.Carrier.out
no_integer = refl

at_most : (n m : ℕ) → nat_le n m ≡ true → n ≤ m
at_most n m h = grind (arith, nat_tests)

pub constant_fits : (o : Outline) (c : Constant) → OfConstant (IsFullAt o) c
    → constant_faults o c ≡ [] → HasValue (constant_value o c)
constant_fits o (constants.Number sign n place) full h =
    let le = unbroken (nat_le n maxint) (number_place sign place) NumberTooLarge h in
    let v = valued kind.Integer (if is_minus sign then pos 0 -ℤ pos n else pos n) in (
      v,
      ap (λ x. if x then Some v else None) le,
      λ j. number_fits (is_minus sign) n (at_most n maxint le),
    )
constant_fits o (constants.Named sign u place) full h =
    let k = parted (constant_used o u (meaning o u)) (sign_faults sign u.place (named_value o u)) h
    in
    signed_fits sign (named_value o u) u.place
    (used_fits o u (meaning o u) full refl k.0) k.1
constant_fits o (constants.Character code place) full h =
    (valued kind.Char (pos code), refl, λ j. absurd (true≢false (sym j ∙ no_integer)))
