-- The value of digits that are read from left to right.
use Rattle.std.proofs.Common.{◌≡◌, ℕ, suc, ◌+◌, ◌*◌, ◌^◌, true, ◌<◌, ◌≤◌, List, []}
use Rattle.std.proofs.Common.{◌∷◌, length, drop, get_or, ap, arith, ◌&&◌, ltb-true}
use Rattle.std.specs.Prelude.{fold, nat_lt}
use Rattle.std.specs.Char.{is_ascii_digit}
use Rattle.std.specs.List.{list_all}
use Rattle.std.proofs.Math.Nat.{mul-le-mul_right, mul_assoc, pow-le-pow_right, pow-succ'}
use Rattle.std.proofs.lemmas.Bool.{and_parts}
use Rattle.std.proofs.lemmas.Bool.Decides.{nat_tests}
use Rattle.std.proofs.lemmas.List.{drop_more}
use Rattle.est_lexer.specs.Spellings.{is_number}
use Rattle.text_reader.specs.Tests.{with_digit, value_of}

-- the rest only adds to a value
pub fold-with_digit-grows : (digits : List ℕ) (value : ℕ) → value ≤ fold with_digit value digits
fold-with_digit-grows [] value = omega arith
fold-with_digit-grows (digit ∷ digits) value =
    omega (arith, fold-with_digit-grows digits (with_digit value digit))

pub fold-drop-more : (digits : List ℕ) (i value : ℕ) → i < length digits
    → fold with_digit value (drop i digits) ≡ fold with_digit (with_digit value (get_or digits i 0))
    (drop (i + 1) digits)
fold-drop-more digits i value l = ap (fold with_digit value) (drop_more digits i 0 l)

-- with one digit more the value is no more than the whole
pub value_of-passes : (digits : List ℕ) (i value : ℕ) → i < length digits
    → value_of digits ≡ fold with_digit value (drop i digits)
    → with_digit value (get_or digits i 0) ≤ value_of digits
value_of-passes digits i value l e =
    omega (
      arith,
      e,
      fold-drop-more digits i value l,
      fold-with_digit-grows (drop (i + 1) digits)
          (with_digit value (get_or digits i 0)),
    )

-- digits make less than a power of ten
digits-small : (digits : List ℕ) (value : ℕ) → list_all is_ascii_digit digits ≡ true
    → suc (fold with_digit value digits) ≤ (value + 1) * 10 ^ length digits
digits-small [] value e = omega arith
digits-small (digit ∷ digits) value e =
    let p = and_parts _ _ e in
    let d : digit ≤ 57 = digit-most digit p.0 in
    let r = digits-small digits (with_digit value digit) p.1 in
    let m : (with_digit value digit + 1) * 10 ^ length digits ≤ ((value + 1) * 10) * 10 ^ length
    digits = mul-le-mul_right (10 ^ length digits) (omega (arith, d)) in
    let q : ((value + 1) * 10) * 10 ^ length digits ≡ (value + 1) * (10 * 10 ^ length digits) =
    mul_assoc (value + 1) 10 (10 ^ length digits) in
    let u : (value + 1) * 10 ^ length (digit ∷ digits) ≡ (value + 1) * (10 * 10 ^ length digits) =
    ap (λ n. (value + 1) * n) (pow-succ' 10 (length digits)) in
    omega (arith, r, m, q, u)
  where
    digit-most : (b : ℕ) → is_ascii_digit b ≡ true → b ≤ 57
    digit-most b e = grind (arith, nat_tests)

-- a number has at most 18 digits
pub number-small : (bytes : List ℕ) → is_number bytes ≡ true → value_of bytes < 10 ^ 18
number-small [] e = absurd cc
number-small (first ∷ rest) e =
    let p = and_parts (is_ascii_digit first && list_all is_ascii_digit rest)
    (nat_lt (length rest) 18) e in
    let few : length rest < 18 = ltb-true (length rest) 18 p.1 in
    let s = digits-small (first ∷ rest) 0 p.0 in
    let t : 10 ^ length (first ∷ rest) ≤ 10 ^ 18 = pow-le-pow_right (omega arith)
    {i = length (first ∷ rest)} {j = 18} (omega (arith, few)) in
    omega (arith, s, t)

-- and so are those that are read so far
pub number-passes : (bytes : List ℕ) (i value : ℕ) → is_number bytes ≡ true → i < length bytes
    → value_of bytes ≡ fold with_digit value (drop i bytes)
    → with_digit value (get_or bytes i 0) < 10 ^ 18
number-passes bytes i value e l v =
    omega (arith, value_of-passes bytes i value l v, number-small bytes e)
