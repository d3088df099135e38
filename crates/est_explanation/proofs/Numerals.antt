-- Numbers in decimal digits are tokens, and are read as what they are.
use Rattle.std.proofs.Common.{◌≡◌, ℕ, ◌<◌, ◌≤◌, ◌^◌, true, List, [], ◌∷◌, length, refl, arith}
use Rattle.std.proofs.Common.{rules, lt-ltb}
use Rattle.std.specs.Prelude.{fold}
use Rattle.std.specs.Char.{is_ascii_digit}
use Rattle.std.specs.Fmt.{decimal}
use Rattle.std.specs.List.{list_all}
use Rattle.std.proofs.lemmas.Fmt.{digits_decimal, digits_value-decimal, decimal_nonempty}
use Rattle.std.proofs.lemmas.Fmt.{length-decimal-le}
use Rattle.std.proofs.lemmas.Str.Parse.{IsNumeralModel, numerals_by_fold}
use Rattle.est_lexer.specs.Spellings.{is_number}
use Rattle.text_reader.specs.Tests.{with_digit, value_of}

own : IsNumeralModel (λ ds. list_all is_ascii_digit ds ≡ true) value_of
own = numerals_by_fold _ (search rules) (fold with_digit) (search rules)

number_of : (ds : List ℕ) → list_all is_ascii_digit ds ≡ true → 0 < length ds → length ds ≤ 18
    → is_number ds ≡ true
number_of [] h some few = absurd (omega arith)
number_of (d ∷ ds) h some few = rw (h, lt-ltb (length ds) 18 (omega arith)) refl

-- a number of at most 18 digits is a token
pub decimal_is_number : (n : ℕ) → n < 10 ^ 18 → is_number (decimal n) ≡ true
decimal_is_number n h =
    let small : n < 2 ^ 64 = omega arith in
    number_of (decimal n) (digits_decimal own n small) (decimal_nonempty n small)
    (length-decimal-le 18 n (omega arith) h small)

-- it is read as what it is
pub decimal_value : (n : ℕ) → n < 10 ^ 18 → value_of (decimal n) ≡ n
decimal_value n h = digits_value-decimal own n (omega arith)

-- it has digits alone
pub decimal_digits : (n : ℕ) → n < 2 ^ 64 → list_all is_ascii_digit (decimal n) ≡ true
decimal_digits n h = digits_decimal own n h

-- a number of 32 bits has at most ten digits
pub few_digits : (m n : ℕ) → m ≡ n → n < 2 ^ 32 → length (decimal m) ≤ 10
few_digits m n e h = length-decimal-le 10 m (omega arith) (omega arith) (omega arith)
