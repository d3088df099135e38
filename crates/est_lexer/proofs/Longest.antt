use Rattle.std.proofs.Common.{◌≡◌, ◌≤◌, ◌<◌, ◌+◌, ◌-◌, ℕ, suc, zero, List, [], ◌∷◌, length}
use Rattle.std.proofs.Common.{take, drop, get_or, arith, Bool, true, false, not, refl, sym}
use Rattle.std.proofs.Common.{subst, eqb, ◌&&◌, Some, None, length-drop, length-take}
use Rattle.std.specs.List.{prefix_len}
use Rattle.std.specs.Char.{is_ascii_alphabetic, is_ascii_digit}
use Rattle.std.proofs.Math.Bool.{and-false}
use Rattle.std.proofs.lemmas.Bool.{both_ways, and_left, and_parts, lt-ltb}
use Rattle.std.proofs.lemmas.List.{drop_more}
use Rattle.std.proofs.lemmas.List.Folds.{length-prefix_len}
use Rattle.est_lexer.specs.Between.{opening}
use Rattle.est_lexer.specs.Spellings.{name_kind, is_identifier_part, is_character}
use Rattle.est_lexer.specs.Spellings.{is_plain_character, kind_of, symbol_kind}
use Rattle.est_lexer.specs.Words.{symbols}
use Rattle.est_lexer.specs.inside.Scanning.{IsBegin, IsTokenAt, IsBadAt}
use Rattle.est_lexer.specs.TokenList.{MayBegin, IsLongest, NoneBegins, digits_at, illegal}
use Rattle.est_lexer.specs.declared.kind.Token.{Token}
use Rattle.est_lexer.specs.declared.kind.TokenKind.{TokenKind}
use Rattle.est_lexer.specs.declared.kind.TokenKind.TheVariants.{Number, Character, Bad}
use Rattle.est_lexer.proofs.KindOf.{kind_of_letter, kind_of_digit, kind_of_quote}
use Rattle.est_lexer.proofs.Runs.{front_passes, longer_fails}

-- The first n bytes are the longest token that the rest of the text begins with.
pub record Longest (rest : List ℕ) (n : ℕ) (kind : TokenKind) : Type 0 where
  pub inside : n ≤ length rest
  pub front : kind_of (take n rest) ≡ Some kind
  pub none_longer : (m : ℕ) → n < m → m ≤ length rest → kind_of (take m rest) ≡ None

-- No bytes are no token.
pub kind_of_nil : kind_of [] ≡ None
unfolding kind_of symbol_kind symbols
kind_of_nil = refl

-- A front is no longer than the list.
pub front_within : (p : ℕ → Bool) (xs : List ℕ) → prefix_len p xs ≤ length xs
front_within p xs = omega (arith, length-prefix_len p xs, length-take (prefix_len p xs) xs)

no_longer_name : (first : ℕ) (rest : List ℕ) → is_ascii_alphabetic first ≡ true → (m : ℕ)
    → suc (prefix_len is_identifier_part rest) < m → m ≤ length (first ∷ rest)
    → kind_of (take m (first ∷ rest)) ≡ None
no_longer_name first rest letter zero more within = absurd (omega arith)
no_longer_name first rest letter (suc m) more within =
    let fails = longer_fails is_identifier_part rest m (omega arith) (omega arith) in
    rw (kind_of_letter first (take m rest) letter, fails) refl

-- Where a letter stands, the longest token is a name.
pub name_longest : (first : ℕ) (rest : List ℕ) → is_ascii_alphabetic first ≡ true
    → Longest (first ∷ rest) (suc (prefix_len is_identifier_part rest))
    (name_kind (take (suc (prefix_len is_identifier_part rest)) (first ∷ rest)))
name_longest first rest letter = record {
  inside = omega (arith, front_within is_identifier_part rest);
  front = rw (
    kind_of_letter first (take (prefix_len is_identifier_part rest) rest) letter,
    front_passes is_identifier_part rest,
  ) refl;
  none_longer = no_longer_name first rest letter;
}

no_longer_number : (first : ℕ) (rest : List ℕ) → is_ascii_digit first ≡ true → (m : ℕ)
    → suc (prefix_len is_ascii_digit rest) < m → m ≤ length (first ∷ rest)
    → kind_of (take m (first ∷ rest)) ≡ None
no_longer_number first rest digit zero more within = absurd (omega arith)
no_longer_number first rest digit (suc m) more within =
    let fails = longer_fails is_ascii_digit rest m (omega arith) (omega arith) in
    rw (kind_of_digit first (take m rest) digit, fails) refl

-- Where a digit stands, and at most 18 in a row, the longest token is a number.
pub number_longest : (first : ℕ) (rest : List ℕ) → is_ascii_digit first ≡ true
    → prefix_len is_ascii_digit rest < 18
    → Longest (first ∷ rest) (suc (prefix_len is_ascii_digit rest)) Number
number_longest first rest digit few = record {
  inside = omega (arith, front_within is_ascii_digit rest);
  front =
      let size : length (take (prefix_len is_ascii_digit rest) rest) < 18 =
      omega (arith, length-prefix_len is_ascii_digit rest) in
      rw (
        kind_of_digit first (take (prefix_len is_ascii_digit rest) rest) digit,
        front_passes
            is_ascii_digit rest,
        lt-ltb _ _ size,
      ) refl;
  none_longer = no_longer_number first rest digit;
}

-- What stands after a quote in a character constant of three bytes.
abbrev pub is_plain_rest : List ℕ → Bool
is_plain_rest rest = is_plain_character (get_or rest 0 0) && eqb (get_or rest 1 0) 39

-- What stands after a quote in the character constant of a quote.
abbrev pub is_quotes_rest : List ℕ → Bool
is_quotes_rest rest = eqb (get_or rest 0 0) 39 && eqb (get_or rest 1 0) 39 && eqb (get_or rest 2 0)
    39

no_constant : (rest : List ℕ) (k : ℕ) → is_plain_rest rest ≡ false → is_quotes_rest rest ≡ false
    → is_character (39 ∷ take k rest) ≡ false
no_constant rest zero no_plain no_quotes = refl
no_constant [] (suc k) no_plain no_quotes = refl
no_constant (x ∷ xs) (suc zero) no_plain no_quotes = refl
no_constant (x ∷ []) (suc (suc k)) no_plain no_quotes = refl
no_constant (x ∷ y ∷ ys) (suc (suc zero)) no_plain no_quotes = no_plain
no_constant (x ∷ y ∷ []) (suc (suc (suc k))) no_plain no_quotes = no_plain
no_constant (x ∷ y ∷ z ∷ zs) (suc (suc (suc zero))) no_plain no_quotes = no_quotes
no_constant (x ∷ y ∷ z ∷ []) (suc (suc (suc (suc k)))) no_plain no_quotes = no_quotes
no_constant (x ∷ y ∷ z ∷ w ∷ ws) (suc (suc (suc (suc k)))) no_plain no_quotes = refl

-- A quote that begins no character constant begins no token.
pub quote_alone : (rest : List ℕ) → is_plain_rest rest ≡ false → is_quotes_rest rest ≡ false
    → (m : ℕ) → kind_of (take m (39 ∷ rest)) ≡ None
quote_alone rest no_plain no_quotes zero = kind_of_nil
quote_alone rest no_plain no_quotes (suc m) =
    rw (kind_of_quote (take m rest), no_constant rest m no_plain no_quotes) refl

plain_no_quote : (b : ℕ) → is_plain_character b ≡ true → eqb b 39 ≡ false
plain_no_quote b plain = not_true_false (eqb b 39) (and_parts _ _ plain).1
  where
    not_true_false : (t : Bool) → not t ≡ true → t ≡ false
    not_true_false true h = sym h
    not_true_false false h = refl

no_longer_plain : (rest : List ℕ) (k : ℕ) → is_plain_rest rest ≡ true → 2 < k → k ≤ length rest
    → is_character (39 ∷ take k rest) ≡ false
no_longer_plain [] k plain more within = absurd (omega arith)
no_longer_plain (x ∷ []) k plain more within = absurd (omega arith)
no_longer_plain (x ∷ y ∷ []) k plain more within = absurd (omega arith)
no_longer_plain (x ∷ y ∷ z ∷ zs) zero plain more within = absurd (omega arith)
no_longer_plain (x ∷ y ∷ z ∷ zs) (suc zero) plain more within = absurd (omega arith)
no_longer_plain (x ∷ y ∷ z ∷ zs) (suc (suc zero)) plain more within = absurd (omega arith)
no_longer_plain (x ∷ y ∷ z ∷ zs) (suc (suc (suc zero))) plain more within =
    and_left _ _ (and_left _ _ (plain_no_quote x (and_parts _ _ plain).0))
no_longer_plain (x ∷ y ∷ z ∷ []) (suc (suc (suc (suc k)))) plain more within = absurd (omega arith)
no_longer_plain (x ∷ y ∷ z ∷ w ∷ ws) (suc (suc (suc (suc k)))) plain more within = refl

plain_front : (rest : List ℕ) → is_plain_rest rest ≡ true → (2 ≤ length rest)
    × (is_character (39 ∷ take 2 rest) ≡ true)
plain_front [] plain = absurd (cc)
plain_front (x ∷ []) plain = absurd (both_ways _ (and-false (is_plain_character x)) plain)
plain_front (x ∷ y ∷ rest) plain = (omega arith, plain)

-- A quote, a plain byte and a quote are the longest token there.
pub plain_longest : (rest : List ℕ) → is_plain_rest rest ≡ true → Longest (39 ∷ rest) 3 Character
plain_longest rest plain =
    let front = plain_front rest plain in
    record {
      inside = omega arith;
      front = rw (kind_of_quote (take 2 rest), front.1) refl;
      none_longer = λ m more within. longer m more within;
    }
  where
    longer : (m : ℕ) → 3 < m → m ≤ length (39 ∷ rest) → kind_of (take m (39 ∷ rest)) ≡ None
    longer zero more within = absurd (omega arith)
    longer (suc m) more within =
        rw (kind_of_quote (take m rest), no_longer_plain rest m plain (omega arith) (omega arith))
        refl

quotes_front : (rest : List ℕ) → is_quotes_rest rest ≡ true → (3 ≤ length rest)
    × (is_character (39 ∷ take 3 rest) ≡ true)
quotes_front [] quotes = absurd (cc)
quotes_front (x ∷ []) quotes = absurd (both_ways _ (and-false (eqb x 39 && false)) quotes)
quotes_front (x ∷ y ∷ []) quotes = absurd (both_ways _ (and-false (eqb x 39 && eqb y 39)) quotes)
quotes_front (x ∷ y ∷ z ∷ rest) quotes = (omega arith, quotes)

no_longer_quotes : (rest : List ℕ) (k : ℕ) → 3 < k → k ≤ length rest
    → is_character (39 ∷ take k rest) ≡ false
no_longer_quotes [] k more within = absurd (omega arith)
no_longer_quotes (x ∷ []) k more within = absurd (omega arith)
no_longer_quotes (x ∷ y ∷ []) k more within = absurd (omega arith)
no_longer_quotes (x ∷ y ∷ z ∷ []) k more within = absurd (omega arith)
no_longer_quotes (x ∷ y ∷ z ∷ w ∷ ws) zero more within = absurd (omega arith)
no_longer_quotes (x ∷ y ∷ z ∷ w ∷ ws) (suc zero) more within = absurd (omega arith)
no_longer_quotes (x ∷ y ∷ z ∷ w ∷ ws) (suc (suc zero)) more within = absurd (omega arith)
no_longer_quotes (x ∷ y ∷ z ∷ w ∷ ws) (suc (suc (suc zero))) more within = absurd (omega arith)
no_longer_quotes (x ∷ y ∷ z ∷ w ∷ ws) (suc (suc (suc (suc k)))) more within = refl

-- Four quotes are the longest token there.
pub quotes_longest : (rest : List ℕ) → is_quotes_rest rest ≡ true → Longest (39 ∷ rest) 4 Character
quotes_longest rest quotes =
    let front = quotes_front rest quotes in
    record {
      inside = omega arith;
      front = rw (kind_of_quote (take 3 rest), front.1) refl;
      none_longer = λ m more within. longer m more within;
    }
  where
    longer : (m : ℕ) → 4 < m → m ≤ length (39 ∷ rest) → kind_of (take m (39 ∷ rest)) ≡ None
    longer zero more within = absurd (omega arith)
    longer (suc m) more within =
        rw (kind_of_quote (take m rest), no_longer_quotes rest m (omega arith) (omega arith)) refl

-- A longest front of what stands from a place on is a token of the text.
pub token_there : (text : List ℕ) (place n size : ℕ) (kind : TokenKind) (token : Token)
    → place ≤ length text → MayBegin text place → Longest (drop place text) n kind → size ≡ n
    → token ≡ record { kind = kind; start = place; length = size } → IsTokenAt text place token
token_there text place n size kind token inside may long same is =
    let back : n ≡ place + size - place = omega arith in
    let front = subst (λ (k : ℕ). kind_of (take k (drop place text)) ≡ Some kind) back long.front in
    let longest : IsLongest text (record { kind = kind; start = place; length = size }) = record {
      may_begin = may;
      inside = omega (arith, length-drop place text, long.inside);
      kind = front;
      longest = λ end more within. long.none_longer (end - place) (omega arith)
          (omega (arith, length-drop place text));
    } in
    subst (λ (t : Token). IsTokenAt text place t) (sym is) (record {
      starts = refl;
      longest = longest;
    })

-- Where nothing begins, one byte is bad.
pub illegal_there : (text : List ℕ) (place : ℕ) (token : Token) → place < length text
    → IsBegin text place → MayBegin text place → ((m : ℕ) → m ≤ length (drop place text)
    → kind_of (take m (drop place text)) ≡ None) → token ≡ record {
      kind = Bad;
      start = place;
      length = 1;
    } → IsBadAt text place token
illegal_there text place token inside begin may none is =
    let nothing : NoneBegins text place = record {
      inside = inside;
      no_blank = begin.no_blank;
      may_begin = may;
      no_token = λ end within. none (end - place) (omega (arith, length-drop place text));
    } in
    subst (λ (t : Token). IsBadAt text place t) (sym is) (record {
      starts = refl;
      kind = refl;
      span = illegal nothing;
    })

-- Where a byte other than a digit stands and no comment begins, a token may begin.
pub may_begin_there : (text : List ℕ) (place : ℕ) → place < length text → opening text place ≡ 0
    → is_ascii_digit (get_or text place 0) ≡ false → MayBegin text place
may_begin_there text place inside no_comment no_digit =
    let none : digits_at text place ≡ 0 = rw (drop_more text place 0 inside, no_digit) refl in
    record { no_comment = no_comment; few_digits = omega arith }
