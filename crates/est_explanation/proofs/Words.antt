-- Texts that are made of words, with blanks after them, and the tokens of such texts.
--
-- It speaks of what the lexer defines, and of no grammar, so that any text can be written so.
use Rattle.std.proofs.Common.{◌≡◌, ℕ, suc, ◌+◌, ◌<◌, ◌≤◌, Bool, true, false, List, []}
use Rattle.std.proofs.Common.{◌∷◌, ◌++◌, length, take, drop, get_or, refl, sym, ap, subst, ◌∙◌}
use Rattle.std.proofs.Common.{append_assoc, arith, ltb-true, length-append, length-drop}
use Rattle.std.specs.List.{list_all, prefix_len}
use Rattle.std.specs.Char.{is_ascii_alphabetic, is_ascii_digit}
use Rattle.std.proofs.lemmas.Bool.{and_parts}
use Rattle.std.proofs.lemmas.Bool.Decides.{nat_tests}
use Rattle.std.proofs.lemmas.List.{drop-drop, drop_at, take_at, get_or-drop}
use Rattle.est_lexer.specs.declared.kind.Token.{Token}
use Rattle.est_lexer.specs.declared.kind.TokenKind.{TokenKind}
use Rattle.est_lexer.specs.declared.kind.TokenKind.TheVariants.{Number}
use Rattle.est_lexer.specs.Between.{is_blank, opening, IsBetween, nothing, blank}
use Rattle.est_lexer.specs.Spans.{spelling}
use Rattle.est_lexer.specs.Spellings.{is_identifier, is_identifier_part, is_number, name_kind}
use Rattle.est_lexer.specs.TokenList.{MayBegin, IsLongest, AreTokensFrom, none_left, next}
use Rattle.est_lexer.proofs.KindOf.{letter_no_digit}
use Rattle.est_lexer.proofs.Longest.{Longest, name_longest, number_longest, token_there}
use Rattle.est_lexer.proofs.Longest.{may_begin_there}

-- A word as it is written: its kind, its bytes, and the blanks after it, where there are any.
pub record Written : Type 0 where
  pub kind : TokenKind
  pub bytes : List ℕ
  pub gap : List ℕ

-- the text of words
abbrev pub text_of : List Written → List ℕ
text_of [] = []
text_of (w ∷ ws) = w.bytes ++ (w.gap ++ text_of ws)

-- the token of a word that begins at a place
abbrev pub token_at : ℕ → Written → Token
token_at place w = record { kind = w.kind; start = place; length = length w.bytes }

-- the tokens of words of which the first begins at a place
abbrev pub tokens_at : ℕ → List Written → List Token
tokens_at place [] = []
tokens_at place (w ∷ ws) =
    token_at place w ∷ tokens_at (place + length w.bytes + length w.gap) ws

-- The word is a token which does not go on into what stands after it, and no comment begins with
-- it. What stands between it and the next word are blanks.
pub record IsWhole (w : Written) (rest : List ℕ) : Type 0 where
  pub longest : Longest (w.bytes ++ rest) (length w.bytes) w.kind
  pub may_begin : MayBegin (w.bytes ++ rest) 0
  pub blanks : list_all is_blank w.gap ≡ true

-- each of the words is whole in the text of all
abbrev pub AreWhole : List Written → Type 0
AreWhole [] = Unit {0}
AreWhole (w ∷ ws) = IsWhole w (w.gap ++ text_of ws) × AreWhole ws

-- PLACES OF A TEXT

pub onward : (text : List ℕ) (place : ℕ) (xs ys : List ℕ) → drop place text ≡ xs ++ ys
    → drop (place + length xs) text ≡ ys
onward text place xs ys e =
    sym (drop-drop (length xs) place text) ∙ ap (drop (length xs)) e ∙ drop_at xs ys (length xs)
    refl

inside : (text : List ℕ) (place : ℕ) (xs ys : List ℕ) → place ≤ length text
    → drop place text ≡ xs ++ ys → place + length xs ≤ length text
inside text place xs ys l e =
    omega (arith, length-drop place text, ap length e, length-append xs ys)

pub byte_at : (text : List ℕ) (place i : ℕ) (xs : List ℕ) → drop place text ≡ xs
    → get_or text (place + i) 0 ≡ get_or xs i 0
byte_at text place i xs e = sym (get_or-drop place text i 0) ∙ ap (λ r. get_or r i 0) e

pub first_at : (text : List ℕ) (place : ℕ) (xs : List ℕ) → drop place text ≡ xs
    → get_or text place 0 ≡ get_or xs 0 0
first_at text place xs e =
    ap (λ k. get_or text k 0) (omega arith) ∙ byte_at text place 0 xs e

opening_at : (text : List ℕ) (place : ℕ) (xs : List ℕ) → drop place text ≡ xs
    → opening text place ≡ opening xs 0
unfolding opening
opening_at text place xs e = rw (first_at text place xs e, byte_at text place 1 xs e) refl

may_begin_at : (text : List ℕ) (place : ℕ) (xs : List ℕ) → drop place text ≡ xs → MayBegin xs 0
    → MayBegin text place
may_begin_at text place xs e h = record {
  no_comment = opening_at text place xs e ∙ h.no_comment;
  few_digits = subst (λ r. prefix_len is_ascii_digit r < 19) (sym e) h.few_digits;
}

-- THE TOKENS OF WORDS

longest_at : (text : List ℕ) (place : ℕ) (w : Written) (rest : List ℕ) → place ≤ length text
    → drop place text ≡ w.bytes ++ rest → IsWhole w rest → IsLongest text (token_at place w)
longest_at text place w rest l e h =
    (token_there text place (length w.bytes) (length w.bytes) w.kind (token_at place w) l
    (may_begin_at text place (w.bytes ++ rest) e h.may_begin)
    (subst (λ r. Longest r (length w.bytes) w.kind) (sym e) h.longest) refl refl).longest

blanks_at : (text : List ℕ) (place : ℕ) (gap rest : List ℕ) → drop place text ≡ gap ++ rest
    → list_all is_blank gap ≡ true → IsBetween text place (place + length gap)
blanks_at text place [] rest e h =
    subst (λ n. IsBetween text place n) (omega arith) (nothing place)
blanks_at text place (b ∷ gap) rest e h =
    let p = and_parts _ _ h in
    let here : is_blank (get_or text place 0) ≡ true =
    ap is_blank (first_at text place (b ∷ (gap ++ rest)) e) ∙ p.0 in
    let more = blanks_at text (place + 1) gap rest (onward text place (b ∷ []) (gap ++ rest) e) p.1
    in
    blank place (place + length (b ∷ gap)) here
    (subst (λ n. IsBetween text (place + 1) n) (omega arith) more)

-- Where a text goes on with words, its tokens from there on are those of the words.
pub are_tokens : (text : List ℕ) (from place : ℕ) (ws : List Written) → IsBetween text from place
    → place ≤ length text → drop place text ≡ text_of ws → AreWhole ws
    → AreTokensFrom text from (tokens_at place ws)
are_tokens text from place [] between l e h =
    let end : place ≡ length text = omega (arith, length-drop place text, ap length e) in
    none_left from (subst (λ n. IsBetween text from n) end between)
are_tokens text from place (w ∷ ws) between l e h =
    let rest = w.gap ++ text_of ws in
    let n = place + length w.bytes in
    let l' = inside text place w.bytes rest l e in
    let e' = onward text place w.bytes rest e in
    next from (token_at place w) (tokens_at (n + length w.gap) ws) between
    (longest_at text place w rest l e h.0)
    (are_tokens text n (n + length w.gap) ws (blanks_at text n w.gap (text_of ws) e' h.0.blanks)
    (inside text n w.gap (text_of ws) l' e') (onward text n w.gap (text_of ws) e') h.1)

-- A token of a text is this word.
pub record IsWritten (text : List ℕ) (token : Token) (w : Written) : Type 0 where
  pub kind : token.kind ≡ w.kind
  pub spelled : spelling text token ≡ w.bytes

-- These tokens are these words, one by one.
abbrev pub AreWritten : List ℕ → List Token → List Written → Type 0
AreWritten text [] [] = Unit {0}
AreWritten text (t ∷ ts) (w ∷ ws) = IsWritten text t w × AreWritten text ts ws
AreWritten text _ _ = ⊥

spelled_at : (text : List ℕ) (place : ℕ) (w : Written) (rest : List ℕ)
    → drop place text ≡ w.bytes ++ rest → spelling text (token_at place w) ≡ w.bytes
spelled_at text place w rest e =
    ap (λ k. take k (drop place text)) (omega arith) ∙ ap (take (length w.bytes)) e
    ∙ take_at w.bytes rest (length w.bytes) refl

-- The tokens of words are the words.
pub are_written : (text : List ℕ) (place : ℕ) (ws : List Written) → drop place text ≡ text_of ws
    → AreWritten text (tokens_at place ws) ws
are_written text place [] e = tt
are_written text place (w ∷ ws) e =
    let rest = w.gap ++ text_of ws in
    let n = place + length w.bytes in (
      record { kind = refl; spelled = spelled_at text place w rest e },
      are_written text (n + length w.gap) ws (onward text n w.gap (text_of ws)
          (onward text place w.bytes rest e)),
    )

-- WORDS BEFORE A BLANK

run_ends : (p : ℕ → Bool) (xs : List ℕ) (b : ℕ) (rest : List ℕ) → list_all p xs ≡ true
    → p b ≡ false → prefix_len p (xs ++ b ∷ rest) ≡ length xs
run_ends p [] b rest h f = rw f refl
run_ends p (x ∷ xs) b rest h f =
    let q = and_parts (p x) (list_all p xs) h in
    rw (q.0, run_ends p xs b rest q.1 f) (omega arith)

letter_no_comment : (text : List ℕ) → is_ascii_alphabetic (get_or text 0 0) ≡ true
    → opening text 0 ≡ 0
unfolding opening
letter_no_comment text letter = grind (arith, nat_tests)

digit_no_comment : (text : List ℕ) → is_ascii_digit (get_or text 0 0) ≡ true
    → opening text 0 ≡ 0
unfolding opening
digit_no_comment text digit = grind (arith, nat_tests)

-- what is said of a word in `IsWhole`, of its bytes and the byte after it
record Ends (bytes : List ℕ) (kind : TokenKind) (b : ℕ) : Type 0 where
  longest : (rest : List ℕ) → Longest (bytes ++ b ∷ rest) (length bytes) kind
  may_begin : (rest : List ℕ) → MayBegin (bytes ++ b ∷ rest) 0

name_long : (first : ℕ) (more : List ℕ) (b : ℕ) (rest : List ℕ) → is_ascii_alphabetic first ≡ true
    → list_all is_identifier_part more ≡ true → is_identifier_part b ≡ false
    → Longest (first ∷ (more ++ b ∷ rest)) (suc (length more)) (name_kind (first ∷ more))
name_long first more b rest letter parts no_part =
    let whole = first ∷ (more ++ b ∷ rest) in
    let run = subst (λ n. Longest whole (suc n) (name_kind (take (suc n) whole)))
    (run_ends is_identifier_part more b rest parts no_part)
    (name_longest first (more ++ b ∷ rest) letter) in
    subst (λ r. Longest whole (suc (length more)) (name_kind (first ∷ r)))
    (take_at more (b ∷ rest) (length more) refl) run

-- a name stands whole before a byte that no name has
name_ends : (bytes : List ℕ) (b : ℕ) → is_identifier bytes ≡ true → is_identifier_part b ≡ false
    → Ends bytes (name_kind bytes) b
name_ends [] b name no_part = absurd cc
name_ends (first ∷ more) b name no_part =
    let p = and_parts _ _ name in
    record {
      longest = λ rest. name_long first more b rest p.0 p.1 no_part;
      may_begin = λ rest. may_begin_there (first ∷ (more ++ b ∷ rest)) 0 (omega arith)
          (letter_no_comment (first ∷ (more ++ b ∷ rest)) p.0) (letter_no_digit first p.0);
    }

number_long : (first : ℕ) (more : List ℕ) (b : ℕ) (rest : List ℕ) → is_ascii_digit first ≡ true
    → list_all is_ascii_digit more ≡ true → length more < 18 → is_ascii_digit b ≡ false
    → Longest (first ∷ (more ++ b ∷ rest)) (suc (length more)) Number
number_long first more b rest digit digits few no_digit =
    let run = run_ends is_ascii_digit more b rest digits no_digit in
    subst (λ n. Longest (first ∷ (more ++ b ∷ rest)) (suc n) Number) run
    (number_longest first (more ++ b ∷ rest) digit (omega (arith, run)))

-- a number stands whole before a byte that is no digit
number_ends : (bytes : List ℕ) (b : ℕ) → is_number bytes ≡ true → is_ascii_digit b ≡ false
    → Ends bytes Number b
number_ends [] b number no_digit = absurd cc
number_ends (first ∷ more) b number no_digit =
    let p = and_parts _ _ number in
    let q = and_parts _ _ p.0 in
    let few : length more < 18 = ltb-true (length more) 18 p.1 in
    record {
      longest = λ rest. number_long first more b rest q.0 q.1 few no_digit;
      may_begin = λ rest. record {
        no_comment = digit_no_comment (first ∷ (more ++ b ∷ rest)) q.0;
        few_digits =
            omega (arith, run_ends is_ascii_digit (first ∷ more) b rest p.0 no_digit);
      };
    }

blank_no_part : (b : ℕ) → is_blank b ≡ true → is_identifier_part b ≡ false
blank_no_part b h = grind (arith, nat_tests)

blank_no_digit : (b : ℕ) → is_blank b ≡ true → is_ascii_digit b ≡ false
blank_no_digit b h = grind (arith, nat_tests)

-- A word that is whole whatever stands after its blanks.
pub record IsApart (w : Written) : Type 0 where
  pub whole : (rest : List ℕ) → IsWhole w (w.gap ++ rest)

abbrev pub AreApart : List Written → Type 0
AreApart [] = Unit {0}
AreApart (w ∷ ws) = IsApart w × AreApart ws

-- a word of these bytes before a blank
abbrev pub before_blank : TokenKind → List ℕ → ℕ → Written
before_blank kind bytes b = record { kind = kind; bytes = bytes; gap = b ∷ [] }

ends_apart : (kind : TokenKind) (bytes : List ℕ) (b : ℕ) → is_blank b ≡ true → Ends bytes kind b
    → IsApart (before_blank kind bytes b)
ends_apart kind bytes b h e = record {
  whole = λ rest. record {
    longest = e.longest rest;
    may_begin = e.may_begin rest;
    blanks = rw h refl;
  };
}

-- A name or a word stands apart before a blank.
pub name_apart : (bytes : List ℕ) (b : ℕ) → is_identifier bytes ≡ true → is_blank b ≡ true
    → IsApart (before_blank (name_kind bytes) bytes b)
name_apart bytes b name h =
    ends_apart (name_kind bytes) bytes b h (name_ends bytes b name (blank_no_part b h))

-- A number stands apart before a blank.
pub number_apart : (bytes : List ℕ) (b : ℕ) → is_number bytes ≡ true → is_blank b ≡ true
    → IsApart (before_blank Number bytes b)
number_apart bytes b number h =
    ends_apart Number bytes b h (number_ends bytes b number (blank_no_digit b h))

-- Words that stand apart are whole.
pub apart_whole : (ws : List Written) → AreApart ws → AreWhole ws
apart_whole [] h = tt
apart_whole (w ∷ ws) h = (h.0.whole (text_of ws), apart_whole ws h.1)

pub apart_append : (ws vs : List Written) → AreApart ws → AreApart vs → AreApart (ws ++ vs)
apart_append [] vs h k = k
apart_append (w ∷ ws) vs h k = (h.0, apart_append ws vs h.1 k)

pub text_append : (ws vs : List Written) → text_of (ws ++ vs) ≡ text_of ws ++ text_of vs
text_append [] vs = refl
text_append (w ∷ ws) vs =
    ap (λ r. w.bytes ++ (w.gap ++ r)) (text_append ws vs) ∙ simp append_assoc
