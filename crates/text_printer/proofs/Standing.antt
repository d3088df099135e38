-- Tokens that stand whole before what stands after them.
use Rattle.std.proofs.Common.{◌≡◌, ℕ, suc, ◌<◌, Bool, true, false, List, [], ◌∷◌, ◌++◌, length}
use Rattle.std.proofs.Common.{take, get_or, refl, subst, ◌∙◌, arith, eqb, ltb-true, Some}
use Rattle.std.specs.List.{list_all, prefix_len}
use Rattle.std.specs.Char.{is_ascii_alphabetic, is_ascii_digit}
use Rattle.std.proofs.lemmas.Bool.{and_parts}
use Rattle.std.proofs.lemmas.Bool.Decides.{nat_tests}
use Rattle.std.proofs.lemmas.List.{take_at}
use Rattle.est_lexer.specs.declared.kind.TokenKind.{TokenKind}
use Rattle.est_lexer.specs.declared.kind.TokenKind.TheVariants.{Number, Character}
use Rattle.est_lexer.specs.Between.{opening}
use Rattle.est_lexer.specs.Spellings.{is_identifier, is_identifier_part, is_number, name_kind}
use Rattle.est_lexer.specs.Spellings.{is_plain_character}
use Rattle.est_lexer.specs.TokenList.{MayBegin}
use Rattle.est_lexer.specs.inside.Symbols.{symbol_at}
use Rattle.est_lexer.proofs.KindOf.{letter_no_digit}
use Rattle.est_lexer.proofs.Longest.{Longest, name_longest, number_longest, may_begin_there}
use Rattle.est_lexer.proofs.Longest.{plain_longest, quotes_longest}
use Rattle.est_lexer.proofs.SymbolFront.{symbol_longest}
use Rattle.est_lexer.proofs.SymbolBytes.{bytes_decide}

-- NAMES AND NUMBERS

run_ends : (p : ℕ → Bool) (xs rest : List ℕ) → list_all p xs ≡ true → p 0 ≡ false
    → p (get_or rest 0 0) ≡ false → prefix_len p (xs ++ rest) ≡ length xs
run_ends p [] [] h z f = refl
run_ends p [] (b ∷ rest) h z f = rw f refl
run_ends p (x ∷ xs) rest h z f =
    let q = and_parts (p x) (list_all p xs) h in
    rw (q.0, run_ends p xs rest q.1 z f) (omega arith)

letter_opens_none : (text : List ℕ) → is_ascii_alphabetic (get_or text 0 0) ≡ true
    → opening text 0 ≡ 0
unfolding opening
letter_opens_none text letter = grind (arith, nat_tests)

digit_opens_none : (text : List ℕ) → is_ascii_digit (get_or text 0 0) ≡ true → opening text 0 ≡ 0
unfolding opening
digit_opens_none text digit = grind (arith, nat_tests)

-- The bytes are a token of this kind, whatever the blanks after it.
pub record Stands (kind : TokenKind) (bytes rest : List ℕ) : Type 0 where
  pub longest : Longest (bytes ++ rest) (length bytes) kind
  pub may_begin : MayBegin (bytes ++ rest) 0

-- a name before what is no part of a name
pub name_stands : (bytes rest : List ℕ) → is_identifier bytes ≡ true
    → is_identifier_part (get_or rest 0 0) ≡ false → Stands (name_kind bytes) bytes rest
name_stands [] rest name f = absurd cc
name_stands (first ∷ more) rest name f =
    let p = and_parts _ _ name in
    let whole = first ∷ (more ++ rest) in
    let run = subst (λ n. Longest whole (suc n) (name_kind (take (suc n) whole)))
    (run_ends is_identifier_part more rest p.1 refl f) (name_longest first (more ++ rest) p.0) in
    record {
      longest = subst (λ r. Longest whole (suc (length more)) (name_kind (first ∷ r)))
          (take_at more rest (length more) refl) run;
      may_begin = may_begin_there whole 0 (omega arith) (letter_opens_none whole p.0)
          (letter_no_digit first p.0);
    }

no_part_no_digit : (b : ℕ) → is_identifier_part b ≡ false → is_ascii_digit b ≡ false
no_part_no_digit b h = grind (arith, nat_tests)

-- a number before what is no part of a name
pub number_stands : (bytes rest : List ℕ) → is_number bytes ≡ true
    → is_identifier_part (get_or rest 0 0) ≡ false → Stands Number bytes rest
number_stands [] rest number f = absurd cc
number_stands (first ∷ more) rest number f =
    let p = and_parts _ _ number in
    let q = and_parts _ _ p.0 in
    let few : length more < 18 = ltb-true (length more) 18 p.1 in
    let g = no_part_no_digit (get_or rest 0 0) f in
    let run = run_ends is_ascii_digit more rest q.1 refl g in
    record {
      longest = subst (λ n. Longest (first ∷ (more ++ rest)) (suc n) Number) run
          (number_longest first (more ++ rest) q.0 (omega (arith, run)));
      may_begin = record {
        no_comment = digit_opens_none (first ∷ (more ++ rest)) q.0;
        few_digits = omega (arith, run_ends is_ascii_digit (first ∷ more) rest p.0 refl g);
      };
    }

-- CHARACTERS

quote_opens_none : (rest : List ℕ) → MayBegin (39 ∷ rest) 0
unfolding opening
quote_opens_none rest = may_begin_there (39 ∷ rest) 0 (omega arith) refl refl

pub plain_stands : (code : ℕ) (rest : List ℕ) → is_plain_character code ≡ true
    → Stands Character (39 ∷ code ∷ 39 ∷ []) rest
plain_stands code rest h = record {
  longest = plain_longest (code ∷ 39 ∷ rest) (rw h refl);
  may_begin = quote_opens_none (code ∷ 39 ∷ rest);
}

pub quotes_stand : (rest : List ℕ) → Stands Character (39 ∷ 39 ∷ 39 ∷ 39 ∷ []) rest
quotes_stand rest = record {
  longest = quotes_longest (39 ∷ 39 ∷ 39 ∷ rest) refl;
  may_begin = quote_opens_none (39 ∷ 39 ∷ 39 ∷ rest);
}

-- SYMBOLS

-- a symbol of one byte
pub symbol_stands : (b : ℕ) (kind : TokenKind) (rest : List ℕ) → is_ascii_alphabetic b ≡ false
    → is_ascii_digit b ≡ false → eqb b 39 ≡ false → opening (b ∷ rest) 0 ≡ 0
    → Some (1, kind) ≡ symbol_at b (get_or rest 0 0) (get_or rest 1 0)
    → Stands kind (b ∷ []) rest
symbol_stands b kind rest no_letter no_digit no_quote none e = record {
  longest = symbol_longest b rest no_letter no_digit no_quote _ refl (1, kind)
      (e ∙ bytes_decide (b ∷ rest) b (get_or rest 0 0) (get_or rest 1 0) refl refl refl);
  may_begin = may_begin_there (b ∷ rest) 0 (omega arith) none no_digit;
}

-- a symbol of two bytes
pub pair_stands : (b e : ℕ) (kind : TokenKind) (rest : List ℕ) → is_ascii_alphabetic b ≡ false
    → is_ascii_digit b ≡ false → eqb b 39 ≡ false → opening (b ∷ e ∷ rest) 0 ≡ 0
    → Some (2, kind) ≡ symbol_at b e (get_or rest 0 0)
    → Stands kind (b ∷ e ∷ []) rest
pair_stands b e kind rest no_letter no_digit no_quote none s = record {
  longest = symbol_longest b (e ∷ rest) no_letter no_digit no_quote _ refl (2, kind)
      (s ∙ bytes_decide (b ∷ e ∷ rest) b e (get_or rest 0 0) refl refl refl);
  may_begin = may_begin_there (b ∷ e ∷ rest) 0 (omega arith) none no_digit;
}
