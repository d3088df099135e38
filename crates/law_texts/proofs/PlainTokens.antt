-- What a tree of a specification keeps of an identifier is a plain name, and of a character
-- constant the code of a character.
use Rattle.std.specs.Str.{str_to_ascii_lowercase}
use Rattle.std.proofs.Common.{◌≡◌, refl, sym, ap, ◌∙◌, subst, true≢false, ℕ, Bool, true, false}
use Rattle.std.proofs.Common.{List, [], ◌∷◌, ◌≤◌, Option, Some, None, slice_get, eqb, arith}
use Rattle.std.proofs.lemmas.Bool.{and_parts}
use Rattle.std.proofs.lemmas.Bool.Decides.{nat_tests}
use Rattle.est_lexer.specs.declared.kind.Token.{Token}
use Rattle.est_lexer.specs.declared.kind.TokenKind.{TokenKind}
use Rattle.est_lexer.specs.declared.kind.TokenKind.TheVariants.{Identifier, Number, Character}
use Rattle.est_lexer.specs.declared.kind.TokenKind.TheVariants.{Reserved, Symbol, LeftOut, Bad}
use Rattle.est_lexer.specs.Spans.{spelling}
use Rattle.est_lexer.specs.Spellings.{is_plain_character, is_character, kind_of}
use Rattle.est_lexer.specs.TokenList.{AreSpelled}
use Rattle.text_reader.specs.Grammar.{meets, KeptOf, At, Keeps}
use Rattle.text_reader.specs.Tests.{Test, kind, spelled, named, number, character, Kept, name}
use Rattle.text_reader.specs.Tests.{value, code, code_of, holds, kept_as, language}
use Rattle.text_productions.specs.Productions.{production}
use Rattle.text_printer.proofs.KeptTokens.{identifier_spelled, character_spelled}
use Rattle.text_printer.proofs.KeptTokens.{lower_identifier, lower_twice, lower_word}
use Rattle.text_printer.proofs.KeptTokens.{is_identifier_kind, is_number_kind, is_character_kind}
use Rattle.law_texts.specs.PlainNames.{IsPlainName}

-- IDENTIFIERS AND CHARACTER CONSTANTS

plain_code : (b : ℕ) → is_plain_character b ≡ true → b ≤ 127
plain_code b h = grind (arith, nat_tests)

quote_code : (b : ℕ) → eqb b 39 ≡ true → b ≤ 127
quote_code b h = grind (arith, nat_tests)

-- the code of the character of a character constant
code_fits : (bytes : List ℕ) → is_character bytes ≡ true → code_of bytes ≤ 127
code_fits [] h = absurd cc
code_fits (a ∷ []) h = absurd cc
code_fits (a ∷ b ∷ []) h = absurd cc
code_fits (a ∷ b ∷ c ∷ []) h = plain_code b (and_parts _ _ (and_parts _ _ h).0).1
code_fits (a ∷ b ∷ c ∷ d ∷ []) h =
    quote_code b (and_parts _ _ (and_parts _ _ (and_parts _ _ h).0).0).1
code_fits (a ∷ b ∷ c ∷ d ∷ e ∷ rest) h = absurd cc

-- an identifier is plain in lower case
pub plain_lower : (bytes : List ℕ) → kind_of bytes ≡ Some Identifier
    → IsPlainName (str_to_ascii_lowercase bytes)
plain_lower bytes h =
    let r = identifier_spelled bytes h in
    record {
      identifier = lower_identifier bytes r.letters;
      no_word = lower_word bytes ∙ r.no_word;
      lower = lower_twice bytes;
    }

-- WHAT TREES KEEP

-- a name that is kept of a token is plain, and a code is one of a character
abbrev pub IsPlainKept : Kept → Type 0
IsPlainKept (name bytes) = IsPlainName bytes
IsPlainKept (value n) = Unit {0}
IsPlainKept (code n) = n ≤ 127

-- the tests of identifiers, numbers and characters
abbrev pub of_kept : Test → Bool
of_kept (kind Identifier) = true
of_kept (kind Number) = true
of_kept (kind Character) = true
of_kept _ = false

-- a token of one of these kinds
abbrev is_of_kept : TokenKind → Bool
is_of_kept Identifier = true
is_of_kept Number = true
is_of_kept Character = true
is_of_kept _ = false

kept_kind : (text : List ℕ) (k : Test) (token : Token) → of_kept k ≡ true
    → holds text k token ≡ true → is_of_kept token.kind ≡ true
kept_kind text (kind Identifier) token e h = ap is_of_kept (is_identifier_kind token.kind h)
kept_kind text (kind Number) token e h = ap is_of_kept (is_number_kind token.kind h)
kept_kind text (kind Character) token e h = ap is_of_kept (is_character_kind token.kind h)
kept_kind text (kind (Reserved word)) token e h = absurd (true≢false (sym e))
kept_kind text (kind (Symbol symbol)) token e h = absurd (true≢false (sym e))
kept_kind text (kind (LeftOut left)) token e h = absurd (true≢false (sym e))
kept_kind text (kind Bad) token e h = absurd (true≢false (sym e))
kept_kind text (spelled word) token e h = absurd (true≢false (sym e))
kept_kind text (named word) token e h = absurd (true≢false (sym e))
kept_kind text (number low high) token e h = absurd (true≢false (sym e))
kept_kind text (character low high) token e h = absurd (true≢false (sym e))

plain_kept : (bytes : List ℕ) (k : TokenKind) → is_of_kept k ≡ true
    → ((k ≡ Bad → ⊥) → kind_of bytes ≡ Some k) → IsPlainKept (kept_as k bytes)
plain_kept bytes Identifier e h = plain_lower bytes (h (λ q. cc))
plain_kept bytes Number e h = tt
plain_kept bytes Character e h = code_fits bytes (character_spelled bytes (h (λ q. cc)))
plain_kept bytes (Reserved word) e h = absurd (true≢false (sym e))
plain_kept bytes (Symbol symbol) e h = absurd (true≢false (sym e))
plain_kept bytes (LeftOut token) e h = absurd (true≢false (sym e))
plain_kept bytes Bad e h = absurd (true≢false (sym e))

module _ (text : List ℕ) (tokens : List Token) (are : AreSpelled text tokens) where
  kept_by : (a : ℕ) (k : Test) (v : Kept) (x : Option Token) → slice_get tokens a ≡ x
      → of_kept k ≡ true → meets (holds text) k x ≡ true
      → KeptOf (language production text) x v → IsPlainKept v
  kept_by a k v None is e h z = absurd z
  kept_by a k v (Some token) is e h z =
      subst IsPlainKept z (plain_kept (spelling text token) token.kind (kept_kind text k token e h)
      (are a token is))

  pub keeps_plain : (a : ℕ) (k : Test) (v : Kept) → of_kept k ≡ true
      → At (language production text) tokens a k → Keeps (language production text) tokens a v
      → IsPlainKept v
  keeps_plain a k v e h z = kept_by a k v (slice_get tokens a) refl e h z
