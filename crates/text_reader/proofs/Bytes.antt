-- The bytes of a token that was taken.
use Rattle.std.proofs.Common.{◌≡◌, ℕ, ◌<◌, true, List, length, refl, sym, ◌∙◌}
use Rattle.std.proofs.Common.{ap, subst, Option, Some, None, IfSome, slice_get}
use Rattle.est_lexer.specs.declared.kind.Token.{Token}
use Rattle.est_lexer.specs.declared.kind.TokenKind.{TokenKind}
use Rattle.est_lexer.specs.declared.kind.TokenKind.TheVariants.{Identifier, Reserved, LeftOut}
use Rattle.est_lexer.specs.declared.kind.TokenKind.TheVariants.{Number, Character, Symbol, Bad}
use Rattle.est_lexer.specs.declared.tokens.Tokens.{Tokens}
use Rattle.est_lexer.specs.TokenKinds.{is_same}
use Rattle.est_lexer.specs.Offsets.{text_of, tokens_of}
use Rattle.est_lexer.specs.Spans.{spelling}
use Rattle.est_lexer.specs.Spellings.{is_number, is_character}
use Rattle.est_lexer.proofs.Spelled.{number_spelled, character_spelled, character_long}
use Rattle.text_reader.specs.Grammar.{meets}
use Rattle.text_reader.specs.declared.reader.Reader.{Reader}
use Rattle.text_reader.specs.declared.outcome.Outcome.{Outcome}
use Rattle.text_reader.specs.declared.outcome.Outcome.TheVariants.{Well, Wrong, TooDeep, NoMemory}
use Rattle.text_reader.specs.Tests.{kind, holds, stands}
use Rattle.text_reader.specs.Moving.{IsTest, Takes}
use Rattle.text_reader.proofs.Steps.{taken_at}

same_number : (k : TokenKind) → is_same k Number ≡ true → k ≡ Number
same_number Identifier e = absurd cc
same_number (Reserved word) e = absurd cc
same_number (LeftOut t) e = absurd cc
same_number Number e = refl
same_number Character e = absurd cc
same_number (Symbol symbol) e = absurd cc
same_number Bad e = absurd cc

same_character : (k : TokenKind) → is_same k Character ≡ true → k ≡ Character
same_character Identifier e = absurd cc
same_character (Reserved word) e = absurd cc
same_character (LeftOut t) e = absurd cc
same_character Number e = absurd cc
same_character Character e = refl
same_character (Symbol symbol) e = absurd cc
same_character Bad e = absurd cc

tested_well : (o : Outcome) → IsTest o true → o ≡ Well
tested_well Well e = refl
tested_well Wrong e = absurd cc
tested_well TooDeep e = absurd cc
tested_well NoMemory e = absurd cc

number_at : (tokens : Tokens) (at : ℕ) (bytes : List ℕ) (o : Option Token)
    → slice_get (tokens_of tokens) at ≡ o → meets (holds (text_of tokens)) (kind Number) o ≡ true
    → IfSome o (λ token. bytes ≡ spelling (text_of tokens) token) → is_number bytes ≡ true
number_at tokens at bytes None e m s = absurd cc
number_at tokens at bytes (Some token) e m s = ap is_number s ∙ number_spelled tokens at token e
    (same_number token.kind m)

character_at : (tokens : Tokens) (at : ℕ) (bytes : List ℕ) (o : Option Token)
    → slice_get (tokens_of tokens) at ≡ o → meets (holds (text_of tokens)) (kind Character) o ≡ true
    → IfSome o (λ token. bytes ≡ spelling (text_of tokens) token) → is_character bytes ≡ true
character_at tokens at bytes None e m s = absurd cc
character_at tokens at bytes (Some token) e m s = ap is_character s
    ∙ character_spelled tokens at token e (same_character token.kind m)

-- those of a number
pub number_bytes : {A B : Reader} (bytes : List ℕ) → Takes (kind Number) A B → IsTest B.outcome true
    → IfSome (slice_get (tokens_of B.tokens.now) A.at) (λ token. bytes
    ≡ spelling (text_of B.tokens.now) token) → is_number bytes ≡ true
number_bytes {A} {B} bytes x w s =
    number_at B.tokens.now A.at bytes (slice_get (tokens_of B.tokens.now) A.at) refl
    (subst (λ ts. stands ts A.at (kind Number) ≡ true) (sym x.same.tokens)
    (taken_at A.tokens.now (kind Number) A.at B.at A.outcome B.outcome x.takes
    (tested_well B.outcome w))) s

-- and of a character constant, of which one stands after its first quote
pub character_bytes : {A B : Reader} (bytes : List ℕ) → Takes (kind Character) A B
    → IsTest B.outcome true → IfSome (slice_get (tokens_of B.tokens.now) A.at) (λ token. bytes
    ≡ spelling (text_of B.tokens.now) token) → 1 < length bytes
character_bytes {A} {B} bytes x w s =
    character_long bytes (character_at B.tokens.now A.at bytes (slice_get (tokens_of B.tokens.now)
    A.at) refl
    (subst (λ ts. stands ts A.at (kind Character) ≡ true) (sym x.same.tokens)
    (taken_at A.tokens.now (kind Character) A.at B.at A.outcome B.outcome x.takes
    (tested_well B.outcome w))) s)

-- the same of a character constant that stands at a place
pub character_there : (tokens : Tokens) (at : ℕ) (bytes : List ℕ)
    → stands tokens at (kind Character) ≡ true
    → IfSome (slice_get (tokens_of tokens) at) (λ token. bytes ≡ spelling (text_of tokens) token)
    → 1 < length bytes
character_there tokens at bytes m s = character_long bytes
    (character_at tokens at bytes (slice_get (tokens_of tokens) at) refl m s)
