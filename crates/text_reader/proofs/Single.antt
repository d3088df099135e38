-- Single names, numbers and characters.
use Rattle.std.proofs.Common.{◌≡◌, ℕ, true, List, refl, sym, ◌∙◌, ap}
use Rattle.std.proofs.Common.{subst, Option, Some, None, slice_get}
use Rattle.std.specs.Option.{IsSomeAnd}
use Rattle.std.specs.Str.{str_to_ascii_lowercase}
use Rattle.est_lexer.specs.declared.kind.Token.{Token}
use Rattle.est_lexer.specs.declared.kind.TokenKind.{TokenKind}
use Rattle.est_lexer.specs.declared.kind.TokenKind.TheVariants.{Identifier, Reserved, LeftOut}
use Rattle.est_lexer.specs.declared.kind.TokenKind.TheVariants.{Number, Character, Symbol, Bad}
use Rattle.est_lexer.specs.TokenKinds.{is_same}
use Rattle.est_lexer.specs.Offsets.{text_of, tokens_of}
use Rattle.est_lexer.specs.Spans.{spelling}
use Rattle.text_reader.specs.Grammar.{token, leaf, KeptOf, meets}
use Rattle.text_reader.specs.Findings.{Found}
use Rattle.text_reader.specs.Shown.{kept, s_kept}
use Rattle.text_reader.proofs.GrammarLaws as laws
use Rattle.text_reader.proofs.Members.{and_left}
use Rattle.est_syntax.specs.declared.name.Used.{Used}
use Rattle.text_reader.specs.declared.reader.Reader.{Reader}
use Rattle.text_reader.specs.Tests.{Test, kind, number, character, Kept, name, value, code, kept_as}
use Rattle.text_reader.specs.Tests.{value_of, value_in, code_of, code_in, lowered, holds, language}
use Rattle.text_reader.specs.Moving.{Does, Taken, NotThere, Takes, TakesName}
use Rattle.text_reader.specs.Moving.{TakesNumber, TakesValue, TakesCharacter, TakesCode}
use Rattle.text_reader.specs.Going.{Rule, Finds, Fails, Goes, identifier, used}
use Rattle.text_reader.proofs.Steps.{onto}
use Rattle.text_reader.proofs.Going.{Known, not_there, here_goes}

-- what is kept of an identifier, of a number, and of a character
kept_name : (k : TokenKind) (bytes : List ℕ) → is_same k Identifier ≡ true
    → kept_as k bytes ≡ name (str_to_ascii_lowercase bytes)
kept_name Identifier bytes e = refl
kept_name (Reserved word) bytes e = cc
kept_name (LeftOut t) bytes e = cc
kept_name Number bytes e = cc
kept_name Character bytes e = cc
kept_name (Symbol symbol) bytes e = cc
kept_name Bad bytes e = cc

pub kept_number : (k : TokenKind) (bytes : List ℕ) → is_same k Number ≡ true
    → kept_as k bytes ≡ value (value_of bytes)
kept_number Identifier bytes e = cc
kept_number (Reserved word) bytes e = cc
kept_number (LeftOut t) bytes e = cc
kept_number Number bytes e = refl
kept_number Character bytes e = cc
kept_number (Symbol symbol) bytes e = cc
kept_number Bad bytes e = cc

kept_character : (k : TokenKind) (bytes : List ℕ) → is_same k Character ≡ true
    → kept_as k bytes ≡ code (code_of bytes)
kept_character Identifier bytes e = cc
kept_character (Reserved word) bytes e = cc
kept_character (LeftOut t) bytes e = cc
kept_character Number bytes e = cc
kept_character Character bytes e = refl
kept_character (Symbol symbol) bytes e = cc
kept_character Bad bytes e = cc

module _ {P : Type 0} (production : P → Rule P) (text : List ℕ) where
  name_kept : (o : Option Token) (bytes : List ℕ) → meets (holds text) (kind Identifier) o ≡ true
      → IsSomeAnd o (λ t. bytes ≡ lowered text t) → KeptOf (language production text) o (name bytes)
  name_kept None bytes m h = absurd h
  name_kept (Some t) bytes m h = kept_name t.kind (spelling text t) m ∙ ap name (sym h)

  number_kept : (low high v : ℕ) (o : Option Token) → meets (holds text) (number low high) o ≡ true
      → IsSomeAnd o (λ t. value_in text t ≡ v) → KeptOf (language production text) o (value v)
  number_kept low high v None m h = absurd h
  number_kept low high v (Some t) m h = kept_number t.kind (spelling text t)
      (and_left (is_same t.kind Number) _ m) ∙ ap value h

  value_kept : (v : ℕ) (o : Option Token) → meets (holds text) (kind Number) o ≡ true
      → IsSomeAnd o (λ t. value_in text t ≡ v) → KeptOf (language production text) o (value v)
  value_kept v None m h = absurd h
  value_kept v (Some t) m h = kept_number t.kind (spelling text t) m ∙ ap value h

  code_kept : (c : ℕ) (o : Option Token) → meets (holds text) (kind Character) o ≡ true
      → IsSomeAnd o (λ t. code_in text t ≡ c) → KeptOf (language production text) o (code c)
  code_kept c None m h = absurd h
  code_kept c (Some t) m h = kept_character t.kind (spelling text t) m ∙ ap code h

  code_within : (low high c : ℕ) (o : Option Token)
      → meets (holds text) (character low high) o ≡ true
      → IsSomeAnd o (λ t. code_in text t ≡ c) → KeptOf (language production text) o (code c)
  code_within low high c None m h = absurd h
  code_within low high c (Some t) m h = kept_character t.kind (spelling text t)
      (and_left (is_same t.kind Character) _ m) ∙ ap code h

module _ {P N : Type 0} (K : Known P N) where
  -- a token that is taken and kept
  kept_goes : (A B : Reader) (E : Option Token → Type 0) (k : Test) (v : Kept)
      → (meets (holds (text_of A.tokens.now)) k (slice_get (tokens_of A.tokens.now) A.at) ≡ true
      → E (slice_get (tokens_of A.tokens.now) A.at)
      → KeptOf (language K.syntax.production (text_of A.tokens.now))
      (slice_get (tokens_of A.tokens.now) A.at) v)
      → Does (λ b. Taken A.tokens.now k A.at b × E (slice_get (tokens_of A.tokens.now) A.at))
      (NotThere A.tokens.now k A.at) A.at A.outcome B.at B.outcome
      → Does (Finds K.syntax A.tokens.now (token k) A.levels A.at (kept v))
      (Fails K.syntax A.tokens.now (token k) A.levels A.at) A.at A.outcome B.at B.outcome
  kept_goes A B E k v f x =
      let tk = A.tokens.now in
      onto (λ b. Taken tk k A.at b × E (slice_get (tokens_of tk) A.at)) (Finds K.syntax tk (token k)
      A.levels A.at (kept v)) (NotThere tk k A.at) (Fails K.syntax tk (token k) A.levels A.at)
      A.at B.at A.outcome B.outcome
      (λ w p. (
        leaf v,
        subst (λ i. Found (language K.syntax.production (text_of tk)) K.syntax.marks
            (tokens_of tk) (token k) A.levels A.at i (leaf v)) (sym p.0.1)
            (laws.token_found (K.fits (text_of tk)) p.0.0 (f p.0.0 p.1)),
        s_kept v,
      ))
      (λ w z q. not_there K tk (token k) k A.levels A.at B.at z refl refl A.inside q)
      x

  -- a name
  pub name_goes : {A B : Reader} {u : Used} → TakesName A u B
      → Goes K.syntax identifier A (used u) B
  name_goes {A} {B} {u} x =
      subst (λ p. Goes K.syntax identifier A (used (record u { place = p })) B) (sym x.place)
      (here_goes K record {
        moves = kept_goes A B (λ o. IsSomeAnd o (λ t. u.name.bytes ≡ lowered (text_of A.tokens.now)
            t)) (kind Identifier) (name u.name.bytes)
            (name_kept K.syntax.production (text_of A.tokens.now)
            (slice_get (tokens_of A.tokens.now) A.at) u.name.bytes) x.takes;
        same = x.same;
      })

  -- a number that is kept
  pub number_goes : {A B : Reader} {low high v : ℕ} → TakesNumber low high A v B
      → Goes K.syntax (token (number low high)) A (kept (value v)) B
  number_goes {A} {B} {low} {high} {v} x = record {
    moves = kept_goes A B (λ o. IsSomeAnd o (λ t. value_in (text_of A.tokens.now) t ≡ v))
        (number low high) (value v)
        (number_kept K.syntax.production (text_of A.tokens.now) low high v
        (slice_get (tokens_of A.tokens.now) A.at)) x.takes;
    same = x.same;
  }

  pub value_goes : {A B : Reader} {v : ℕ} → TakesValue A v B
      → Goes K.syntax (token (kind Number)) A (kept (value v)) B
  value_goes {A} {B} {v} x = record {
    moves = kept_goes A B (λ o. IsSomeAnd o (λ t. value_in (text_of A.tokens.now) t ≡ v))
        (kind Number) (value v)
        (value_kept K.syntax.production (text_of A.tokens.now) v (slice_get (tokens_of A.tokens.now)
        A.at)) x.takes;
    same = x.same;
  }

  -- a character that is kept
  pub character_goes : {A B : Reader} {c : ℕ} → TakesCharacter A c B
      → Goes K.syntax (token (kind Character)) A (kept (code c)) B
  character_goes {A} {B} {c} x = record {
    moves = kept_goes A B (λ o. IsSomeAnd o (λ t. code_in (text_of A.tokens.now) t ≡ c))
        (kind Character) (code c)
        (code_kept K.syntax.production (text_of A.tokens.now) c (slice_get (tokens_of A.tokens.now)
        A.at)) x.takes;
    same = x.same;
  }

  -- a character within bounds that is kept
  pub code_goes : {A B : Reader} {low high c : ℕ} → TakesCode low high A c B
      → Goes K.syntax (token (character low high)) A (kept (code c)) B
  code_goes {A} {B} {low} {high} {c} x = record {
    moves = kept_goes A B (λ o. IsSomeAnd o (λ t. code_in (text_of A.tokens.now) t ≡ c))
        (character low high) (code c)
        (code_within K.syntax.production (text_of A.tokens.now) low high c
        (slice_get (tokens_of A.tokens.now) A.at)) x.takes;
    same = x.same;
  }

-- a number that is taken and not kept
pub number_takes : {A B : Reader} {low high v : ℕ} → TakesNumber low high A v B
    → Takes (number low high) A B
number_takes {A} {B} {low} {high} {v} x = record {
  takes = onto (λ b. Taken A.tokens.now (number low high) A.at b
      × IsSomeAnd (slice_get (tokens_of A.tokens.now) A.at) (λ t. value_in (text_of A.tokens.now) t
      ≡ v)) (Taken A.tokens.now (number low high) A.at)
      (NotThere A.tokens.now (number low high) A.at) (NotThere A.tokens.now (number low high) A.at)
      A.at B.at A.outcome B.outcome (λ w p. p.0) (λ w z q. q) x.takes;
  unspent = x.unspent;
  same = x.same;
}
