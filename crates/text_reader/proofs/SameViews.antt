-- The same tokens are seen alike by all languages.
use Rattle.std.proofs.Common.{◌≡◌, ℕ, zero, suc, ◌<◌, Bool, ◌&&◌, List, [], ◌∷◌, length, take}
use Rattle.std.proofs.Common.{Option, Some, None, slice_get, ap, sym, refl, ◌∙◌, bytes_eq, arith}
use Rattle.std.specs.Prelude.{nat_le}
use Rattle.std.specs.Str.{str_to_ascii_lowercase}
use Rattle.est_lexer.specs.declared.kind.Token.{Token}
use Rattle.est_lexer.specs.declared.kind.TokenKind.{TokenKind}
use Rattle.est_lexer.specs.declared.kind.TokenKind.TheVariants.{Identifier, Reserved, LeftOut}
use Rattle.est_lexer.specs.declared.kind.TokenKind.TheVariants.{Number, Character, Symbol, Bad}
use Rattle.est_lexer.specs.TokenKinds.{is_same}
use Rattle.est_lexer.specs.Spans.{spelling}
use Rattle.text_reader.specs.Grammar.{Grammar, meets, KeptOf}
use Rattle.text_reader.specs.SeenAlike.{AreSeenAlike}
use Rattle.text_reader.specs.Tests.{Test, kind, spelled, named, number, character, is_spelled}
use Rattle.text_reader.specs.Tests.{value_of, code_of, holds, Kept, name, value, code, kept_as}
use Rattle.text_reader.specs.Tests.{language}
use Rattle.text_reader.specs.SameTokens.{IsSameToken, AreSameTokens}

abbrev name_in : Kept → List ℕ
name_in (name bytes) = bytes
name_in _ = []

abbrev value_in : Kept → ℕ
value_in (value n) = n
value_in _ = 0

abbrev code_in : Kept → ℕ
code_in (code n) = n
code_in _ = 0

-- what tests ask of a token, by its kind and its spelling
spelled_same : (k : TokenKind) (b c : List ℕ) (w : List ℕ) → kept_as k b ≡ kept_as k c
    → (is_spelled k && bytes_eq w (str_to_ascii_lowercase b))
    ≡ (is_spelled k && bytes_eq w (str_to_ascii_lowercase c))
spelled_same Identifier b c w e = ap (λ x. bytes_eq w (name_in x)) e
spelled_same (Reserved word) b c w e = ap (λ x. bytes_eq w (name_in x)) e
spelled_same (Symbol symbol) b c w e = ap (λ x. bytes_eq w (name_in x)) e
spelled_same (LeftOut token) b c w e = refl
spelled_same Number b c w e = refl
spelled_same Character b c w e = refl
spelled_same Bad b c w e = refl

named_same : (k : TokenKind) (b c : List ℕ) (w : List ℕ) → kept_as k b ≡ kept_as k c
    → (is_same k Identifier && bytes_eq w (str_to_ascii_lowercase b))
    ≡ (is_same k Identifier && bytes_eq w (str_to_ascii_lowercase c))
named_same Identifier b c w e = ap (λ x. bytes_eq w (name_in x)) e
named_same (Reserved word) b c w e = refl
named_same (Symbol symbol) b c w e = refl
named_same (LeftOut token) b c w e = refl
named_same Number b c w e = refl
named_same Character b c w e = refl
named_same Bad b c w e = refl

abbrev within : ℕ → ℕ → ℕ → Bool
within low high n = nat_le low n && nat_le n high

number_same : (k : TokenKind) (b c : List ℕ) (low high : ℕ) → kept_as k b ≡ kept_as k c
    → (is_same k Number && within low high (value_of b))
    ≡ (is_same k Number && within low high (value_of c))
number_same Identifier b c low high e = refl
number_same (Reserved word) b c low high e = refl
number_same (Symbol symbol) b c low high e = refl
number_same (LeftOut token) b c low high e = refl
number_same Number b c low high e = ap (λ x. within low high (value_in x)) e
number_same Character b c low high e = refl
number_same Bad b c low high e = refl

character_same : (k : TokenKind) (b c : List ℕ) (low high : ℕ) → kept_as k b ≡ kept_as k c
    → (is_same k Character && within low high (code_of b))
    ≡ (is_same k Character && within low high (code_of c))
character_same Identifier b c low high e = refl
character_same (Reserved word) b c low high e = refl
character_same (Symbol symbol) b c low high e = refl
character_same (LeftOut token) b c low high e = refl
character_same Number b c low high e = refl
character_same Character b c low high e = ap (λ x. within low high (code_in x)) e
character_same Bad b c low high e = refl

-- a test of a token of this kind and this spelling
abbrev by : TokenKind → List ℕ → Test → Bool
by k bytes (kind x) = is_same k x
by k bytes (spelled word) = is_spelled k && bytes_eq word (str_to_ascii_lowercase bytes)
by k bytes (named word) = is_same k Identifier && bytes_eq word (str_to_ascii_lowercase bytes)
by k bytes (number low high) = is_same k Number && within low high (value_of bytes)
by k bytes (character low high) = is_same k Character && within low high (code_of bytes)

holds_by : (text : List ℕ) (t : Token) (x : Test) → holds text x t ≡ by t.kind (spelling text t) x
holds_by text t (kind x) = refl
holds_by text t (spelled word) = refl
holds_by text t (named word) = refl
holds_by text t (number low high) = refl
holds_by text t (character low high) = refl

by_same : (k : TokenKind) (b c : List ℕ) (x : Test) → kept_as k b ≡ kept_as k c
    → by k b x ≡ by k c x
by_same k b c (kind x) e = refl
by_same k b c (spelled word) e = spelled_same k b c word e
by_same k b c (named word) e = named_same k b c word e
by_same k b c (number low high) e = number_same k b c low high e
by_same k b c (character low high) e = character_same k b c low high e

holds_same : (text other : List ℕ) (t u : Token) (x : Test) → IsSameToken text other t u
    → holds text x t ≡ holds other x u
holds_same text other t u x w =
    holds_by text t x
    ∙ by_same t.kind (spelling text t) (spelling other u) x (w.kept
    ∙ ap (λ k. kept_as k (spelling other u)) (sym w.kind))
    ∙ ap (λ k. by k (spelling other u) x) w.kind
    ∙ sym (holds_by other u x)

-- what stands at a place, if anything does
abbrev AtBoth : List ℕ → List ℕ → Option Token → Option Token → Type 0
AtBoth text other None None = Unit {0}
AtBoth text other (Some t) (Some u) = IsSameToken text other t u
AtBoth text other _ _ = ⊥

at_both : (text other : List ℕ) (ts us : List Token) (n : ℕ)
    → AreSameTokens text other (take n ts) (take n us) → (a : ℕ) → a < n
    → AtBoth text other (slice_get ts a) (slice_get us a)
at_both text other [] [] n w a l = tt
at_both text other [] (u ∷ us) zero w a l = absurd (omega (arith, l))
at_both text other (t ∷ ts) us zero w a l = absurd (omega (arith, l))
at_both text other [] (u ∷ us) (suc n) w a l = elim w [ ]
at_both text other (t ∷ ts) [] (suc n) w a l = elim w [ ]
at_both text other (t ∷ ts) (u ∷ us) (suc n) w zero l = w.0
at_both text other (t ∷ ts) (u ∷ us) (suc n) w (suc a) l = at_both text other ts us n w.1 a
    (omega (arith, l))

meets_both : (text other : List ℕ) (o q : Option Token) (x : Test) → AtBoth text other o q
    → meets (holds text) x o ≡ meets (holds other) x q
meets_both text other None None x w = refl
meets_both text other (Some t) (Some u) x w = holds_same text other t u x w
meets_both text other None (Some u) x w = elim w [ ]
meets_both text other (Some t) None x w = elim w [ ]

module _ {P : Type 0} (production : P → Grammar Test P) where
  keeps_both : (text other : List ℕ) (o q : Option Token) (v : Kept) → AtBoth text other o q
      → KeptOf (language production text) o v → KeptOf (language production other) q v
  keeps_both text other None None v w h = h
  keeps_both text other (Some t) (Some u) v w h = sym w.kept ∙ h
  keeps_both text other None (Some u) v w h = elim w [ ]
  keeps_both text other (Some t) None v w h = elim w [ ]

  keeps_back : (text other : List ℕ) (o q : Option Token) (v : Kept) → AtBoth text other o q
      → KeptOf (language production other) q v → KeptOf (language production text) o v
  keeps_back text other None None v w h = h
  keeps_back text other (Some t) (Some u) v w h = w.kept ∙ h
  keeps_back text other None (Some u) v w h = elim w [ ]
  keeps_back text other (Some t) None v w h = elim w [ ]

  pub seen_alike : (text other : List ℕ) (ts us : List Token) (n : ℕ)
      → AreSameTokens text other (take n ts) (take n us)
      → AreSeenAlike (language production text) (language production other) ts us n
  seen_alike text other ts us n w = record {
    productions = λ p. refl;
    tests = λ a l x. meets_both text other (slice_get ts a) (slice_get us a) x
        (at_both text other ts us n w a l);
    kept = λ a l v. keeps_both text other (slice_get ts a) (slice_get us a) v
        (at_both text other ts us n w a l);
    kept_back = λ a l v. keeps_back text other (slice_get ts a) (slice_get us a) v
        (at_both text other ts us n w a l);
  }

pub same_length : (text other : List ℕ) (ts us : List Token) → AreSameTokens text other ts us
    → length ts ≡ length us
same_length text other [] [] w = refl
same_length text other (t ∷ ts) (u ∷ us) w = ap suc (same_length text other ts us w.1)
same_length text other [] (u ∷ us) w = elim w [ ]
same_length text other (t ∷ ts) [] w = elim w [ ]
