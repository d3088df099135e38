-- Tokens of two texts that differ at most in where they stand, and in the letter case of words and
-- names.
use Rattle.std.specs.Prelude.{◌≡◌, ℕ, List, [], ◌∷◌}
use Rattle.est_lexer.specs.declared.kind.Token.{Token}
use Rattle.text_reader.specs.Tests.{kept_of}

-- two tokens of one kind, of which a tree keeps the same
pub record IsSameToken (text other : List ℕ) (t u : Token) : Type 0 where
  pub kind : t.kind ≡ u.kind
  pub kept : kept_of text t ≡ kept_of other u

-- two lists of such tokens, one by one
abbrev pub AreSameTokens : List ℕ → List ℕ → List Token → List Token → Type 0
AreSameTokens text other [] [] = Unit {0}
AreSameTokens text other (t ∷ ts) (u ∷ us) =
    IsSameToken text other t u × AreSameTokens text other ts us
AreSameTokens text other _ _ = ⊥
