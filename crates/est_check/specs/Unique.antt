-- The specification of a list of tokens.
use Rattle.std.specs.Prelude.{◌≡◌, ℕ, List}
use Rattle.est_lexer.specs.declared.kind.Token.{Token}
use Rattle.est_syntax.specs.declared.specification.Spec.{Spec}
use Rattle.est_grammar.specs.Answer.{HasOneTree}

-- The tokens of a text have the one tree of at most one specification.
abbrev pub SpecificationsAreUnique : Type 0
SpecificationsAreUnique = (text : List ℕ) (tokens : List Token) (a b : Spec)
    → HasOneTree text tokens a → HasOneTree text tokens b → a ≡ b
