-- The tokens of a text have at most one specification.
use Rattle.std.proofs.Common.{◌≡◌, ℕ, List}
use Rattle.est_lexer.specs.declared.kind.Token.{Token}
use Rattle.est_syntax.specs.declared.specification.Spec.{Spec}
use Rattle.est_grammar.specs.Answer.{HasOneTree}

pub same_specification : (text : List ℕ) (tokens : List Token) (a b : Spec)
    → HasOneTree text tokens a → HasOneTree text tokens b → a ≡ b
same_specification text tokens a b p q = q.only_value a (p.shape, p.tree, p.shows)
