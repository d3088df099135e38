-- How large sentences are.
use Rattle.std.specs.Prelude.{ℕ, ◌≤◌, List, length}
use Rattle.est_lexer.specs.declared.kind.Token.{Token}
use Rattle.est_syntax.specs.declared.specification.Spec.{Spec}
use Rattle.est_check.specs.Small.{IsSmall, most_parts}
use Rattle.est_grammar.specs.Answer.{HasOneTree}

-- A sentence of few tokens is a small specification.
abbrev pub SentencesAreSmall : Type 0
SentencesAreSmall = (text : List ℕ) (tokens : List Token) (spec : Spec)
    → HasOneTree text tokens spec → length tokens ≤ most_parts → IsSmall spec
