-- The parameters of the declarations of a sentence.
use Rattle.std.specs.Prelude.{ℕ, List}
use Rattle.est_lexer.specs.declared.kind.Token.{Token}
use Rattle.est_syntax.specs.declared.specification.Spec.{Spec}
use Rattle.est_grammar.specs.Answer.{HasOneTree}
use Rattle.rule_declares.specs.Bodies.{outline_of}
use Rattle.law_sentences.specs.FullExpressions.{ParametersStandFirst, ParametersHaveKinds}

-- the parameters of the declarations of a sentence stand first in their regions, and are of sorts
-- that have kinds
abbrev pub ParametersOfSentences : Type 0
ParametersOfSentences =
    (text : List ℕ) (tokens : List Token) (s : Spec) → HasOneTree text tokens s
    → ParametersStandFirst (outline_of s) × ParametersHaveKinds (outline_of s)
