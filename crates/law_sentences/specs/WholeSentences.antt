-- What holds of each sentence that breaks no rule.
use Rattle.std.specs.Prelude.{◌≡◌, ℕ, suc, ◌≤◌, List, [], length}
use Rattle.est_lexer.specs.declared.kind.Token.{Token}
use Rattle.est_syntax.specs.Kinds.{maxint}
use Rattle.est_syntax.specs.declared.specification.Spec.{Spec}
use Rattle.est_grammar.specs.Answer.{HasOneTree}
use Rattle.rule_declares.specs.Bodies.{outline_of}
use Rattle.est_check.specs.LeastFault.{specification_faults}
use Rattle.law_sentences.specs.FullExpressions.{IsWhole}
use Rattle.law_sentences.specs.WholeBodies.{SpecificationLacksNothing}

-- where a sentence breaks no rule, its outline is whole: each declaration has all that it should
-- have; and its statements and clauses lack nothing of what they look up
abbrev pub SentencesAreWhole : Type 0
SentencesAreWhole = (text : List ℕ) (tokens : List Token) (s : Spec)
    → length tokens ≤ suc maxint → HasOneTree text tokens s → specification_faults s ≡ []
    → IsWhole (outline_of s) × SpecificationLacksNothing s
