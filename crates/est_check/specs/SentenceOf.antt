-- The specification of a sentence.
use Rattle.std.specs.Prelude.{ℕ, suc, ◌≤◌, List, length}
use Rattle.est_lexer.specs.declared.kind.Token.{Token}
use Rattle.est_lexer.specs.TokenList.{IsTokenList}
use Rattle.est_syntax.specs.Kinds.{maxint}
use Rattle.est_syntax.specs.declared.specification.Spec.{Spec}
use Rattle.est_grammar.specs.Answer.{HasOneTree}

-- A specification is that of a sentence: the tokens of a text have this tree and no other, and are
-- no more than there are integers from 0 on.
pub record IsSentence (s : Spec) : Type 0 where
  pub text : List ℕ
  pub tokens : List Token
  pub listed : IsTokenList text tokens
  pub few : length tokens ≤ suc maxint
  pub tree : HasOneTree text tokens s
