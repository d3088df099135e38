-- What could stand at a place of a specification.
use Rattle.std.specs.Prelude.{ℕ, List, ◌∷◌, ◌++◌, length}
use Rattle.est_lexer.specs.declared.kind.Token.{Token}
use Rattle.est_lexer.specs.TokenList.{IsTokenList}
use Rattle.text_reader.specs.Grammar.{rule}
use Rattle.text_reader.specs.Sentences.{HasPartial}
use Rattle.text_productions.specs.Productions.{specification}
use Rattle.est_grammar.specs.Answer.{estelle_in, levels}
use Rattle.advice_tokens.specs.declared.candidate.Candidate.{Candidate}
use Rattle.advice_tokens.specs.Spelled.{spelling_of}

-- The tokens of a text are the beginning of some specification.
abbrev pub AreBeginning : List ℕ → List Token → Type 0
AreBeginning text tokens =
    HasPartial (estelle_in text) (rule specification) levels tokens (length tokens)

-- All tokens of a text are the beginning of some specification, so none of them is refused.
pub record IsBeginning (text : List ℕ) : Type 0 where
  pub tokens : List Token
  pub of_text : IsTokenList text tokens
  pub partial : AreBeginning text tokens

-- With this token after it, and a space between, a text is the beginning of a specification.
abbrev pub CouldFollow : List ℕ → Candidate → Type 0
CouldFollow text candidate = IsBeginning (text ++ 32 ∷ spelling_of candidate)
