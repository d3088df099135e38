-- Which tokens are the text of an explanation, and what its reader answers.
use Rattle.std.specs.Prelude.{◌≡◌, ℕ, List, Result, Ok, Err}
use Rattle.est_lexer.specs.declared.kind.Token.{Token}
use Rattle.text_reader.specs.Grammar.{Language}
use Rattle.text_reader.specs.Sentences.{HasTree, IsFirstBadPlace}
use Rattle.text_reader.specs.Shown.{Shows, node}
use Rattle.text_reader.specs.Tests.{Test, Kept, language}
use Rattle.text_reader.specs.Going.{Shape}
use Rattle.est_explanation.specs.declared.error.ExplanationError.{ExplanationError}
use Rattle.est_explanation.specs.declared.error.ExplanationError.TheVariants.{BadToken, Memory}
use Rattle.est_explanation.specs.declared.explanation.Explanation.{Explanation}
use Rattle.est_explanation.specs.ExplanationGrammar.{NoName, production, explanation}
use Rattle.est_explanation.specs.ExplanationNodes.{an_explanation, layer}

-- explanations over the tokens of a text
abbrev pub explanations : List ℕ → Language Token Kept Test NoName
explanations text = language production text

-- the tokens of the text are a text of the explanation: they have a tree of a shape that it shows
abbrev pub IsExplanationText : List ℕ → List Token → Explanation → Type 0
IsExplanationText text tokens x = (t : Shape) × HasTree (explanations text) explanation 0 tokens t
    × Shows layer (node (an_explanation x)) t

-- the tokens of the text are a text of the explanation, and of no other
abbrev pub IsOnlyExplanationText : List ℕ → List Token → Explanation → Type 0
IsOnlyExplanationText text tokens x = IsExplanationText text tokens x
    × ((other : Explanation) → IsExplanationText text tokens other → other ≡ x)

-- what an error says of the tokens: their first bad place; out of memory says nothing
abbrev pub IsExplanationRefusal : List ℕ → List Token → ExplanationError → Type 0
IsExplanationRefusal text tokens (BadToken place) =
    IsFirstBadPlace (explanations text) explanation 0 tokens place
IsExplanationRefusal text tokens (Memory error) = Unit {0}

-- what is answered: the one explanation whose text the tokens are, or why they are none
abbrev pub ReadsExplanation : List ℕ → List Token → Result Explanation ExplanationError → Type 0
ReadsExplanation text tokens (Ok x) = IsOnlyExplanationText text tokens x
ReadsExplanation text tokens (Err error) = IsExplanationRefusal text tokens error
