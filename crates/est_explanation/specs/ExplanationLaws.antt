-- Laws of the texts of explanations.
use Rattle.std.specs.Prelude.{◌≡◌, ℕ, true, List, ◌++◌, All, Result, Ok, Err, length}
use Rattle.est_lexer.specs.declared.kind.Token.{Token}
use Rattle.est_lexer.specs.Between.{IsBetween}
use Rattle.est_lexer.specs.TokenList.{IsTokenList}
use Rattle.est_explanation.specs.declared.error.ExplanationError.{ExplanationError}
use Rattle.est_explanation.specs.declared.error.ExplanationError.TheVariants.{BadToken, Memory}
use Rattle.est_explanation.specs.declared.explanation.Explanation.{Explanation}
use Rattle.est_explanation.specs.CanonicalExplanation.{canonical, IsWritable}
use Rattle.est_explanation.specs.CommentLines.{comment_lines, ends_no_comment}
use Rattle.est_explanation.specs.ExplanationText.{IsOnlyExplanationText, ReadsExplanation}

-- the canonical text of an explanation is a text of it, and of no other
abbrev pub CanonicalIsText : Type 0
CanonicalIsText = (x : Explanation) (tokens : List Token) → IsWritable x
    → IsTokenList (canonical x) tokens → IsOnlyExplanationText (canonical x) tokens x

-- and so it is after blanks and comments
abbrev pub CommentsAreSkipped : Type 0
CommentsAreSkipped = (front : List ℕ) (x : Explanation) (tokens : List Token) → IsWritable x
    → IsBetween (front ++ canonical x) 0 (length front)
    → IsTokenList (front ++ canonical x) tokens
    → IsOnlyExplanationText (front ++ canonical x) tokens x

-- lines of comments before a text are blanks and comments
abbrev pub CommentLinesAreComments : Type 0
CommentLinesAreComments = (lines : List (List ℕ)) (text : List ℕ)
    → All (λ said. ends_no_comment said ≡ true) lines
    → IsBetween (comment_lines lines ++ text) 0 (length (comment_lines lines))

-- the answer is this explanation, or out of memory
abbrev pub IsReadBack : Explanation → Result Explanation ExplanationError → Type 0
IsReadBack x (Ok y) = y ≡ x
IsReadBack x (Err (BadToken place)) = ⊥
IsReadBack x (Err (Memory error)) = Unit {0}

-- what is read of tokens that are a text of one explanation alone is this explanation
abbrev pub TextsAreReadBack : Type 0
TextsAreReadBack = (text : List ℕ) (tokens : List Token) (x : Explanation)
    (answer : Result Explanation ExplanationError) → IsOnlyExplanationText text tokens x
    → ReadsExplanation text tokens answer → IsReadBack x answer
