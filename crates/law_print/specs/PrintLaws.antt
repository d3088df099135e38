-- What holds of printed texts.
use Rattle.std.specs.Prelude.{◌≡◌, ℕ, List}
use Rattle.est_lexer.specs.declared.kind.Token.{Token}
use Rattle.est_lexer.specs.TokenList.{IsTokenList}
use Rattle.est_syntax.specs.declared.specification.Spec.{Spec}
use Rattle.text_reader.specs.Going.{Shape}
use Rattle.est_grammar.specs.Answer.{HasTree, HasOneTree}
use Rattle.est_print.specs.PrintedText.{IsPrintedText, SameButPlaces}

-- the tokens of a printed text are a sentence
abbrev pub PrintedTextsAreSentences : Type 0
PrintedTextsAreSentences = (spec : Spec) (text : List ℕ) (tokens : List Token)
    → IsPrintedText spec text → IsTokenList text tokens → (t : Shape) × HasTree text tokens t

-- a printed text is read as the same specification but for its places
abbrev pub PrintedTextsAreRead : Type 0
PrintedTextsAreRead = (spec back : Spec) (text : List ℕ) (tokens : List Token)
    → IsPrintedText spec text → IsTokenList text tokens → HasOneTree text tokens back
    → SameButPlaces spec back

-- specifications that are the same but for their places have one printed text
abbrev pub OnePrintedText : Type 0
OnePrintedText = (a b : Spec) (text other : List ℕ) → SameButPlaces a b → IsPrintedText a text
    → IsPrintedText b other → text ≡ other

-- what is read of a printed text is printed as that text
abbrev pub PrintedTextsAreStable : Type 0
PrintedTextsAreStable = (spec back : Spec) (text again : List ℕ) (tokens : List Token)
    → IsPrintedText spec text → IsTokenList text tokens → HasOneTree text tokens back
    → IsPrintedText back again → again ≡ text
