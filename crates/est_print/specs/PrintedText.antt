-- The printed text of a specification, and specifications that are the same but for their places.
use Rattle.std.specs.Prelude.{ℕ, List}
use Rattle.est_lexer.specs.declared.kind.Token.{Token}
use Rattle.est_lexer.specs.TokenList.{IsTokenList}
use Rattle.text_reader.specs.Grammar.{rule}
use Rattle.text_reader.specs.Sentences.{HasTree}
use Rattle.text_reader.specs.Shown.{node}
use Rattle.est_syntax.specs.declared.specification.Spec.{Spec}
use Rattle.text_reader.specs.Tests.{language}
use Rattle.text_reader.specs.Going.{Shape}
use Rattle.text_productions.specs.Productions.{production, specification}
use Rattle.text_productions.specs.Nodes.{a_specification}
use Rattle.est_grammar.specs.Answer.{levels, HasOneTree}
use Rattle.text_printer.specs.Aside.{Tells, Alike}
use Rattle.text_printer.specs.PlainSpelling.{AreSpelledPlainly}
use Rattle.text_printer.specs.Spacing.{AreSpacedFrom}
use Rattle.text_printer.specs.PlainGrammar.{plainly}
use Rattle.text_printer.specs.PlainNodes.{plain_layer}

-- The tokens are the plain tokens of the specification: they have a tree by the grammar without
-- what need not be written, which it tells but for its places.
pub record ArePlainTokens (text : List ℕ) (tokens : List Token) (spec : Spec) : Type 0 where
  pub shape : Shape
  pub tree : HasTree (language (λ p. plainly (production p)) text) (rule specification) levels
      tokens shape
  pub tells : Tells plain_layer (node (a_specification spec)) shape

-- The text is the printed text of the specification: its tokens are the plain ones, spelled and
-- spaced in the one way.
pub record IsPrintedText (spec : Spec) (text : List ℕ) : Type 0 where
  pub tokens : List Token
  pub list : IsTokenList text tokens
  pub plain : ArePlainTokens text tokens spec
  pub spelled : AreSpelledPlainly text tokens
  pub spaced : AreSpacedFrom text 0 0 tokens

-- two specifications are the same but for their places
abbrev pub SameButPlaces : Spec → Spec → Type 0
SameButPlaces a b = Alike plain_layer (node (a_specification a)) (node (a_specification b))

-- The specification is that of a sentence: the tokens of a text have this tree and no other.
pub record IsOfSentence (spec : Spec) : Type 0 where
  pub source : List ℕ
  pub read : List Token
  pub listed : IsTokenList source read
  pub tree : HasOneTree source read spec
