-- What is known of the syntax of explanations.
use Rattle.std.proofs.Common.{ℕ, List}
use Rattle.text_reader.specs.Marks.{Fits}
use Rattle.text_reader.specs.Tests.{language}
use Rattle.text_reader.proofs.Going.{Known}
use Rattle.est_explanation.specs.ExplanationGrammar.{NoName, production, marks}
use Rattle.est_explanation.specs.ExplanationNodes.{Node, explaining}

-- the table has nothing to say
pub fits : (text : List ℕ) → Fits (language production text) marks
fits text = record {
  starts = λ name. elim name [ ];
  goes_on = λ name. elim name [ ];
  is_empty = λ name. elim name [ ];
}

-- the syntax, and that its table fits
abbrev pub known : Known NoName Node
known = record { syntax = explaining; fits = fits }
