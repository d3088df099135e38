-- The places of the trees of sentences ascend.
use Rattle.std.specs.Prelude.{ℕ, List, length}
use Rattle.est_lexer.specs.declared.kind.Token.{Token}
use Rattle.est_syntax.specs.declared.specification.Spec.{Spec}
use Rattle.text_reader.specs.Shown.{node}
use Rattle.text_productions.specs.Nodes.{a_specification, layer}
use Rattle.est_grammar.specs.Answer.{HasOneTree}
use Rattle.law_places.specs.PlaceOrder.{Stands}

-- what the specification of a sentence shows stands in order
abbrev pub PlacesAscend : Type 0
PlacesAscend = (text : List ℕ) (tokens : List Token) (spec : Spec) → HasOneTree text tokens spec
    → Stands layer (node (a_specification spec)) 0 (length tokens)
