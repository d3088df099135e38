-- The syntax of specifications.
use Rattle.text_reader.specs.Going.{Syntax}
use Rattle.text_productions.specs.Productions.{Production, production}
use Rattle.text_productions.specs.FirstTokens.{marks}
use Rattle.text_productions.specs.Nodes.{Node, layer}

-- the productions, what is known of each, and what the parts of a tree show
abbrev pub estelle : Syntax Production Node
estelle = record { production = production; marks = marks; layer = layer }
