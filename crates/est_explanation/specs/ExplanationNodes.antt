-- What explanations show of their texts, a layer at a time.
use Rattle.std.specs.Prelude.{ℕ, map}
use Rattle.text_reader.specs.Shown.{empty, kept, pair, first, second, nodes}
use Rattle.est_meaning.specs.declared.firing.Firing.{Firing}
use Rattle.est_meaning.specs.declared.run.Move.{Move}
use Rattle.est_meaning.specs.declared.run.Move.TheVariants.{Take, Fire}
use Rattle.text_reader.specs.Tests.{value}
use Rattle.text_reader.specs.Going as going
use Rattle.text_reader.specs.Going.{Syntax}
use Rattle.est_explanation.specs.declared.explanation.Explanation.{Explanation}
use Rattle.est_explanation.specs.ExplanationGrammar.{NoName, production, marks}

-- The parts of explanations.
pub data Node : Type 0 where
  a_move : Move → Node
  an_explanation : Explanation → Node

-- one layer of a part
abbrev pub View : Type 0
View = going.View Node

-- a number that is read
abbrev pub number_view : ℕ → View
number_view n = kept (value n)

-- the three numbers of a firing in order
abbrev pub firing_view : Firing → View
firing_view firing = pair (number_view firing.instance)
    (pair (number_view firing.transition) (number_view firing.choice))

-- which of the two moves, and the numbers of a firing
abbrev pub move_layer : Move → View
move_layer Take = first empty
move_layer (Fire firing) = second (firing_view firing)

-- the layer of each part; an explanation shows its moves in order and its claim
abbrev pub layer : Node → View
layer (a_move move) = move_layer move
layer (an_explanation x) = pair (nodes (map a_move x.moves)) (number_view x.claim)

-- the syntax of explanations
abbrev pub explaining : Syntax NoName Node
explaining = record { production = production; marks = marks; layer = layer }
