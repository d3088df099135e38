-- What the readers of the values of a trace do.
use Rattle.std.specs.Prelude.{◌≡◌}
use Rattle.text_reader.specs.Grammar.{nothing, leaf, placed, both, left, right, some}
use Rattle.text_reader.specs.Shown.{empty, kept, at, pair, first, second, given, node}
use Rattle.text_reader.specs.declared.reader.Reader.{Reader}
use Rattle.text_reader.specs.declared.outcome.Outcome.TheVariants.{Well}
use Rattle.text_reader.specs.Going.{Shape, View, Syntax, Goes}
use Rattle.text_values.specs.TraceGrammar.{Production, Rule, production, marks}

-- a layer of a shape: each part of it shows itself
abbrev pub layer : Shape → View Shape
layer nothing = empty
layer (leaf v) = kept v
layer (placed p t) = at p (node t)
layer (both t u) = pair (node t) (node u)
layer (left t) = first (node t)
layer (right t) = second (node t)
layer (some t) = given (node t)

-- the syntax of traces, of which each part shows its shape alone
abbrev pub plain : Syntax Production Shape
plain = record { production = production; marks = marks; layer = layer }

-- A reader of g comes to the end of a tree, of whose shape this holds, or to the first bad place.
pub record Reads (g : Rule) (Is : Shape → Type 0) (old new : Reader) : Type 0 where
  pub shape : Shape
  pub goes : Goes plain g old (node shape) new
  pub is : new.outcome ≡ Well → Is shape
