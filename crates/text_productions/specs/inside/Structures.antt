-- What the readers of an array, a record or a set answer, and where a declaration stands.
use Rattle.std.specs.Prelude.{◌≡◌, ℕ, List, [], ◌∷◌}
use Rattle.est_syntax.specs.declared.type_text.TypeText.{TypeText, out-TypeText}
use Rattle.text_reader.specs.declared.reader.Reader.{Reader}
use Rattle.text_reader.specs.declared.outcome.Outcome.TheVariants.{Well}
use Rattle.text_reader.specs.Going.{Goes}
use Rattle.text_productions.specs.Productions.{structure}
use Rattle.text_productions.specs.Nodes.{View, type_text, structured}
use Rattle.text_productions.specs.Syntax.{estelle}

-- an array, a record or a set is read, of a type whose first token has this place
pub record Structured (place : ℕ) (old : Reader) (result : TypeText) (new : Reader) : Type 0 where
  pub view : View
  pub goes : Goes estelle structure old view new
  pub same : new.outcome ≡ Well → type_text (out-TypeText result) ≡ structured place view

-- the place of a declaration: that of its dimensions, or of its first name where it has none
abbrev pub declared_place : List TypeText → ℕ → ℕ → ℕ
declared_place [] first there = first
declared_place (d ∷ ds) first there = there
