-- What the readers of the parts of sets and of lists do.
use Rattle.std.specs.Prelude.{◌≡◌, ℕ, zero, suc, ℤ, pos, negsuc, int_lt, List, [], ◌∷◌, ◌++◌}
use Rattle.std.specs.Prelude.{if◌then◌else◌}
use Rattle.std.specs.Ordering.{int_eq}
use Rattle.est_lexer.specs.declared.kind.Symbol.TheVariants as symbols
use Rattle.est_lexer.specs.declared.kind.TokenKind.TheVariants as token
use Rattle.text_reader.specs.Shown.{node}
use Rattle.est_values.specs.FittingValues.{AscendFrom}
use Rattle.text_reader.specs.declared.reader.Reader.{Reader}
use Rattle.text_reader.specs.declared.outcome.Outcome.TheVariants.{Well}
use Rattle.text_reader.specs.Tests.{kind}
use Rattle.text_reader.specs.Moving.{Takes}
use Rattle.text_reader.specs.Going.{Shape, Goes}
use Rattle.text_values.specs.TraceGrammar.{Rule, symbol}
use Rattle.text_values.specs.ValueReading.{plain}

-- ordinals that ascend, within 32 bits
abbrev pub IsAscending : List ℤ → Type 0
IsAscending zs = AscendFrom (negsuc 2147483647) (pos 2147483647) zs

-- a set with one member more
abbrev pub with_member : ℤ → List ℤ → List ℤ
with_member z [] = z ∷ []
with_member z (x ∷ xs) =
    if int_eq z x then x ∷ xs else (if int_lt z x then z ∷ x ∷ xs else x ∷ with_member z xs)

-- an item of a list that stands after so many others: after a comma, if there are any
abbrev pub after : ℕ → Rule → Rule
after zero g = g
after (suc n) g = symbol symbols.Comma g

-- a comma is taken, where so many others stand before, if there are any
abbrev pub TakesComma : ℕ → Reader → Reader → Type 0
TakesComma zero old new = new ≡ old
TakesComma (suc n) old new = Takes (kind (token.Symbol symbols.Comma)) old new

-- A reader of g reads an item of this shape, which is put last in a list.
pub record ReadsNext {V : Type 0} (g : Rule) (Is : V → Shape → Type 0) (old : Reader) (xs : List V)
    (new : Reader) (ys : List V) : Type 0 where
  pub shape : Shape
  pub goes : Goes plain g old (node shape) new
  pub is : new.outcome ≡ Well → (x : V) × Is x shape × (ys ≡ xs ++ x ∷ [])

-- A reader of g reads an ordinal of this shape, which is put in its place among the members of a
-- set.
pub record ReadsMember (g : Rule) (Is : ℤ → Shape → Type 0) (old : Reader) (xs : List ℤ)
    (new : Reader) (ys : List ℤ) : Type 0 where
  pub shape : Shape
  pub goes : Goes plain g old (node shape) new
  pub is : new.outcome ≡ Well → (z : ℤ) × Is z shape × (ys ≡ with_member z xs)
