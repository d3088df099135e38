-- What a printer of a part of a grammar does.
use Rattle.std.specs.Prelude.{◌≡◌, ℕ, ◌+◌, ◌<◌, ◌≤◌, Bool, true, false, List, ◌++◌, length}
use Rattle.std.specs.Prelude.{Option, Some, None, slice_get}
use Rattle.est_lexer.specs.declared.kind.Token.{Token}
use Rattle.est_lexer.specs.declared.kind.ReservedWord.TheVariants.{Else}
use Rattle.est_lexer.specs.declared.kind.TokenKind.TheVariants.{Reserved}
use Rattle.est_lexer.specs.Spans.{spelling}
use Rattle.est_lexer.specs.TokenKinds.{is_same}
use Rattle.est_lexer.specs.TokenList.{AreSpelled}
use Rattle.text_reader.specs.Grammar.{Tree}
use Rattle.text_reader.specs.Shown.{Shows}
use Rattle.text_reader.specs.Tests.{language}
use Rattle.text_reader.specs.Going.{Rule, Shape, View}
use Rattle.text_printer.specs.declared.printer.Printer.{Printer}
use Rattle.text_printer.specs.PlainGrammar.{plainly}
use Rattle.text_printer.specs.Aside.{Tells}
use Rattle.text_printer.specs.PlainSpelling.{IsSpelledPlainly}
use Rattle.text_printer.specs.Putting.{count, IsLaid}

-- The syntax of one sort of texts that are printed: its productions, what the parts of a value show
-- a reader, and what they show a printer.
pub record Plan (P N : Type 0) : Type 0 where
  pub production : P → Rule P
  pub layer : N → View N
  pub plain : N → View N

-- the right side of a production, as it is printed
abbrev pub plain_production : {P N : Type 0} → Plan P N → P → Rule P
plain_production X p = plainly (X.production p)

-- A text and its tokens begin with what is printed.
pub record Extends (printer : Printer) (text : List ℕ) (tokens : List Token) : Type 0 where
  pub later : List ℕ
  pub text_is : text ≡ printer.text.items ++ later
  pub more : List Token
  pub tokens_are : tokens ≡ printer.tokens.items ++ more

-- whether the token is an `else`, if there is one
abbrev pub is_else : Option Token → Bool
is_else None = false
is_else (Some token) = is_same token.kind (Reserved Else)

-- What is known of the token that comes next in a printed text, and in the text that was read:
-- nothing; the second is an `else` where the first is; or the first is none.
pub data Next : Type 0 where
  any_next same_else no_else : Next

-- it holds of these two
abbrev pub Follows : Next → Option Token → Option Token → Type 0
Follows any_next x y = Unit {0}
Follows same_else x y = is_else x ≡ true → is_else y ≡ true
Follows no_else x y = is_else x ≡ false

-- the tokens from one place up to another are spelled in the one way
pub record AreSpelledWithin (text : List ℕ) (tokens : List Token) (a b : ℕ) : Type 0 where
  pub spelled : (place : ℕ) (token : Token) → a ≤ place → place < b
      → slice_get tokens place ≡ Some token → IsSpelledPlainly token.kind (spelling text token)

-- In a text that begins with what is printed, what was printed since has a tree by g with d levels
-- to open, which the view tells.
pub record Printed {P N : Type 0} (X : Plan P N) (f : Next) (g : Rule P) (d : ℕ) (v : View N)
    (old new : Printer) (text : List ℕ) (tokens : List Token) (read : Option Token) : Type 0 where
  pub shape : Shape
  pub tree : Tree (language (plain_production X) text) tokens (length tokens) (plainly g) d
      (count old) (count new) shape
  pub tells : Tells X.plain v shape
  pub spelled : AreSpelledWithin text tokens (count old) (count new)
  pub front : Follows f (slice_get tokens (count old)) read

-- Where some text had a tree by g that the view v shows, g is printed, as the view w tells, if
-- what is known of the token after it holds; and then something is known of the token that it
-- begins with.
abbrev pub PrintsAs : {P N : Type 0} → Plan P N → Next → Next → Rule P → View N → View N → Printer
    → Printer → Type 0
PrintsAs X e f g v w old new = (source : List ℕ) (read : List Token) (d a b : ℕ) (u : Shape)
    → AreSpelled source read
    → Tree (language X.production source) read (length read) g d a b u → Shows X.layer v u
    → (text : List ℕ) (tokens : List Token) → Extends new text tokens
    → Follows e (slice_get tokens (count new)) (slice_get read b)
    → Printed X f g d w old new text tokens (slice_get read a)

-- What is printed is kept, and goes on token by token.
pub record Grows (old new : Printer) : Type 0 where
  pub well : old.spent ≡ false
  pub extends : (text : List ℕ) (tokens : List Token) → Extends new text tokens
      → Extends old text tokens
  pub onward : count old ≤ count new
  pub laid : IsLaid old → IsLaid new

-- A printer of g prints what the views have, if memory suffices; where an `else` may stand after
-- it, this is known of the token that it begins with.
pub record PrintsFor {P N : Type 0} (f : Next) (X : Plan P N) (g : Rule P) (v w : View N)
    (old new : Printer) : Type 0 where
  pub grows : new.spent ≡ false → Grows old new
  pub same : new.spent ≡ false → PrintsAs X same_else f g v w old new
  pub without : new.spent ≡ false → PrintsAs X no_else no_else g v w old new

-- A printer of g prints what the view has, if memory suffices.
abbrev pub Prints : {P N : Type 0} → Plan P N → Rule P → View N → Printer → Printer → Type 0
Prints X g v old new = PrintsFor same_else X g v v old new

-- So does a printer of what begins with a token that is no `else`.
abbrev pub Begins : {P N : Type 0} → Plan P N → Rule P → View N → Printer → Printer → Type 0
Begins X g v old new = PrintsFor no_else X g v v old new

-- A printer of g does so where no `else` stands after it.
pub record PrintsClosed {P N : Type 0} (X : Plan P N) (g : Rule P) (v w : View N)
    (old new : Printer) : Type 0 where
  pub grows : new.spent ≡ false → Grows old new
  pub without : new.spent ≡ false → PrintsAs X no_else no_else g v w old new

-- A printer of g does so, which may begin with an `else`.
pub record PrintsElse {P N : Type 0} (X : Plan P N) (g : Rule P) (v w : View N)
    (old new : Printer) : Type 0 where
  pub grows : new.spent ≡ false → Grows old new
  pub same : new.spent ≡ false → PrintsAs X same_else same_else g v w old new
  pub without : new.spent ≡ false → PrintsAs X no_else same_else g v w old new
