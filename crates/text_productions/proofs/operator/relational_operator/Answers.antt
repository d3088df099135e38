use Rattle.std.proofs.Common.{refl, [], ◌∷◌}
use Rattle.est_lexer.specs.declared.kind.ReservedWord.TheVariants as words
use Rattle.est_lexer.specs.declared.kind.Symbol.TheVariants as symbols
use Rattle.est_lexer.specs.declared.kind.TokenKind.TheVariants.{Reserved, Symbol}
use Rattle.text_reader.specs.Tests.{kind}
use Rattle.text_reader.proofs.Going.{last, chosen, first_else}
use Rattle.text_productions.proofs.Fits.{K}
use Rattle.text_productions.proofs.operator.relational_operator.Goals as goal

pub returns-then-sees : goal.returns-then-sees
returns-then-sees c = chosen K 1 (kind (Symbol symbols.Unequal)) refl c.if-sees.ensures
    (last K c.symbol.ensures)

pub returns-then-sees-2 : goal.returns-then-sees-2
returns-then-sees-2 c = chosen K 2 (kind (Symbol symbols.Below)) refl c.if-sees-2.ensures
    (last K c.symbol-then-sees-2.ensures)

pub returns-then-sees-3 : goal.returns-then-sees-3
returns-then-sees-3 c = chosen K 3 (kind (Symbol symbols.AtMost)) refl c.if-sees-3.ensures
    (last K c.symbol-then-sees-3.ensures)

pub returns-then-sees-4 : goal.returns-then-sees-4
returns-then-sees-4 c = chosen K 4 (kind (Symbol symbols.Above)) refl c.if-sees-4.ensures
    (last K c.symbol-then-sees-4.ensures)

pub returns-then-sees-5 : goal.returns-then-sees-5
returns-then-sees-5 c = chosen K 5 (kind (Symbol symbols.AtLeast)) refl c.if-sees-5.ensures
    (last K c.symbol-then-sees-5.ensures)

pub returns-then-sees-6 : goal.returns-then-sees-6
returns-then-sees-6 c = chosen K 6 (kind (Reserved words.In)) refl c.if-sees-6.ensures
    (last K c.word.ensures)

pub returns : goal.returns
returns c = first_else K (kind (Symbol symbols.Unequal) ∷ kind (Symbol symbols.Below) ∷ kind
    (Symbol symbols.AtMost) ∷ kind (Symbol symbols.Above) ∷ kind (Symbol symbols.AtLeast) ∷ kind
    (Reserved words.In) ∷ []) refl refl refl refl (
      c.if-sees.ensures,
      (
        c.if-sees-2.ensures,
        (
          c.if-sees-3.ensures,
          (
            c.if-sees-4.ensures,
            (c.if-sees-5.ensures, (c.if-sees-6.ensures, tt)),
          ),
        ),
      ),
    )
    (last K c.symbol-2.ensures)
