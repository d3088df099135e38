-- Parts that are printed one after the other.
use Rattle.std.specs.Prelude.{List, [], ◌∷◌, ◌++◌}
use Rattle.est_lexer.specs.declared.kind.TokenKind.{TokenKind}
use Rattle.text_reader.specs.Shown.{node}
use Rattle.text_reader.specs.Going.{Rule}
use Rattle.text_printer.specs.declared.printer.Printer.{Printer}
use Rattle.text_printer.specs.Printing.{Plan, Prints}
use Rattle.text_printer.specs.Putting.{PutsKind}

-- Parts are printed one after the other.
pub data Turns {P N : Type 0} (X : Plan P N) (g : Rule P) : List N → Printer → Printer → Type 0
  where
    no_turn : {A : Printer} → Turns X g [] A A
    turn : {A B C : Printer} (ns : List N) (n : N) → Turns X g ns A B → Prints X g (node n) B C
        → Turns X g (ns ++ n ∷ []) A C

-- So are the parts of one section, after the word that it begins with; or there are none.
pub data Section {P N : Type 0} (X : Plan P N) (k : TokenKind) (g : Rule P)
    : List N → Printer → Printer → Type 0 where
  no_section : {A : Printer} → Section X k g [] A A
  one_section : {A B C : Printer} (n : N) (ns : List N) → PutsKind k A B → Turns X g (n ∷ ns) B C
      → Section X k g (n ∷ ns) A C
