-- What a loop over parts prints.
use Rattle.std.proofs.Common.{List, [], ◌∷◌, ◌++◌, sym, subst, append_assoc}
use Rattle.est_lexer.specs.declared.kind.TokenKind.{TokenKind}
use Rattle.text_reader.specs.Grammar.{word, rep, ended}
use Rattle.text_reader.specs.Shown.{nodes}
use Rattle.text_reader.specs.Tests.{kind}
use Rattle.text_reader.specs.Going.{Rule}
use Rattle.text_printer.specs.declared.printer.Printer.{Printer}
use Rattle.text_printer.specs.Printing.{Plan, Prints, PrintsClosed}
use Rattle.text_printer.specs.Turns.{Turns, no_turn, turn}
use Rattle.text_printer.proofs.Printing.{no_part, one_more, ended_out, ended_in}

module _ {P N : Type 0} {X : Plan P N} {g : Rule P} where
  -- before others that are printed
  turns_before : {ns ms : List N} {A B C : Printer} → Turns X g ns A B
      → Prints X (rep g) (nodes ms) B C → Prints X (rep g) (nodes (ns ++ ms)) A C
  turns_before no_turn y = y
  turns_before {ms = ms} {A} {B} {C} (turn ns n t x) y =
      subst (λ l. Prints X (rep g) (nodes l) A C) (sym (append_assoc ns (n ∷ []) ms))
      (turns_before t (one_more x y))

  -- all of them
  pub all_turns : {ns : List N} {A B : Printer} → Turns X g ns A B → Prints X (rep g) (nodes ns) A B
  all_turns no_turn = no_part
  all_turns (turn ns n t x) = turns_before t (one_more x no_part)

module _ {P N : Type 0} {X : Plan P N} {k : TokenKind} {g : Rule P} where
  ended_before : {ns ms : List N} {A B C : Printer} → Turns X (word (kind k) g) ns A B
      → PrintsClosed X (ended (kind k) g) (nodes ms) (nodes ms) B C
      → PrintsClosed X (ended (kind k) g) (nodes (ns ++ ms)) (nodes (ns ++ ms)) A C
  ended_before no_turn y = y
  ended_before {ms = ms} {A} {B} {C} (turn ns n t x) y =
      subst (λ l. PrintsClosed X (ended (kind k) g) (nodes l) (nodes l) A C)
      (sym (append_assoc ns (n ∷ []) ms)) (ended_before t (ended_in x y))

  pub all_ended : {ns : List N} {A B : Printer} → Turns X (word (kind k) g) ns A B
      → PrintsClosed X (ended (kind k) g) (nodes ns) (nodes ns) A B
  all_ended no_turn = ended_out
  all_ended (turn ns n t x) = ended_before t (ended_in x ended_out)
