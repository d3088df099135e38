-- What is printed of lists.
use Rattle.std.proofs.Common.{◌≡◌, ℕ, ◌+◌, ◌<◌, ◌≤◌, List, [], ◌∷◌, ◌++◌, map, take, get_or, length}
use Rattle.std.proofs.Common.{sym, ◌∙◌, ap, subst, arith}
use Rattle.std.proofs.lemmas.List.{take_more, take_all, map-append}
use Rattle.text_reader.specs.Grammar.{word, seq, rep, ended}
use Rattle.text_reader.specs.Shown.{node, nodes}
use Rattle.est_lexer.specs.declared.kind.TokenKind.{TokenKind}
use Rattle.text_reader.specs.Tests.{kind}
use Rattle.text_productions.specs.Productions.{Rule}
use Rattle.text_productions.specs.Nodes.{Node}
use Rattle.text_printer.specs.declared.printer.Printer.{Printer}
use Rattle.text_printer.specs.Printing.{Prints, PrintsClosed}
use Rattle.text_printer.proofs.Printing.{several, no_several, several_closed, at_least_one}
use Rattle.text_printer.specs.Turns.{Turns, turn}
use Rattle.text_printer.proofs.Turns.{all_turns, all_ended}
use Rattle.text_printer.specs.PlainNodes.{estelle}

module _ {T : Type 0} (part : T → Node) {g : Rule} where
  -- and one more
  pub one_turn : (xs : List T) (i : ℕ) (x : T) {A B C : Printer} → i < length xs
      → get_or xs i x ≡ x → Turns estelle g (map part (take i xs)) A B
      → Prints estelle g (node (part x)) B C → Turns estelle g (map part (take (i + 1) xs)) A C
  one_turn xs i x {A} {B} {C} h e t p =
      let q : map part (take (i + 1) xs) ≡ map part (take i xs) ++ part x ∷ [] =
      ap (map part) (take_more xs i x h) ∙ map-append part (take i xs) (get_or xs i x ∷ [])
      ∙ ap (λ y. map part (take i xs) ++ part y ∷ []) e in
      subst (λ l. Turns estelle g l A C) (sym q) (turn (map part (take i xs)) (part x) t p)

  -- and all of them
  pub all_turned : (xs ys : List T) (i : ℕ) {A B : Printer} → xs ≡ ys → length xs ≤ i
      → Turns estelle g (map part (take i xs)) A B → Turns estelle g (map part ys) A B
  all_turned xs ys i {A} {B} e h t = subst (λ l. Turns estelle g (map part l) A B)
      (take_all i xs h ∙ e) t

  pub all_items : (xs ys : List T) (i : ℕ) {A B : Printer} → xs ≡ ys → length xs ≤ i
      → Turns estelle g (map part (take i xs)) A B
      → Prints estelle (rep g) (nodes (map part ys)) A B
  all_items xs ys i e h t = all_turns (all_turned xs ys i e h t)

  -- where there must be one
  pub all_several : (xs ys : List T) (i : ℕ) {A B : Printer} → xs ≡ ys → length xs ≤ i
      → Turns estelle g (map part (take i xs)) A B
      → Prints estelle (seq g (rep g)) (nodes (map part ys)) A B
  all_several xs ys i e h t = at_least_one (all_items xs ys i e h t)

  -- one, and then the others
  pub list_prints : {h : Rule} (xs rest : List T) (x : T) {A B C : Printer} → xs ≡ x ∷ rest
      → Prints estelle g (node (part x)) A B
      → Prints estelle (rep h) (nodes (map part rest)) B C
      → Prints estelle (seq g (rep h)) (nodes (map part xs)) A C
  list_prints {h} xs rest x {A} {B} {C} e p q =
      subst (λ l. Prints estelle (seq g (rep h)) (nodes (map part l)) A C) (sym e) (several p q)

  -- no items where there must be some
  pub no_list : {h : Rule} (xs : List T) {A : Printer} → length xs ≡ 0
      → Prints estelle (seq g h) (nodes (map part xs)) A A
  no_list [] e = no_several
  no_list (x ∷ xs) e = absurd (omega arith)

  pub closed_prints : {k : TokenKind} {h : Rule} (xs rest : List T) (x : T) {A B C : Printer}
      → xs ≡ x ∷ rest → Prints estelle g (node (part x)) A B
      → PrintsClosed estelle (ended (kind k) h) (nodes (map part rest)) (nodes (map part rest)) B C
      → PrintsClosed estelle (seq g (ended (kind k) h)) (nodes (map part xs)) (nodes (map part xs))
      A C
  closed_prints {k} {h} xs rest x {A} {B} {C} e p q =
      subst (λ l. PrintsClosed estelle (seq g (ended (kind k) h)) (nodes (map part l))
      (nodes (map part l)) A C) (sym e) (several_closed p q)

module _ {T : Type 0} (part : T → Node) {k : TokenKind} {g : Rule} where
  -- all items that stand behind marks
  pub all_closed : (xs ys : List T) (i : ℕ) {A B : Printer} → xs ≡ ys → length xs ≤ i
      → Turns estelle (word (kind k) g) (map part (take i xs)) A B
      → PrintsClosed estelle (ended (kind k) g) (nodes (map part ys)) (nodes (map part ys)) A B
  all_closed xs ys i e h t = all_ended (all_turned part xs ys i e h t)
