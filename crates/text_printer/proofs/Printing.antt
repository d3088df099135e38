-- From what the parts of a printer do to what the whole does.
use Rattle.std.proofs.Common.{◌≡◌, ℕ, true, false, List, [], ◌∷◌, length, subst, arith}
use Rattle.est_lexer.specs.declared.kind.Token.{Token}
use Rattle.est_lexer.specs.declared.kind.TokenKind.{TokenKind}
use Rattle.est_lexer.specs.declared.kind.ReservedWord.TheVariants.{Else}
use Rattle.est_lexer.specs.declared.kind.TokenKind.TheVariants.{Reserved}
use Rattle.text_reader.specs.Grammar.{done, word, here, skip, seq, alt, opt, rep, nearest, ended}
use Rattle.text_reader.specs.Grammar.{deeper, rule, Tree, t_seq}
use Rattle.text_reader.specs.Shown.{Shows, empty, at, pair, first, second, given, node, nodes}
use Rattle.text_reader.specs.Shown.{nowhere}
use Rattle.text_reader.specs.Tests.{kind, language}
use Rattle.text_reader.specs.Going.{Rule, Shape, View}
use Rattle.text_printer.specs.declared.printer.Printer.{Printer}
use Rattle.text_printer.specs.Putting.{PutsKind}
use Rattle.text_printer.specs.Printing.{Plan, Next, same_else, no_else, Grows, PrintsFor, Prints}
use Rattle.text_printer.specs.Printing.{PrintsClosed, PrintsElse}
use Rattle.text_printer.proofs.Putting.{put_grows}
use Rattle.text_printer.proofs.Parts as parts
use Rattle.text_printer.proofs.Parts.{is_no_else, else_word}

pub grows_here : {A : Printer} → A.spent ≡ false → Grows A A
grows_here e = record {
  well = e;
  extends = λ text s x. x;
  onward = omega arith;
  laid = λ l. l;
}

pub grows_on : {A B C : Printer} → (B.spent ≡ false → Grows A B) → Grows B C → Grows A C
grows_on f k =
    let j = f k.well in
    record {
      well = j.well;
      extends = λ text s x. j.extends text s (k.extends text s x);
      onward = omega (arith, j.onward, k.onward);
      laid = λ l. k.laid (j.laid l);
    }

none_several : {P N : Type 0} (X : Plan P N) {g h : Rule P} (source : List ℕ) (read : List Token)
    (d a b : ℕ) (u : Shape)
    → Tree (language X.production source) read (length read) (seq g h) d a b u
    → Shows X.layer (nodes []) u → ⊥
none_several X source read d a b _ (t_seq z z') j = elim j [ ]

module _ {P N : Type 0} {X : Plan P N} where
  -- NOTHING

  pub nothing_prints : {A : Printer} → Prints X done empty A A
  nothing_prints = record {
    grows = λ e. grows_here e;
    same = λ e. parts.done_as same_else;
    without = λ e. parts.done_as no_else;
  }

  pub opt_out : {g : Rule P} {A : Printer} → Prints X (opt g) empty A A
  opt_out = record {
    grows = λ e. grows_here e;
    same = λ e. parts.opt_out_as same_else;
    without = λ e. parts.opt_out_as no_else;
  }

  -- what no sentence has
  pub never : {f : Next} {g : Rule P} {v w : View N} {A : Printer}
      → ((source : List ℕ) (read : List Token) (d a b : ℕ) (u : Shape)
      → Tree (language X.production source) read (length read) g d a b u → Shows X.layer v u → ⊥)
      → PrintsFor f X g v w A A
  never n = record {
    grows = λ e. grows_here e;
    same = λ e. parts.never_as same_else n;
    without = λ e. parts.never_as no_else n;
  }

  pub never_nowhere : {f : Next} {g : Rule P} {w : View N} {A : Printer}
      → PrintsFor f X g nowhere w A A
  never_nowhere = never (λ source read d a b u z j. elim j [ ])

  -- A FORM

  -- a token, and then the rest
  pub take_any : {f m : Next} {k : TokenKind} {h : Rule P} {v w : View N} {A B C : Printer}
      → is_no_else k ≡ true → PutsKind k A B → PrintsFor m X h v w B C
      → PrintsFor f X (word (kind k) h) v w A C
  take_any n p y = record {
    grows = λ e. grows_on (λ i. put_grows (p.puts.put i)) (y.grows e);
    same = λ e. parts.said_as n (p.puts.put (y.grows e).well) same_else p.spelled (y.grows e)
        (y.same e);
    without = λ e. parts.said_as n (p.puts.put (y.grows e).well) no_else p.spelled (y.grows e)
        (y.without e);
  }

  pub take : {f : Next} {k : TokenKind} {h : Rule P} {v w : View N} {A B C : Printer}
      → is_no_else k ≡ true → PutsKind k A B → PrintsFor same_else X h v w B C
      → PrintsFor f X (word (kind k) h) v w A C
  take n p y = take_any n p y

  -- a token, and then what begins with no `else`
  pub take_sure : {f : Next} {k : TokenKind} {h : Rule P} {v w : View N} {A B C : Printer}
      → is_no_else k ≡ true → PutsKind k A B → PrintsFor no_else X h v w B C
      → PrintsFor f X (word (kind k) h) v w A C
  take_sure n p y = take_any n p y

  -- a token alone
  pub last : {f : Next} {k : TokenKind} {A B : Printer} → is_no_else k ≡ true → PutsKind k A B
      → PrintsFor f X (word (kind k) done) empty empty A B
  last n p = take n p nothing_prints

  -- one, and then the other
  pub then : {f : Next} {g h : Rule P} {v w v' w' : View N} {A B C : Printer}
      → PrintsFor f X g v w A B → PrintsFor same_else X h v' w' B C
      → PrintsFor f X (seq g h) (pair v v') (pair w w') A C
  then x y = record {
    grows = λ e. grows_on x.grows (y.grows e);
    same = λ e. parts.seq_as same_else (y.grows e) (x.same (y.grows e).well) (y.same e);
    without = λ e. parts.seq_as no_else (y.grows e) (x.without (y.grows e).well) (y.without e);
  }

  -- what begins with no `else` begins with any token that is asked
  pub begun : {g : Rule P} {v w : View N} {A B : Printer} → PrintsFor no_else X g v w A B
      → PrintsFor same_else X g v w A B
  begun x = record {
    grows = x.grows;
    same = λ e. parts.weaker same_else (x.same e);
    without = x.without;
  }

  -- what leaves no trace, and then the rest
  pub skipped : {g h : Rule P} {v w : View N} {A B : Printer}
      → PrintsFor no_else X h v w A B
      → PrintsFor no_else X (seq (skip g) h) (pair empty v) (pair empty w) A B
  skipped y = record {
    grows = y.grows;
    same = λ e. parts.seq_as same_else (y.grows e) parts.skip_as (y.same e);
    without = λ e. parts.seq_as no_else (y.grows e) parts.skip_as (y.without e);
  }

  -- what may have a mark at its end, and then the rest
  pub then_closed : {g h : Rule P} {v w v' w' : View N} {A B C : Printer}
      → PrintsClosed X g v w A B → PrintsFor no_else X h v' w' B C
      → PrintsFor no_else X (seq g h) (pair v v') (pair w w') A C
  then_closed x y = record {
    grows = λ e. grows_on x.grows (y.grows e);
    same = λ e. parts.seq_as same_else (y.grows e) (x.without (y.grows e).well) (y.same e);
    without = λ e. parts.seq_as no_else (y.grows e) (x.without (y.grows e).well) (y.without e);
  }

  module _ {f : Next} {g : Rule P} {v w : View N} {A B : Printer} (x : PrintsFor f X g v w A B)
    where
      pub here_prints : (p : ℕ) → PrintsFor f X (here g) (at p v) (at p w) A B
      here_prints p = record {
        grows = x.grows;
        same = λ e. parts.here_as same_else (x.same e);
        without = λ e. parts.here_as no_else (x.without e);
      }

      pub in_first : {h : Rule P} → PrintsFor f X (alt g h) (first v) (first w) A B
      in_first = record {
        grows = x.grows;
        same = λ e. parts.left_as same_else (x.same e);
        without = λ e. parts.left_as no_else (x.without e);
      }

      pub in_second : {h : Rule P} → PrintsFor f X (alt h g) (second v) (second w) A B
      in_second = record {
        grows = x.grows;
        same = λ e. parts.right_as same_else (x.same e);
        without = λ e. parts.right_as no_else (x.without e);
      }

      pub opt_in : PrintsFor f X (opt g) (given v) (given w) A B
      opt_in = record {
        grows = x.grows;
        same = λ e. parts.opt_in_as same_else (x.same e);
        without = λ e. parts.opt_in_as no_else (x.without e);
      }

      pub deep : PrintsFor f X (deeper g) v w A B
      deep = record {
        grows = x.grows;
        same = λ e. parts.deeper_as same_else (x.same e);
        without = λ e. parts.deeper_as no_else (x.without e);
      }

  -- a production
  pub rule_prints : {f : Next} {p : P} {v w : View N} {A B : Printer}
      → PrintsFor f X (X.production p) v w A B → PrintsFor f X (rule p) v w A B
  rule_prints x = record {
    grows = x.grows;
    same = λ e. parts.rule_as same_else (x.same e);
    without = λ e. parts.rule_as no_else (x.without e);
  }

  -- a part, whose layer these views are
  pub part : {f : Next} {g : Rule P} {n : N} {v w : View N} {A B : Printer} → v ≡ X.layer n
      → w ≡ X.plain n → PrintsFor f X g v w A B → PrintsFor f X g (node n) (node n) A B
  part {f} {g} {n} {v} {w} {A} {B} p q x =
      let y : PrintsFor f X g (X.layer n) (X.plain n) A B =
      subst (λ u. PrintsFor f X g (X.layer n) u A B) q
      (subst (λ u. PrintsFor f X g u w A B) p x) in
      record {
        grows = y.grows;
        same = λ e. parts.node_as same_else (y.same e);
        without = λ e. parts.node_as no_else (y.without e);
      }

  -- the same view in other words
  pub shown : {f : Next} {g : Rule P} {v w : View N} {A B : Printer} → v ≡ w
      → PrintsFor f X g v v A B → PrintsFor f X g w w A B
  shown {f} {g} {A = A} {B} e x = subst (λ u. PrintsFor f X g u u A B) e x

  -- an `else`, or none
  pub else_out : {g : Rule P} {A : Printer} → PrintsElse X (nearest else_word g) empty empty A A
  else_out = record {
    grows = λ e. grows_here e;
    same = λ e. parts.else_out_same;
    without = λ e. parts.else_out_without;
  }

  pub else_in : {m : Next} {g : Rule P} {v w : View N} {A B C : Printer}
      → PutsKind (Reserved Else) A B → PrintsFor m X g v w B C
      → PrintsElse X (nearest else_word g) (given v) (given w) A C
  else_in p y = record {
    grows = λ e. grows_on (λ i. put_grows (p.puts.put i)) (y.grows e);
    same = λ e. parts.else_in_as same_else (p.puts.put (y.grows e).well) p.spelled (y.grows e)
        (y.same e);
    without = λ e. parts.else_in_as no_else (p.puts.put (y.grows e).well) p.spelled (y.grows e)
        (y.without e);
  }

  -- a token, one part, and what an `else` may begin
  pub before_else : {f : Next} {k : TokenKind} {g h : Rule P} {v w v' w' : View N}
      {A B C D : Printer} → is_no_else k ≡ true → PutsKind k A B → PrintsFor same_else X g v w B C
      → PrintsElse X h v' w' C D
      → PrintsFor f X (word (kind k) (seq g h)) (pair v v') (pair w w') A D
  before_else n p x y = record {
    grows = λ e. grows_on (λ i. put_grows (p.puts.put i)) (grows_on x.grows (y.grows e));
    same = λ e. let k = grows_on x.grows (y.grows e) in
        parts.said_as n (p.puts.put k.well) same_else p.spelled k
        (parts.seq_as same_else (y.grows e) (x.same (y.grows e).well) (y.same e));
    without = λ e. let k = grows_on x.grows (y.grows e) in
        parts.said_as n (p.puts.put k.well) no_else p.spelled k
        (parts.seq_as no_else (y.grows e) (x.same (y.grows e).well) (y.without e));
  }

  -- LISTS

  pub no_part : {g : Rule P} {A : Printer} → Prints X (rep g) (nodes []) A A
  no_part = record {
    grows = λ e. grows_here e;
    same = λ e. parts.rep_out_as same_else;
    without = λ e. parts.rep_out_as no_else;
  }

  pub one_more : {g : Rule P} {n : N} {ns : List N} {A B C : Printer}
      → Prints X g (node n) A B → Prints X (rep g) (nodes ns) B C
      → Prints X (rep g) (nodes (n ∷ ns)) A C
  one_more x y = record {
    grows = λ e. grows_on x.grows (y.grows e);
    same = λ e. parts.rep_in_as same_else (y.grows e) (x.same (y.grows e).well) (y.same e);
    without = λ e. parts.rep_in_as no_else (y.grows e) (x.without (y.grows e).well) (y.without e);
  }

  -- one, and then the others
  pub several : {f : Next} {g h : Rule P} {n : N} {ns : List N} {A B C : Printer}
      → PrintsFor f X g (node n) (node n) A B → Prints X h (nodes ns) B C
      → PrintsFor f X (seq g h) (nodes (n ∷ ns)) (nodes (n ∷ ns)) A C
  several x y = record {
    grows = λ e. grows_on x.grows (y.grows e);
    same = λ e. parts.several_as same_else (y.grows e) (x.same (y.grows e).well) (y.same e);
    without = λ e. parts.several_as no_else (y.grows e) (x.without (y.grows e).well) (y.without e);
  }

  -- no part where there must be one
  pub no_several : {f : Next} {g h : Rule P} {w : View N} {A : Printer}
      → PrintsFor f X (seq g h) (nodes []) w A A
  no_several = never (none_several X)

  -- parts one after the other, where there must be one
  pub at_least_one : {g : Rule P} {ns : List N} {A B : Printer} → Prints X (rep g) (nodes ns) A B
      → Prints X (seq g (rep g)) (nodes ns) A B
  at_least_one x = record {
    grows = x.grows;
    same = λ e. parts.as_several same_else (x.same e);
    without = λ e. parts.as_several no_else (x.without e);
  }

  pub ended_out : {k : TokenKind} {g : Rule P} {A : Printer}
      → PrintsClosed X (ended (kind k) g) (nodes []) (nodes []) A A
  ended_out = record { grows = λ e. grows_here e; without = λ e. parts.ended_out_as }

  pub ended_in : {k : TokenKind} {g : Rule P} {n : N} {ns : List N} {A B C : Printer}
      → Prints X (word (kind k) g) (node n) A B
      → PrintsClosed X (ended (kind k) g) (nodes ns) (nodes ns) B C
      → PrintsClosed X (ended (kind k) g) (nodes (n ∷ ns)) (nodes (n ∷ ns)) A C
  ended_in x y = record {
    grows = λ e. grows_on x.grows (y.grows e);
    without = λ e. parts.ended_in_as (y.grows e) (x.without (y.grows e).well) (y.without e);
  }

  pub several_closed : {g h : Rule P} {n : N} {ns : List N} {A B C : Printer}
      → Prints X g (node n) A B → PrintsClosed X h (nodes ns) (nodes ns) B C
      → PrintsClosed X (seq g h) (nodes (n ∷ ns)) (nodes (n ∷ ns)) A C
  several_closed x y = record {
    grows = λ e. grows_on x.grows (y.grows e);
    without = λ e. parts.several_as no_else (y.grows e) (x.without (y.grows e).well) (y.without e);
  }
